-- The laws of the records, which the proofs below and the crates above cite.
pub mod Maps
pub mod Records
pub mod Offsets
