-- The laws of packets: how they are read, what the tests on them stand for, and worked cases.
pub mod Reading
pub mod Walk
pub mod Plain
pub mod Examples
