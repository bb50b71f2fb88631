-- The proofs of the claims about the session.
pub mod Facts
pub mod Packets
pub mod Tables
pub mod Steps
pub mod Judged
pub mod Runs
pub mod Corollaries
pub mod Stale
pub mod Cutting
pub mod Growth
pub mod Times
pub mod Cut
pub mod Untouched
