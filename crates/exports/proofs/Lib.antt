-- The laws of the devices' rules, which the crates above cite too: Chains on a test of each element, Texts on a path and a busid;
-- Good is the theorem.
pub mod Chains
pub mod Texts
pub mod Good
