pub mod Digits
pub mod Halving
