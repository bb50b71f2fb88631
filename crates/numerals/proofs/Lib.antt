-- The laws of digits, and what the libraries write.
pub mod Digits
pub mod Numbers
