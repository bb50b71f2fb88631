-- Why the code is what the definitions say, and what the guard gives.
pub mod Fits
pub mod Views
pub mod Tidy
