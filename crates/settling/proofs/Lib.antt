-- Why the plans are what the definitions say.
pub mod Acts
mod Fitting
