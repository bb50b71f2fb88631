-- The theorems about the tape's definitions.
pub mod Reading
pub mod Results
pub mod Wanted
pub mod Known
pub mod Good
