-- The laws of what stands in specs/, and of lists, which the crates above cite.
pub mod Cases
pub mod Tests
pub mod Match
pub mod Lists
pub mod Walks
pub mod Parts
