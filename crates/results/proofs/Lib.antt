-- The laws of results: how many there are, how they are summed and compared, and when they don't fit.
pub mod Laws
pub mod Fitting
