-- The theorem of the look-up.
pub mod First
