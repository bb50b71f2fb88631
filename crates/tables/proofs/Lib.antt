-- The theorem of the table's rules.
pub mod Good
