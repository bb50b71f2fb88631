-- Why the C functions are what specs/ says.
pub mod Places
