-- Why the code gives what the definitions say.
pub mod Ages
