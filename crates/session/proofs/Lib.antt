-- Why the code is what the definitions say.
pub mod Opening
pub mod Inquiring
pub mod Writing
pub mod Planning
pub mod Carrying
pub mod Run
pub mod Cuts
pub mod Demands
