-- What a reader of this crate must believe: how the code's session and answers stand for those of the definitions.
pub mod Views
pub mod Values
pub mod Acts
pub mod Run
pub mod Cuts
pub mod Demands
