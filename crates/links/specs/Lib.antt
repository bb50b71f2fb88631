-- What a reader of this crate must believe: how the code's link stands for a session of the definitions, and when its parts fit.
pub mod Links
