-- What a reader of this crate must believe: the reply to an import request.
pub mod Imports
