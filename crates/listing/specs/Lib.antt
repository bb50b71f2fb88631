-- What a reader of this crate must believe: the reply to a list request.
pub mod Lists
