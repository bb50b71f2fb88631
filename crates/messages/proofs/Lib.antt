-- What the fields of a header say, by the message's bytes.
pub mod Headers
pub mod Padding
