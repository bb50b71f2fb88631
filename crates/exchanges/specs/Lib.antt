-- What a reader of this crate must believe: the exchanges, and what must be seen of each.
pub mod Exchanges
