-- What a reader of this crate must believe: the ordered tables of refusals, breaks and statuses.
pub mod Numbers
pub mod Verdicts
