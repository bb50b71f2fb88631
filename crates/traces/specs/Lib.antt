-- What a reader of this crate must believe: the lines that `trace` adds.
pub mod Traces
