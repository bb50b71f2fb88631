-- What a reader of this crate must believe: what the device side says of an isochronous URB's packets, and when it fits them.
pub mod Results
