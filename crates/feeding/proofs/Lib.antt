-- Why the plan of a feed, carried out, is the feed of the definitions.
pub mod Lending
pub mod Waiting
pub mod Behind
pub mod Stages
pub mod Moments
pub mod Headers
pub mod Bodies
pub mod Pieces
pub mod Messages
pub mod Requests
pub mod Acts
