mod Puts
mod Streams
mod Acts
mod Examples
