-- Each table of tests decides as its table of conditions says.
pub mod Deciding
pub mod Tables
pub mod Good
