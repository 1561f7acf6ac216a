pub mod Timelines
pub mod Changing
