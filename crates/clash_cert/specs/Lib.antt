pub mod Texts
pub mod Reading
pub mod Walked
pub mod Stops
pub mod Chosen
pub mod Grouped
pub mod Looked
pub mod Makings
