pub mod Own
pub mod Reading
pub mod ReadsBack
pub mod Runs
pub mod Tree
