pub mod Law
pub mod Shown
