pub mod OtherTree
pub mod Worded
pub mod Named
pub mod Places
