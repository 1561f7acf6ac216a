pub mod Replying
pub mod BySlot
