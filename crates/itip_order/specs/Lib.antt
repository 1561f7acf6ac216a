pub mod Freshness
pub mod Greatest
pub mod Parts
pub mod Registers
