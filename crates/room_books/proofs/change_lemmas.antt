pub mod Own
pub mod Hiding
pub mod Wholes
pub mod Splits
pub mod Looking
