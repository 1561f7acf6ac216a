mod Examples
pub mod Bridge
pub mod Order
pub mod Dates
pub mod Growth
