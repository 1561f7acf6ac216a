pub mod Written
pub mod Octets
pub mod Refused
pub mod Counts
pub mod Escaped
