pub mod Leading
pub mod Passing
pub mod Scanning
pub mod StreamLemmas
pub mod Taking
