pub mod Past
pub mod Latest
