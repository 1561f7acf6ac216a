pub mod OwnKeys
pub mod Said
pub mod Periods
