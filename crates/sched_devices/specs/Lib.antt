pub mod Calls
pub mod Failure
pub mod Folder
pub mod Input
pub mod Memory
pub mod Noted
pub mod Output
pub mod Taking
