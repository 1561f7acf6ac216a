pub mod Answers
pub mod Attending
pub mod Representation
pub mod Storing
pub mod Showing
pub mod Shown
pub mod Calls
