pub mod Alike
pub mod AlikeLists
pub mod OneMeeting
