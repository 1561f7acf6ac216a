-- what a room takes, decides and keeps
pub mod Revisions
pub mod Messages
pub mod Rooms
pub mod Kept
