pub mod Keeping
pub mod PartLines
pub mod RoomLines
pub mod Writing
