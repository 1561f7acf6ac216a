pub mod RoomInstances
