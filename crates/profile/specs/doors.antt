-- what becomes of an object before a room reads it
pub mod Uses
pub mod Adapting
pub mod OnClocks
pub mod InstancesOnClocks
pub mod Returning
