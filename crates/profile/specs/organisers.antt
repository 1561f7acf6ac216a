-- what an organiser keeps, sends and receives
pub mod Organisers
pub mod Sent
