-- what a yes of the checker means, and what is published of a room
pub mod Instances
pub mod Certificates
pub mod Calendars
pub mod Agendas
pub mod Publishing
pub mod Naming
pub mod Blamed
