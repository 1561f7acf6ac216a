pub mod Blamed
pub mod EventsRead
