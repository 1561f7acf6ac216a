pub mod KeyLemmas
pub mod CalendarKeys
