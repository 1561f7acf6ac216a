pub mod NumberLemmas
pub mod OneCalendar
pub mod OneText
pub mod ConfirmedLemmas
