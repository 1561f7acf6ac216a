pub mod OccurrenceLemmas
pub mod RecurrenceLemmas
