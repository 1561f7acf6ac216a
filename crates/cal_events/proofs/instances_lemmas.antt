pub mod ClockLemmas
