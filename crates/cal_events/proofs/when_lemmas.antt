pub mod FormLemmas
pub mod OneZoned
