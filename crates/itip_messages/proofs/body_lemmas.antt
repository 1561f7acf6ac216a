pub mod TimeLists
pub mod ZonePlaces
pub mod BodyLemmas
