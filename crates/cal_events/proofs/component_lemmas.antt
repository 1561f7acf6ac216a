pub mod Said
pub mod OneOccurrences
pub mod OneEventRule
pub mod OneEvent
pub mod PlainSingles
pub mod OwnInstances
pub mod PlacedTimes
