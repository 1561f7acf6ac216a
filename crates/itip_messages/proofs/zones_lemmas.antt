pub mod ZoneSets
