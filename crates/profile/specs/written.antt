-- the written form of a zone
pub mod WrittenZones
