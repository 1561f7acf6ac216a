-- days, rules and zones
pub mod Days
pub mod Rules
pub mod Repeating
pub mod Periods
pub mod RuleTexts
pub mod Zones
pub mod ZoneTexts
pub mod RoomZones
pub mod GeneralZones
pub mod GeneralZoneTexts
pub mod Residues
pub mod ZoneBlame
