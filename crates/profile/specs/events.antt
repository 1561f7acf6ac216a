-- what the lines of a VEVENT say
pub mod Properties
pub mod ZonedTimes
pub mod EventRules
pub mod Occurrences
pub mod EventComponents
pub mod EventBlame
pub mod Placed
pub mod Events
pub mod Messages
pub mod Starts
pub mod Confirmed
pub mod Expanding
pub mod Spans
pub mod Residues
