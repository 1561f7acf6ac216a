-- the headline, and below it what it rests on, by what a reader wants to believe
pub mod Headline
-- what a yes of the checker means, and what is published of a room
pub mod checker
-- what a room takes, decides and keeps
pub mod rooms
-- what an organiser keeps, sends and receives
pub mod organisers
-- what is written for a stream, in a folder, in a world of several, and in a report
pub mod streams
-- what the lines of a VEVENT say
pub mod events
-- days, rules and zones
pub mod series
-- what octets, lines, components and values are
pub mod text
-- the numbers of refusals, and which comes first
pub mod faults
-- the written form of a zone
pub mod written
-- what becomes of an object before a room reads it
pub mod doors
