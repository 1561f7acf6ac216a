-- what is written for a stream
pub mod Streams
-- the world of a schedule of stores and deliveries
pub mod Worlds
-- what holds in each such world
pub mod Schedules
-- folders of messages and of answers, and what a stop may leave of them
pub mod Folders
-- what a box compares before it publishes, and what a comparison alone finds
pub mod Comparing
-- several boxes that share the rooms and organisers of one
pub mod Divisions
-- what became of each object, for who reads a report
pub mod Reports
