pub mod CountedLines
pub mod AttendeeSearch
