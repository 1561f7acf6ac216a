mod Examples
pub mod Pairs
pub mod Spelled
pub mod Escapes
pub mod Addresses
pub mod Offsets
pub mod Parts
pub mod Signs
pub mod Readings
pub mod Spans
pub mod Exits
pub mod Facts
pub mod ShownValues
pub mod EscapedText
pub mod AllOrNone
