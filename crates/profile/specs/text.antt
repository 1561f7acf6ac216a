-- what octets, lines, components and values are
pub mod Lines
pub mod ObjectBlame
pub mod Objects
pub mod Trees
pub mod Values
