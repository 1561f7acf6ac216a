pub mod EventExamples
pub mod ExpandedExample
pub mod SaidRules
pub mod SeriesExamples
pub mod Worked
