pub mod KeptExamples
pub mod Examples
pub mod ZonedExamples
