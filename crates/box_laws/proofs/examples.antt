pub mod DivisionExamples
