pub mod WorldExamples
