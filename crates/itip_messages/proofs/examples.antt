pub mod Examples
pub mod ReplyExamples
