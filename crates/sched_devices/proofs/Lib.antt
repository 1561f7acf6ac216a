pub mod HeldFiles
pub mod HeldPast
pub mod InputLemmas
pub mod NotedCalls
pub mod OutputLemmas
mod FolderExamples
