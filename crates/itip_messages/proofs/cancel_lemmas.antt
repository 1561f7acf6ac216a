pub mod CancelLines
