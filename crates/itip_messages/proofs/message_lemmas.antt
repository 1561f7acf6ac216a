pub mod KnownEvents
pub mod TreeLemmas
pub mod MadeMessage
