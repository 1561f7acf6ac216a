pub mod SingleStartLemmas
