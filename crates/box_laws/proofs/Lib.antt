pub mod law_lemmas
pub mod examples
