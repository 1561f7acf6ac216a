pub mod CauseLemmas
pub mod FlawLemmas
pub mod ObstacleLemmas
pub mod PlaceLemmas
pub mod RefusedLemmas
