mod Samples
pub mod NumberLemmas
pub mod BuiltLemmas
pub mod RefusalLemmas
pub mod WriteLemmas
pub mod PairLemmas
pub mod OneTree
pub mod ReadsBackLemmas
pub mod TreeOfLemmas
pub mod InsideLemmas
pub mod PlacedLemmas
pub mod SameTrees
pub mod OneLine
pub mod OwnLemmas
pub mod PropertyLemmas
mod RunLemmas
mod FirstOctet
