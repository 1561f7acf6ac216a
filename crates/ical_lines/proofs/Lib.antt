mod Samples
pub mod BegunLemmas
pub mod BreakLemmas
pub mod ContentLemmas
pub mod CutLemmas
pub mod EndLemmas
pub mod FaultLemmas
pub mod FirstLemmas
pub mod FoldLemmas
pub mod PieceLemmas
pub mod QuoteLemmas
pub mod ReadBackLemmas
pub mod SplitLemmas
pub mod UnfoldLemmas
pub mod Utf8Lemmas
pub mod Yields
pub mod CleanLines
pub mod IdleLemmas
pub mod OutsideLemmas
pub mod MarkLemmas
mod PlainLemmas
pub mod ReturnLemmas
pub mod FirstLineLemmas
