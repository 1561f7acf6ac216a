mod Examples
mod RuleExamples
mod ZoneExamples
mod RuleTextExamples
mod ZoneTextExamples
mod WrittenZoneExamples
mod EventRuleExamples
mod OccurrenceExamples
mod FormExamples
pub mod SpanExamples
mod ResidueExamples
mod StartExamples
mod ConfirmedExamples
mod OrganiserExamples
pub mod Repeats
pub mod ResidueStarts
pub mod ZoneRepeats
pub mod SeriesRepeats
pub mod PairRepeats
pub mod MadeCertificates
pub mod ZoneClocks
pub mod ListedTimes
