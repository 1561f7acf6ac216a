pub mod RuleDayLemmas
