pub mod TimesLemmas
