pub mod TimesOnClocks
pub mod EventsOnClocks
