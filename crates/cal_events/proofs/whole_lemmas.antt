pub mod RuleInstances
pub mod Lasting
