-- the numbers of refusals, which comes first, and at which line
pub mod Faults
pub mod First
pub mod Blame
