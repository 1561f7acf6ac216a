use Rattle.std.proofs.Common.{arith}
use Rattle.std.proofs.lemmas.Grind.{common_steps}
use Rattle.std.proofs.Common.{rules}
use Rattle.cal_rules.proofs.listing.enter.Goals as goal

pub returns-in-Some-clause-not_before : goal.returns-in-Some-clause-not_before
returns-in-Some-clause-not_before c = search rules

pub returns-in-Some-clause-span : goal.returns-in-Some-clause-span
returns-in-Some-clause-span c = search rules

pub returns-in-Some-clause-none : goal.returns-in-Some-clause-none
returns-in-Some-clause-none c = search rules

pub returns-in-Some-clause-is_cursor : goal.returns-in-Some-clause-is_cursor
returns-in-Some-clause-is_cursor c = search rules

pub returns-clause-not_before : goal.returns-clause-not_before
returns-clause-not_before c = search rules

pub returns-clause-span : goal.returns-clause-span
returns-clause-span c = search rules

pub returns-clause-none : goal.returns-clause-none
returns-clause-none c = search rules

pub returns-clause-is_cursor : goal.returns-clause-is_cursor
returns-clause-is_cursor c = search rules

pub returns-then-is_empty-clause-is_cursor : goal.returns-then-is_empty-clause-is_cursor
returns-then-is_empty-clause-is_cursor c = grind (arith, common_steps)
