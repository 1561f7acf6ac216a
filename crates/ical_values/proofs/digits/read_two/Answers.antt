use Rattle.std.proofs.Common.{◌/◌, ◌%◌, arith, sym}
use Rattle.ical_values.proofs.Exits.{if_none}
use Rattle.ical_values.proofs.Pairs.{two_heads}
use Rattle.ical_values.proofs.digits.read_two.Goals as goal

pub returns-in_err-high-clause-none : goal.returns-in_err-high-clause-none
returns-in_err-high-clause-none c =
    if_none c.from_residual.result (λ n h e. c.in_err-high.ensures.none (n / 10) (omega arith) (sym (two_heads _ _ _ e).0))

pub returns-in_err-low-clause-none : goal.returns-in_err-low-clause-none
returns-in_err-low-clause-none c =
    if_none c.from_residual-in_err-low.result (λ n h e. c.in_err-low.ensures.none (n % 10) (omega arith) (sym (two_heads _ _ _ e).1))
