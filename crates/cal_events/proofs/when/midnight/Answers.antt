use Rattle.std.proofs.Common.{List, ℕ, sym, subst}
use Rattle.profile.specs.text.Values.{SpellsDate}
use Rattle.ical_values.proofs.Exits.{if_none}
use Rattle.cal_events.proofs.when.midnight.Goals as goal

pub returns-in_err-day-clause-none : goal.returns-in_err-day-clause-none
returns-in_err-day-clause-none c =
    if_none c.from_residual.result (λ d. c.in_err-day.ensures.none d.0 (subst (λ (text : List ℕ). SpellsDate text d.0) (sym c.as_bytes.ensures.value) d.1))
