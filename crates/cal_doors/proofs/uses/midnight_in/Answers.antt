use Rattle.std.proofs.Common.{◌∙◌, ap, sym, subst, pos, ◌*ℤ◌}
use Rattle.profile.specs.text.Values.{SpellsDate}
use Rattle.ical_values.proofs.Readings.{date_same}
use Rattle.cal_doors.proofs.UsesTexts.{midnight_back}
use Rattle.cal_doors.proofs.uses.midnight_in.Goals as goal

pub returns-in-Some-clause-value : goal.returns-in-Some-clause-value
returns-in-Some-clause-value c = λ local s.
    let spelled : SpellsDate c.args.text.now c.in-Some.day = subst (λ t. SpellsDate t c.in-Some.day) c.as_bytes.ensures.value c.in-Some.ensures.found in
    let e = c.number.ensures.value ∙ date_same c.args.text.now c.in-Some.day s.0 spelled s.1 in
    midnight_back c.number.result c.number.ensures.range ∙ ap (λ x. x *ℤ pos 86_400) e ∙ sym s.2

pub returns-in-None-clause-value : goal.returns-in-None-clause-value
returns-in-None-clause-value c = λ local s. absurd (c.in-None.ensures.none s.0 (subst (λ t. SpellsDate t s.0) (sym c.as_bytes.ensures.value) s.1))
