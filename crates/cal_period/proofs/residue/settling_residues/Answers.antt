use Rattle.std.proofs.Common.{◌∙◌, sym, refl, ◌*◌}
use Rattle.std.proofs.lemmas.Bool.{true≢false}
use Rattle.cal_events.specs.Series.{series_said}
use Rattle.cal_period.proofs.Turning.{none_fail, none_long}
use Rattle.cal_period.proofs.residue.settling_residues.Goals as goal

pub returns-in_default : goal.returns-in_default
returns-in_default c = none_long c.args.own (series_said c.args.a.now) (series_said c.args.b.now) c.in_default.ensures

pub returns-then-not-branch : goal.returns-then-not-branch
returns-then-not-branch c =
    none_fail c.args.own (series_said c.args.a.now) (series_said c.args.b.now) c.in-Some.days (86_400 * c.in-Some.days) c.in-Some.ensures.0 refl
    (λ holds. true≢false (sym (c.in_ok-do_residues_hold.ensures.1 holds) ∙ c.if-not-branch.true))
