use Rattle.std.proofs.Common.{◌≡◌, refl, inl, inr, sym, subst, to_z, of_z, w64, FitsSigned, rules, to_z-of_z}
use Rattle.cal_events.specs.Series.{series_said}
use Rattle.cal_period.specs.Onward.{SettlesPair}
use Rattle.cal_period.specs.Spanning.{AreComparedTo}
use Rattle.cal_period.proofs.Settling.{horizon_settles, span_settles}
use Rattle.cal_period.proofs.settled.settled_by.Goals as goal

pub returns-in-Some-clause-settles : goal.returns-in-Some-clause-settles
returns-in-Some-clause-settles c =
    let a = c.args.a.now in
    let b = c.args.b.now in
    let is = c.in-Some.ensures in
    let fits : FitsSigned w64 c.in-Some.span.bound = search rules in
    let cast : to_z w64 (of_z w64 c.in-Some.span.bound) ≡ c.in-Some.span.bound = to_z-of_z fits in
    subst (SettlesPair (series_said a) (series_said b)) (sym cast)
    (span_settles (record { last = c.instances_last.ensures.said; repeat = c.series_repeat.ensures.earlier; zones = c.zones_repeat.ensures.said }) (series_said a) (series_said b) c.in-Some.span.from c.in-Some.span.bound c.in-Some.span.days
    is.0.span is.1 (c.series_are_said.ensures a) (c.series_are_said.ensures b))

pub returns-in-Some-clause-least : goal.returns-in-Some-clause-least
returns-in-Some-clause-least c =
    let span = c.in-Some.span in
    let fits : FitsSigned w64 span.bound = search rules in
    let cast : to_z w64 (of_z w64 span.bound) ≡ span.bound = to_z-of_z fits in
    subst (AreComparedTo (series_said c.args.a.now) (series_said c.args.b.now)) (sym cast) (inr (span.from, span.days, c.in-Some.ensures.0, c.in-Some.ensures.1, c.in-Some.ensures.2))

pub returns-in-None-clause-least : goal.returns-in-None-clause-least
returns-in-None-clause-least c = inl (c.in-None.ensures, refl)

pub returns-in-None-clause-settles : goal.returns-in-None-clause-settles
returns-in-None-clause-settles c = horizon_settles (series_said c.args.a.now) (series_said c.args.b.now) (c.known_by_start.ensures c.args.a.now) (c.known_by_start.ensures c.args.b.now)
