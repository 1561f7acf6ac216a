use Rattle.std.proofs.Common.{inr, List, length, subst}
use Rattle.std.specs.Prelude.{Contains, IfNone}
use Rattle.profile.specs.checker.Instances.{IsClear}
use Rattle.profile.specs.events.Events.{Event}
use Rattle.cal_period.proofs.EveryPair.{where_none}
use Rattle.clash_cert.specs.Looked.{AreRowsLookedAt}
use Rattle.clash_cert.proofs.MakingLemmas.{singles_clear}
use Rattle.clash_cert.proofs.making.clash_in.Goals as goal

pub returns-in_ok-of_series-in-Some-clash_of_new-clause-first : goal.returns-in_ok-of_series-in-Some-clash_of_new-clause-first
returns-in_ok-of_series-in-Some-clash_of_new-clause-first c =
    let all = c.args.calendar.now in
    let clear = subst (λ o. IfNone o (IsClear (Contains all.singles))) c.in_default.is c.in_ok-overlap.ensures.clear in
    inr (inr (singles_clear all clear c.in_default-single_beside_series.ensures, c.in_ok-of_series-in-Some-clash_of_new.ensures.of))

pub returns-in-None-clause-clear : goal.returns-in-None-clause-clear
returns-in-None-clause-clear c =
    let all = c.args.calendar.now in
    let kept = c.args.kept.now in
    let clear = subst (λ o. IfNone o (IsClear (Contains all.singles))) c.in_default.is c.in_ok-overlap.ensures.clear in
    let pairs = where_none c.clash_of_new.result _ _ c.in-None.is c.clash_of_new.ensures in
    (singles_clear all clear c.in_default-single_beside_series.ensures, subst (λ (l : List Event). AreRowsLookedAt kept l (length l)) c.series.ensures.are pairs)
