use Rattle.std.proofs.Common.{refl, sym, subst, arith, rules, w64, FitsSigned}
use Rattle.std.proofs.lemmas.Int.{to_z-of_z}
use Rattle.profile.specs.events.Events.{Event}
use Rattle.profile.specs.events.Starts.{IsInstance}
use Rattle.profile.specs.events.Confirmed.{IsInSeries}
use Rattle.std.proofs.lemmas.Option.{slice_get_within, get_or_from_slice_get}
use Rattle.cal_events.specs.Calendar.{instance_of}
use Rattle.clash_cert.proofs.MakingLemmas.{named_by, names_of, series_in, series_there, keys_apart, shares_start}
use Rattle.clash_cert.proofs.making.of_series.Goals as goal

pub returns-clause-clash : goal.returns-clause-clash
returns-clause-clash c =
    let all = c.args.calendar.now in
    let f = c.args.shared in
    let r = c.requires in
    let xs = c.series-series.result.now in
    let are = c.series-series.ensures.are in
    let a = instance_of f.first in
    let b = instance_of f.second in
    let one = series_there xs all.series f.i c.index-series-shared.result r.is.a are (omega (arith, r.order, r.within)) c.index-series-shared.is r.is.at_first in
    let other = series_there xs all.series f.j c.index-series-shared-2.result r.is.b are r.within c.index-series-shared-2.is r.is.at_second in
    let fits_a : FitsSigned w64 f.first.start = search rules in
    let fits_b : FitsSigned w64 f.second.start = search rules in
    let of_a = c.in_ok-of_first.ensures a (subst (λ (m : Event). IsInstance m a) one r.is.first) (sym (to_z-of_z w64 f.first.start fits_a)) in
    let of_b = c.in_ok-of_second.ensures b (subst (λ (m : Event). IsInstance m b) other r.is.second) (sym (to_z-of_z w64 f.second.start fits_b)) in
    named_by all a b a b c.clash_of.result refl refl (series_in all f.i r.is.a a r.is.at_first r.is.first) (series_in all f.j r.is.b b r.is.at_second r.is.second)
    (keys_apart all c.series-series.ensures.keys f.i f.j r.is.a r.is.b a b r.order r.within r.is.at_first r.is.at_second r.is.first r.is.second r.is.differ) (shares_start a b r.is.shared) (c.clash_of.ensures of_a of_b)

pub returns-clause-of : goal.returns-clause-of
returns-clause-of c =
    let all = c.args.calendar.now in
    let f = c.args.shared in
    let r = c.requires in
    let xs = c.series-series.result.now in
    let are = c.series-series.ensures.are in
    let a = instance_of f.first in
    let b = instance_of f.second in
    let one = series_there xs all.series f.i c.index-series-shared.result r.is.a are (omega (arith, r.order, r.within)) c.index-series-shared.is r.is.at_first in
    let other = series_there xs all.series f.j c.index-series-shared-2.result r.is.b are r.within c.index-series-shared-2.is r.is.at_second in
    let fits_a : FitsSigned w64 f.first.start = search rules in
    let fits_b : FitsSigned w64 f.second.start = search rules in
    let of_a = c.in_ok-of_first.ensures a (subst (λ (m : Event). IsInstance m a) one r.is.first) (sym (to_z-of_z w64 f.first.start fits_a)) in
    let of_b = c.in_ok-of_second.ensures b (subst (λ (m : Event). IsInstance m b) other r.is.second) (sym (to_z-of_z w64 f.second.start fits_b)) in
    names_of (IsInSeries all.series) (IsInSeries all.series) a b a b c.clash_of.result refl refl
    (r.is.a, (f.i, slice_get_within all.series f.i r.is.a r.is.at_first, get_or_from_slice_get all.series f.i r.is.a r.is.a r.is.at_first), r.is.first)
    (r.is.b, (f.j, slice_get_within all.series f.j r.is.b r.is.at_second, get_or_from_slice_get all.series f.j r.is.b r.is.b r.is.at_second), r.is.second) (c.clash_of.ensures of_a of_b)
