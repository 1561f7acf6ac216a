use Rattle.std.proofs.Common.{refl, sym, subst, rules, w64, FitsSigned}
use Rattle.std.proofs.lemmas.Int.{to_z-of_z}
use Rattle.std.proofs.lemmas.Option.{slice_get_within, get_or_from_slice_get}
use Rattle.profile.specs.events.Events.{Event}
use Rattle.profile.specs.events.Starts.{IsInstance}
use Rattle.profile.specs.events.Confirmed.{IsInSeries}
use Rattle.std.specs.Prelude.{Contains}
use Rattle.cal_events.specs.Calendar.{instance_of}
use Rattle.clash_cert.proofs.MakingLemmas.{named_by, names_of, lent, own_key, single_in, series_in, series_there, shares_turned}
use Rattle.clash_cert.proofs.making.of_single_and_series.Goals as goal

pub returns-clause-clash : goal.returns-clause-clash
returns-clause-clash c =
    let all = c.args.calendar.now in
    let f = c.args.beside in
    let r = c.requires in
    let m = r.sharer.series in
    let xs = c.series-series.result.now in
    let are = c.series-series.ensures.are in
    let a = r.single in
    let b = instance_of f.instance in
    let i = c.unwrap-single.result in
    let of_single = own_key all.singles f.single c.single.result i c.in_ok-key.field-0 c.unwrap-of_single.result c.single.ensures c.unwrap-single.ensures c.in_ok-key.ensures c.unwrap-of_single.ensures in
    let there = slice_get_within all.series f.series m r.sharer.at in
    let one = series_there xs all.series f.series c.index-series-beside.result m are there c.index-series-beside.is r.sharer.at in
    let fits : FitsSigned w64 f.instance.start = search rules in
    let of_series = c.in_ok-of_series.ensures b (subst (λ (s : Event). IsInstance s b) one r.sharer.is) (sym (to_z-of_z w64 f.instance.start fits)) in
    let single = slice_get_within all.singles f.single a r.at in
    named_by all a b (instance_of i) b c.clash_of.result (lent all.singles f.single c.single.result i a c.single.ensures c.unwrap-single.ensures r.at) refl
    (single_in all f.single a r.at) (series_in all f.series m b r.sharer.at r.sharer.is)
    (c.series-series.ensures.keys.1 a b (f.single, single, get_or_from_slice_get all.singles f.single a a r.at) (m, (f.series, there, get_or_from_slice_get all.series f.series m m r.sharer.at), r.sharer.is))
    (shares_turned b.start b.end a.start a.end r.sharer.shared) (c.clash_of.ensures of_single of_series)

pub returns-clause-of : goal.returns-clause-of
returns-clause-of c =
    let all = c.args.calendar.now in
    let f = c.args.beside in
    let r = c.requires in
    let m = r.sharer.series in
    let xs = c.series-series.result.now in
    let are = c.series-series.ensures.are in
    let a = r.single in
    let b = instance_of f.instance in
    let i = c.unwrap-single.result in
    let of_single = own_key all.singles f.single c.single.result i c.in_ok-key.field-0 c.unwrap-of_single.result c.single.ensures c.unwrap-single.ensures c.in_ok-key.ensures c.unwrap-of_single.ensures in
    let there = slice_get_within all.series f.series m r.sharer.at in
    let one = series_there xs all.series f.series c.index-series-beside.result m are there c.index-series-beside.is r.sharer.at in
    let fits : FitsSigned w64 f.instance.start = search rules in
    let of_series = c.in_ok-of_series.ensures b (subst (λ (s : Event). IsInstance s b) one r.sharer.is) (sym (to_z-of_z w64 f.instance.start fits)) in
    let single = slice_get_within all.singles f.single a r.at in
    names_of (Contains all.singles) (IsInSeries all.series) a b (instance_of i) b c.clash_of.result (lent all.singles f.single c.single.result i a c.single.ensures c.unwrap-single.ensures r.at) refl
    (f.single, single, get_or_from_slice_get all.singles f.single a a r.at) (m, (f.series, there, get_or_from_slice_get all.series f.series m m r.sharer.at), r.sharer.is) (c.clash_of.ensures of_single of_series)
