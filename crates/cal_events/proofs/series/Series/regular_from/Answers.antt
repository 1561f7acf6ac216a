use Rattle.std.proofs.Common.{◌≡◌, subst, ap, to_z, of_z, w64, FitsSigned, rules, to_z-of_z}
use Rattle.std.specs.Prelude.{option_map}
use Rattle.profile.specs.series.Zones.{Zone, AreFirstOnsets}
use Rattle.cal_events.specs.Recurrence.{master_of}
use Rattle.cal_events.specs.Series.{series_said}
use Rattle.cal_events.proofs.shared_lemmas.SeriesLemmas.{own_master}
use Rattle.cal_events.proofs.regular_lemmas.Past.{read_past}
use Rattle.cal_events.proofs.series.Series.regular_from.Goals as goal

pub returns : goal.returns
returns c =
    let series = c.args.self.now in
    let from = series.from in
    let fits : FitsSigned w64 from = search rules in
    let cast : to_z w64 (of_z w64 from) ≡ from = to_z-of_z fits in
    let m = own_master series.event.value series.ruled in
    let own = master_of series.event.value.name m.0 in
    let is = ap (option_map (master_of series.event.value.name)) m.1 in
    let x = c.first_onsets.result.0 in
    let y = c.first_onsets.result.1 in
    rw cast (read_past (series_said series) own from x y is series.past (subst (λ (z : Zone). AreFirstOnsets z x y) (c.zone.ensures own is) c.first_onsets.ensures))
