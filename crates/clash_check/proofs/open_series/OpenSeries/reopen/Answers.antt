use Rattle.std.proofs.Common.{◌≡◌, ◌∙◌, sym, ap, to_z, of_z, w64, to_z-of_z, ◌<◌, length, arith}
use Rattle.std.specs.Prelude.{Some}
use Rattle.std.specs.List.{slice_get}
use Rattle.std.proofs.lemmas.List.{length-map}
use Rattle.cal_events.specs.Series.{series_said}
use Rattle.cal_events.specs.Event.{said_meeting}
use Rattle.clash_check.proofs.OpenLemmas.{at_place, of_it, none_before, all_left}
use Rattle.clash_check.proofs.open_series.OpenSeries.reopen.Goals as goal

pub invariant_of-self : goal.invariant_of-self
invariant_of-self c =
    let same : to_z w64 (of_z w64 c.args.from) ≡ c.args.from = to_z-of_z c.ranges.from in
    let all = c.args.self.now.calendar.now in
    let xs = c.series.result.now in
    let starts = c.starts.result in
    let series = c.index-series-place.result in
    let long = length-map xs series_said in
    let count = ap length c.series.ensures.are in
    let within : c.args.place < length xs = omega (arith, long, count, c.requires) in
    let left = rw same at c.starts.ensures.left in
    rw same (record {
      of = of_it (λ s. slice_get all.series c.args.place ≡ Some (said_meeting s.event.now)) starts
          (at_place xs all.series c.args.place series c.series.ensures.are within c.index-series-place.is ∙ ap Some (sym c.starts.ensures.of));
      before = none_before (series_said series) c.args.from starts c.starts.ensures.of left;
      left = all_left (series_said series) c.args.from starts c.starts.ensures.of left;
    })
