use Rattle.std.proofs.Common.{◌≡◌, subst, rules, to_z, of_z, w64, FitsSigned, to_z-of_z}
use Rattle.profile.specs.events.Events.{Event}
use Rattle.profile.specs.events.Spans.{IsLeastPast}
use Rattle.clash_check.proofs.DrawLemmas.{there}
use Rattle.clash_check.proofs.drawing.DrawingDrawn.regular_from.Goals as goal

pub returns : goal.returns
returns c = λ series at.
    let all = c.args.self.now.calendar.now in
    let xs = c.series.result.now in
    let s = c.index-series-place_of.result in
    let same = there xs all.series c.args.i c.place_of.result s series c.series.ensures.are c.place_of.ensures c.requires c.index-series-place_of.is at in
    let fits : FitsSigned w64 c.regular_from.result = search rules in
    let cast : to_z w64 (of_z w64 c.regular_from.result) ≡ c.regular_from.result = to_z-of_z fits in
    rw cast (subst (λ (m : Event). IsLeastPast m c.regular_from.result) same c.regular_from.ensures)
