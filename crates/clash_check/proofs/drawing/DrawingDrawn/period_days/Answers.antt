use Rattle.std.proofs.Common.{subst}
use Rattle.std.specs.Option.{MatchOption}
use Rattle.profile.specs.events.Events.{Event}
use Rattle.profile.specs.events.Spans.{HasNoPeriodOf, IsLeastPeriodOf}
use Rattle.clash_check.proofs.DrawLemmas.{there}
use Rattle.clash_check.proofs.drawing.DrawingDrawn.period_days.Goals as goal

pub returns : goal.returns
returns c = λ series at.
    let all = c.args.self.now.calendar.now in
    let xs = c.series.result.now in
    let s = c.index-series-place_of.result in
    let same = there xs all.series c.args.i c.place_of.result s series c.series.ensures.are c.place_of.ensures c.requires c.index-series-place_of.is at in
    subst (λ (m : Event). MatchOption c.period_days.result (HasNoPeriodOf m) (IsLeastPeriodOf m)) same c.period_days.ensures
