use Rattle.std.proofs.Common.{◌∙◌, sym}
use Rattle.std.specs.Prelude.{is_some}
use Rattle.std.proofs.lemmas.Bool.{and_parts}
use Rattle.profile.specs.events.Events.{is_master}
use Rattle.cal_events.specs.Component.{component_of}
use Rattle.cal_events.specs.Series.{series_said}
use Rattle.cal_events.proofs.shared_lemmas.SeriesLemmas.{series_of}
use Rattle.cal_events.proofs.component.EventComponent.series.Goals as goal

pub by_itself-requires : goal.by_itself-requires
by_itself-requires c =
    let event = component_of c.args.self.now in
    (and_parts (is_master event) (is_some event.rule) (sym c.is_series.ensures ∙ c.if-not-is_series.false)).1

pub returns : goal.returns
returns c =
    let event = component_of c.args.self.now in
    let both = and_parts (is_master event) (is_some event.rule) (sym c.is_series.ensures ∙ c.if-not-is_series.false) in
    series_of event both.0 both.1 (series_said c.in_ok-by_itself.field-0) c.in_ok-by_itself.ensures
