use Rattle.std.proofs.Common.{◌∷◌, ◌++◌, [], List, map, subst, sym}
use Rattle.cal_events.specs.Calendar.{key_of}
use Rattle.cal_events.specs.Component.{component_of}
use Rattle.cal_events.specs.Masters.{AreSeriesOf}
use Rattle.cal_events.specs.Ruled.{IsRuledBeside}
use Rattle.cal_events.specs.Series.{series_said}
use Rattle.cal_events.specs.declared.series.Series.{Series}
use Rattle.cal_events.proofs.shared_lemmas.EventLemmas.{push_zip}
use Rattle.cal_events.proofs.draft.series_of.Goals as goal

pub loop-master-preserved : goal.loop-master-preserved
loop-master-preserved c =
    let keys = map key_of c.args.overrides.now in
    subst (λ (l : List Series). AreSeriesOf keys (c.loop-master.yielded ++ c.in-Some.master ∷ []) l) (sym c.in_ok-push.ensures.items)
    (push_zip (λ m s. IsRuledBeside keys (component_of m) (series_said s)) c.loop-master.yielded c.loop-master.series.items c.in-Some.master c.in_ok-of.field-0 c.loop-master.invariant c.in_ok-of.ensures)
