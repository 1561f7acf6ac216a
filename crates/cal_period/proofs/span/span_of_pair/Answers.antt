use Rattle.std.proofs.Common.{[], ◌∷◌}
use Rattle.cal_events.specs.Series.{series_said}
use Rattle.cal_period.proofs.EveryPair.{none_exit}
use Rattle.cal_period.proofs.Spanning.{none_first, none_in_common}
use Rattle.cal_period.proofs.span.span_of_pair.Goals as goal

pub returns-in_err-of : goal.returns-in_err-of
returns-in_err-of c = none_exit _ _ _ c.from_residual.ensures (none_first (series_said c.args.a.now) (series_said c.args.b.now) c.in_err-of.ensures)

pub returns-in_err-with : goal.returns-in_err-with
returns-in_err-with c =
    let a = series_said c.args.a.now in
    none_exit _ _ _ c.from_residual-in_err-with.ensures
    (none_in_common (a ∷ series_said c.args.b.now ∷ []) (c.in_err-with.ensures (a ∷ []) c.in_ok-of.ensures))

pub returns : goal.returns
returns c =
    let a = series_said c.args.a.now in
    c.span.ensures (a ∷ series_said c.args.b.now ∷ []) (c.in_ok-with.ensures (a ∷ []) c.in_ok-of.ensures)
