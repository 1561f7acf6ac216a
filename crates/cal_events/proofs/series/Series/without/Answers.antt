use Rattle.std.proofs.Common.{◌≡◌, ◌∙◌, ◌++◌, List, [], ℤ, arith, ap, sym, subst, inl, inr, ◌⊎◌}
use Rattle.std.specs.Prelude.{Contains}
use Rattle.std.proofs.lemmas.Result.{IfOk-weaker}
use Rattle.std.proofs.lemmas.List.Elements.{Contains-append_left, Contains-append_right, Contains-append_cases}
use Rattle.std.proofs.lemmas.Grind.{common_steps}
use Rattle.profile.specs.events.Confirmed.{IsByItsRule}
use Rattle.profile.specs.events.Events.{Event as Whole}
use Rattle.cal_events.specs.Recurrence.{master_of}
use Rattle.cal_events.specs.Series.{series_said, IsSeriesWithout}
use Rattle.cal_events.proofs.shared_lemmas.InOneOrder.{none_in}
use Rattle.cal_events.proofs.shared_lemmas.SeriesLemmas.{alone_said, itself_ruled, left_of, own_master, ruled_so}
use Rattle.cal_events.proofs.series.Series.without.Goals as goal

pub returns-then-is_empty : goal.returns-then-is_empty
returns-then-is_empty c =
    let series = c.args.self.now in
    let starts = c.args.starts.now in
    let none : starts ≡ [] = grind (arith, common_steps) in
    let m = own_master series.event.value series.ruled in
    let own = master_of series.event.value.name m.0 in
    IfOk-weaker c.copy.result (λ copy. series_said copy ≡ series_said series) (λ left. IsSeriesWithout (series_said series) starts (series_said left))
    (λ left same.
    left_of own (series.ruled.1.0 m.0 m.1).1 starts (series_said series) (series_said left) m.2
    (ruled_so own (Contains m.0.exceptions) (series_said left) (subst (λ (w : Whole). IsByItsRule own (Contains m.0.exceptions) w) (sym same) (itself_ruled series.event.value series.ruled m.0 m.1))
    (λ t. Contains m.0.exceptions t ⊎ Contains starts t)
    (λ t h. inl h)
    (λ t h. elim h [ inl l ↦ l | inr l ↦ absurd (none_in t (subst (λ (l : List ℤ). Contains l t) none l)) ])))
    c.copy.ensures

pub returns : goal.returns
returns c =
    let series = c.args.self.now in
    let r = c.recurrence.result.now in
    let own = master_of series.event.value.name r in
    let starts = c.args.starts.now in
    let all = c.extend_from_slice.new.self.items in
    let is : all ≡ r.exceptions ++ starts = c.in_ok-extend_from_slice.ensures.items ∙ ap (λ (l : List ℤ). l ++ starts) (c.in_ok-exceptions.ensures ∙ c.sorted.ensures) in
    IfOk-weaker c.except.result (λ left. IsByItsRule own (Contains all) (series_said left)) (λ left. IsSeriesWithout (series_said series) starts (series_said left))
    (λ left s.
    left_of own (series.ruled.1.0 r c.recurrence.ensures.is).1 starts (series_said series) (series_said left) (alone_said series.event.value series.ruled.1.1 r c.recurrence.ensures.is)
    (ruled_so own (Contains all) (series_said left) s (λ t. Contains r.exceptions t ⊎ Contains starts t)
    (λ t h. Contains-append_cases r.exceptions starts t (subst (λ (l : List ℤ). Contains l t) is h))
    (λ t h. subst (λ (l : List ℤ). Contains l t) (sym is) (elim h [ inl l ↦ Contains-append_left r.exceptions starts t l | inr l ↦ Contains-append_right r.exceptions starts t l ]))))
    (c.except.ensures own c.recurrence.ensures.master)
