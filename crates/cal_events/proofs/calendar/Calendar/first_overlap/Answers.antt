use Rattle.std.proofs.Common.{map, ap, ◌∙◌}
use Rattle.profile.specs.events.Confirmed.{Confirmed}
use Rattle.cal_events.specs.Calendar.{span_of}
use Rattle.cal_events.proofs.calendar_lemmas.ClashLemmas.{clash_from_sweep, clear_from_sweep}
use Rattle.cal_events.proofs.calendar.Calendar.first_overlap.Goals as goal

pub returns-clause-clash : goal.returns-clause-clash
returns-clause-clash c =
    clash_from_sweep c.args.self.now.singles c.self.inside.entries c.self.inside.singles.items _ _ c.first_overlap.result c.self.invariant.0 (ap (λ (x : Confirmed). x.singles) c.self.view_is)
    (c.in_ok-spans.ensures ∙ ap (map span_of) c.deref.ensures.value) c.deref-2.ensures.value c.first_overlap.ensures.found

pub returns-clause-clear : goal.returns-clause-clear
returns-clause-clear c =
    clear_from_sweep c.args.self.now.singles c.self.inside.entries c.self.inside.singles.items _ _ c.first_overlap.result (ap (λ (x : Confirmed). x.singles) c.self.view_is)
    (c.in_ok-spans.ensures ∙ ap (map span_of) c.deref.ensures.value) c.deref-2.ensures.value c.first_overlap.ensures.none
