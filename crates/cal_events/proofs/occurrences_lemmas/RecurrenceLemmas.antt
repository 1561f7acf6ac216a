-- What RECURRENCE-ID says, judged.
-- Cited by SaidInstant::read_recurrence, refuse_unfixed, judge_recurrence, EventComponent::read.
use Rattle.std.proofs.Common.{◌≡◌, ◌≢◌, ℕ, Bool, true, false, List, codes, sym, ap, subst, ◌∙◌}
use Rattle.std.specs.Prelude.{Option, Some, None, is_some, option_map}
use Rattle.std.proofs.lemmas.Bool.{true≢false}
use denote.Ref.{Bor}
use Rattle.profile.specs.text.Lines.{line_param}
use Rattle.profile.specs.text.Trees.{Tree}
use Rattle.profile.specs.events.Properties.{Form, Fixed, is_fixed, OccursAtMostOnce, BothOrNeither}
use Rattle.profile.specs.events.ZonedTimes.{SaysForm, SaysOutOfDates}
use Rattle.profile.specs.events.Occurrences.{Time, IsFixedWhere, has_range, OccurrenceFault, recurrence_out, unfixed}
use Rattle.cal_events.specs.Times.{form_of}
use Rattle.cal_events.specs.Occurrences.{IsRecurrenceSo, IsRecurrenceSaid}
use Rattle.cal_events.specs.declared.occurrences.SaidInstant.{SaidInstant}
use Rattle.cal_events.proofs.shared_lemmas.EventLemmas.{some_line}

-- it is outside of the dates
pub recurrence_out_there : {added fixed : Bool} (object : Tree) (lines : List (List ℕ)) (said : SaidInstant) → IsRecurrenceSaid object lines (Some said) → said.in_dates ≡ false → OccurrenceFault added fixed object lines 52
recurrence_out_there {added} {fixed} object lines said s out = go s.line s.once s.is
  where
    go : (l : Option (List ℕ)) → OccursAtMostOnce (codes "RECURRENCE-ID") lines l → BothOrNeither (IsRecurrenceSo object) l (Some said) → OccurrenceFault added fixed object lines 52
    go None once h = absurd h
    go (Some line) once h =
        recurrence_out (some_line (codes "RECURRENCE-ID") (SaysOutOfDates false object) lines line once
        (form_of said.time.form, h.1.0, h.1.1, said.time.instant, h.1.2, h.1.3, λ d. true≢false (sym (h.1.4.1 d) ∙ out)))

-- it isn't fixed
pub unfixed_there : {added fixed : Bool} (object : Tree) (lines : List (List ℕ)) (said : SaidInstant) → IsRecurrenceSaid object lines (Some said) → fixed ≡ true → is_fixed (form_of said.time.form) ≡ false
    → OccurrenceFault added fixed object lines 57
unfixed_there {added} {fixed} object lines said s needed other = go s.line s.once s.is
  where
    go : (l : Option (List ℕ)) → OccursAtMostOnce (codes "RECURRENCE-ID") lines l → BothOrNeither (IsRecurrenceSo object) l (Some said) → OccurrenceFault added fixed object lines 57
    go None once h = absurd h
    go (Some line) once h =
        unfixed needed
        (some_line (codes "RECURRENCE-ID") (λ l. (form : Form) × (form ≢ Fixed) × SaysForm object l form) lines line once
        (form_of said.time.form, (λ e. true≢false (sym (ap is_fixed e) ∙ other)), (h.1.0, h.1.1, h.1.2)))

-- a parameter that was found is on the line
pub shows_range : (line : List ℕ) (found : Option (Bor (List ℕ))) → option_map (λ x. x.now) found ≡ line_param (codes "RANGE") line → is_some found ≡ true → has_range line ≡ true
shows_range line found e h = sym (ap is_some e) ∙ go found h
  where
    go : (o : Option (Bor (List ℕ))) → is_some o ≡ true → is_some (option_map (λ x. x.now) o) ≡ true
    go None h = h
    go (Some x) h = h

-- it is fixed where that is needed, as it was said
pub fixed_as_said : (fixed b : Bool) (said time : Option Time) → time ≡ said → b ≡ fixed → IsFixedWhere b said → IsFixedWhere fixed time
fixed_as_said fixed b said time same needed h = subst (IsFixedWhere fixed) (sym same) (subst (λ (x : Bool). IsFixedWhere x said) needed h)
