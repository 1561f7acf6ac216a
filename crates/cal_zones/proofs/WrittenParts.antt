-- What is written of a part says its observance; its lines are content lines, and no BEGIN or END.
use Rattle.std.proofs.Common.{◌≡◌, ◌∙◌, refl, sym, ap, subst, ℕ, ◌<◌, true, List, [], ◌∷◌, ◌++◌, length, codes, arith, lt-ltb, ℤ}
use Rattle.std.specs.Prelude.{Option, Some, None}
use Rattle.std.specs.List.{list_all}
use Rattle.std.proofs.lemmas.Bool.{and_from}
use Rattle.std.proofs.lemmas.List.Folds.{list_all-append}
use Rattle.profile.specs.text.Lines.{is_content}
use Rattle.profile.specs.text.Objects.{is_property}
use Rattle.profile.specs.text.Values.{SpellsLocal, WritesLocal, SpellsOffset, WritesOffset}
use Rattle.profile.specs.events.Properties.{IsMissing, lines_named}
use Rattle.profile.specs.series.Rules.{Pattern}
use Rattle.profile.specs.series.Zones.{Observance, local_time}
use Rattle.profile.specs.series.ZoneTexts.{SaysPartTimes, SaysOnce, SaysYearly, YearRule, is_each_year, year_pattern}
use Rattle.profile.specs.written.WrittenZones.{rule_lines, WritesPart}
use Rattle.ical_lines.proofs.CleanLines.{IsClean, is_shown, clean_shown, valued, start_line}
use Rattle.ical_values.proofs.ShownValues.{shown_local, shown_offset}
use Rattle.cal_zones.proofs.WrittenRules.{year_rule_text, year_back, shown_year}

abbrev pub Lines : Type 0
Lines = List (List ℕ)

-- what a written value is read as
abbrev pub LocalBack : Type 0
LocalBack = (text : List ℕ) (a : ℤ) → WritesLocal text a → SpellsLocal text a

abbrev pub OffsetBack : Type 0
OffsetBack = (text : List ℕ) (a : ℤ) → WritesOffset text a → SpellsOffset text a

-- the lines of a part, between its BEGIN and its END
abbrev own_of : List ℕ → Option Pattern → List ℕ → List ℕ → Lines
own_of start rule from to = (codes "DTSTART:" ++ start) ∷ (rule_lines rule ++ ((codes "TZOFFSETFROM:" ++ from) ∷ (codes "TZOFFSETTO:" ++ to) ∷ []))

-- ---- what they say

times_back : (day second : ℕ) (rule : Option Pattern) (a b : ℤ) (start from to : List ℕ) → SpellsLocal start (local_time day second) → second < 86_400 → SpellsOffset from a → SpellsOffset to b
    → SaysPartTimes (own_of start rule from to) (record { day = day; second = second; rule = rule; offset_from = a; offset_to = b })
times_back day second None a b start from to s h f t = record {
  start = record { line = Some (codes "DTSTART:" ++ start); once = refl; present = λ _. refl; is = (refl, refl, s) };
  second = h;
  from = record { line = Some (codes "TZOFFSETFROM:" ++ from); once = refl; present = λ _. refl; is = f };
  to = record { line = Some (codes "TZOFFSETTO:" ++ to); once = refl; present = λ _. refl; is = t };
  no_dates = refl;
}
times_back day second (Some p) a b start from to s h f t = record {
  start = record { line = Some (codes "DTSTART:" ++ start); once = refl; present = λ _. refl; is = (refl, refl, s) };
  second = h;
  from = record { line = Some (codes "TZOFFSETFROM:" ++ from); once = refl; present = λ _. refl; is = f };
  to = record { line = Some (codes "TZOFFSETTO:" ++ to); once = refl; present = λ _. refl; is = t };
  no_dates = refl;
}

pub part_times : LocalBack → OffsetBack → (own : Lines) (o : Observance) → WritesPart own o → o.second < 86_400 → SaysPartTimes own o
part_times local offset own o w h =
    subst (λ (l : Lines). SaysPartTimes l o) (sym w.is)
    (times_back o.day o.second o.rule o.offset_from o.offset_to w.start w.from w.to (local w.start _ w.writes_start) h (offset w.from _ w.writes_from) (offset w.to _ w.writes_to))

pub part_once : LocalBack → OffsetBack → (own : Lines) (o : Observance) → WritesPart own o → o.second < 86_400 → o.rule ≡ None → SaysOnce own o
part_once local offset own o w h none = record {
  times = part_times local offset own o w h;
  no_rule = subst (λ (l : Lines). IsMissing (codes "RRULE") l) (sym (w.is ∙ ap (λ r. own_of w.start r w.from w.to) none)) refl;
  is = none;
}

pub part_yearly : LocalBack → OffsetBack → (own : Lines) (o : Observance) (r : YearRule) → WritesPart own o → o.second < 86_400 → o.rule ≡ Some (year_pattern r o.day) → is_each_year r.month r.days ≡ true → SaysYearly own o
part_yearly local offset own o r w h rule each = record {
  times = part_times local offset own o w h;
  each = r;
  rule = record {
    line = Some (codes "RRULE:" ++ year_rule_text r);
    once = ap (lines_named (codes "RRULE")) (w.is ∙ ap (λ p. own_of w.start p w.from w.to) rule);
    present = λ _. refl;
    is = year_back r each;
  };
  is = rule;
}

-- ---- what lines they are

rule_line : (v : List ℕ) → IsClean v → is_content (codes "RRULE:" ++ v) ≡ true
rule_line v c = valued (codes "RRULE:") v (lt-ltb 5 (length (codes "RRULE:" ++ v)) (omega arith)) refl refl refl c

from_line : (v : List ℕ) → IsClean v → is_content (codes "TZOFFSETFROM:" ++ v) ≡ true
from_line v c = valued (codes "TZOFFSETFROM:") v (lt-ltb 12 (length (codes "TZOFFSETFROM:" ++ v)) (omega arith)) refl refl refl c

to_line : (v : List ℕ) → IsClean v → is_content (codes "TZOFFSETTO:" ++ v) ≡ true
to_line v c = valued (codes "TZOFFSETTO:") v (lt-ltb 10 (length (codes "TZOFFSETTO:" ++ v)) (omega arith)) refl refl refl c

pub name_line : (v : List ℕ) → IsClean v → is_content (codes "TZID:" ++ v) ≡ true
name_line v c = valued (codes "TZID:") v (lt-ltb 4 (length (codes "TZID:" ++ v)) (omega arith)) refl refl refl c

own_content : (start from to : List ℕ) (rule : Option Pattern) → list_all is_shown start ≡ true → list_all is_shown from ≡ true → list_all is_shown to ≡ true → list_all is_content (rule_lines rule) ≡ true
    → list_all is_content (own_of start rule from to) ≡ true
own_content start from to rule s f t r =
    let ends : list_all is_content ((codes "TZOFFSETFROM:" ++ from) ∷ (codes "TZOFFSETTO:" ++ to) ∷ []) ≡ true = and_from _ _ (from_line from (clean_shown from f)) (and_from _ _ (to_line to (clean_shown to t)) refl) in
    and_from _ _ (start_line start (clean_shown start s)) (list_all-append is_content (rule_lines rule) _ ∙ and_from _ _ r ends)

-- the RRULE that an observance has is a content line
abbrev pub IsRuled : Observance → Type 0
IsRuled o = list_all is_content (rule_lines o.rule) ≡ true

pub unruled : (o : Observance) → o.rule ≡ None → IsRuled o
unruled o e = subst (λ (r : Option Pattern). list_all is_content (rule_lines r) ≡ true) (sym e) refl

pub ruled : (o : Observance) (r : YearRule) → o.rule ≡ Some (year_pattern r o.day) → is_each_year r.month r.days ≡ true → IsRuled o
ruled o r e each =
    let line : list_all is_content (rule_lines (Some (year_pattern r o.day))) ≡ true = and_from _ _ (rule_line (year_rule_text r) (clean_shown (year_rule_text r) (shown_year r each))) refl in
    subst (λ (p : Option Pattern). list_all is_content (rule_lines p) ≡ true) (sym e) line

pub part_content : (own : Lines) (o : Observance) → WritesPart own o → IsRuled o → list_all is_content own ≡ true
part_content own o w r =
    ap (list_all is_content) w.is ∙ own_content w.start w.from w.to o.rule (shown_local w.start (local_time o.day o.second) w.writes_start) (shown_offset w.from o.offset_from w.writes_from) (shown_offset w.to o.offset_to w.writes_to) r

own_properties : (start from to : List ℕ) (rule : Option Pattern) → list_all is_property (own_of start rule from to) ≡ true
own_properties start from to None = refl
own_properties start from to (Some p) = refl

pub part_properties : (own : Lines) (o : Observance) → WritesPart own o → list_all is_property own ≡ true
part_properties own o w = ap (list_all is_property) w.is ∙ own_properties w.start w.from w.to o.rule
