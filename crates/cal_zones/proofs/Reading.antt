-- What the readers of a VTIMEZONE's parts say, put together.
use Rattle.std.proofs.Common.{◌≡◌, ap, sym, refl, subst, inl, inr, ℕ, zero, true, List, [], ◌∷◌, codes, arith}
use Rattle.ical_lines.specs.Fault.{RefusesBy}
use Rattle.std.specs.Prelude.{Option, Some, None, Result, Ok, Err, IfErr, Contains}
use Rattle.std.specs.Result.{IsErrAnd}
use Rattle.ical_lines.specs.declared.fault.Fault.{Fault}
use Rattle.ical_lines.specs.declared.fault.Fault.TheVariants.{Refused, Memory}
use Rattle.ical_tree.specs.Tree.{tree_of}
use Rattle.ical_tree.specs.declared.component.Component.{Component}
use Rattle.profile.specs.series.Zones.{Zone, Single, Pair, Observance}
use Rattle.profile.specs.events.Properties.{lines_named, OccursAtMostOnce, Says}
use Rattle.profile.specs.series.ZoneTexts.{parts_by, is_part, is_standard, is_daylight, SaysPartTimes, SaysOnce, SaysYearly, TimesFault, PartsSay, PartsFault, OffsetsDiffer, SaysZone, ZoneFault, missing, twice, fixed, bad_start, bad_from, bad_to, time_names, single, pair, in_part, ruled, unruled, unmatched, close, HasNoYearRule, IsPairFault, IsSingleFault}
use Rattle.cal_zones.specs.Read as read
use Rattle.cal_zones.specs.Read.{parts_in, zone_parts, standards_of, daylights_of, HasZoneFault, SomeTimesFault, StartFault, IsNotOnce, OffsetFault, YearlyFault, SaysSingle, SingleFault, SaysBoth, BothFault, in_times, has_rule, far, in_standard, in_daylight, no_match, no_space}
use Rattle.cal_zones.specs.Onsets.{observance_of, yearly_rule}
use Rattle.cal_zones.specs.declared.yearly.Yearly.{Yearly}
use Rattle.cal_zones.specs.declared.observance.Observance as rust
use Rattle.cal_zones.proofs.PartLemmas.{parts_tree}

abbrev Lines : Type 0
Lines = List (List ℕ)

-- ---- the exits of a `?`, by the error that it returns

pub fault_exit : {T : Type 0} (r : Result T Fault) (P Q : ℕ → Type 0) (e : Fault) → ((n : ℕ) → Q n → P n) → IsErrAnd r (λ f. f ≡ e) → RefusesBy Q e → IfErr r (RefusesBy P)
fault_exit (Ok x) P Q e g h p = tt
fault_exit (Err f) P Q Memory g h p = subst (RefusesBy P) (sym h) tt
fault_exit (Err f) P Q (Refused x) g h p = subst (RefusesBy P) (sym h) (g x.number p)

pub weaker_fault : {T : Type 0} (r : Result T Fault) (P Q : ℕ → Type 0) → ((n : ℕ) → P n → Q n) → IfErr r (RefusesBy P) → IfErr r (RefusesBy Q)
weaker_fault (Ok x) P Q f p = tt
weaker_fault (Err Memory) P Q f p = tt
weaker_fault (Err (Refused e)) P Q f p = f e.number p

-- ---- lines

pub said : {V : Type 0} (R : List ℕ → V → Type 0) (name : List ℕ) (lines : Lines) (line : List ℕ) (v : V) → OccursAtMostOnce name lines (Some line) → R line v → Says name true R lines (Some v)
said R name lines line v once is = record { line = Some line; once = once; present = λ _. refl; is = is }

-- ---- faults of times

pub not_one : (name : List ℕ) (lines : Lines) → Contains time_names name → IsNotOnce name lines → TimesFault lines 40
not_one name lines c (inl h) = missing name c h
not_one name lines c (inr h) = twice name c h

pub start_fault : (lines : Lines) (line : List ℕ) (n : ℕ) → Contains (lines_named (codes "DTSTART") lines) line → StartFault line n → TimesFault lines n
start_fault lines line n c (inl (e, h)) = subst (TimesFault lines) (sym e) (fixed (line, c, h))
start_fault lines line n c (inr (e, h)) = subst (TimesFault lines) (sym e) (bad_start (line, c, h))

pub from_fault : (lines : Lines) (n : ℕ) → OffsetFault (codes "TZOFFSETFROM") lines n → TimesFault lines n
from_fault lines n (inl (e, h)) = subst (TimesFault lines) (sym e) (not_one (codes "TZOFFSETFROM") lines (1, omega arith, refl) h)
from_fault lines n (inr (e, h)) = subst (TimesFault lines) (sym e) (bad_from h)

pub to_fault : (lines : Lines) (n : ℕ) → OffsetFault (codes "TZOFFSETTO") lines n → TimesFault lines n
to_fault lines n (inl (e, h)) = subst (TimesFault lines) (sym e) (not_one (codes "TZOFFSETTO") lines (2, omega arith, refl) h)
to_fault lines n (inr (e, h)) = subst (TimesFault lines) (sym e) (bad_to h)

-- the same times with another rule
pub same_times : (lines : Lines) (a b : Observance) → a.day ≡ b.day → a.second ≡ b.second → a.offset_from ≡ b.offset_from → a.offset_to ≡ b.offset_to → SaysPartTimes lines a → SaysPartTimes lines b
same_times lines a b d s f t h = record {
  start = rw (sym d, sym s) h.start;
  second = rw (sym s) h.second;
  from = rw (sym f) h.from;
  to = rw (sym t) h.to;
  no_dates = h.no_dates;
}

pub no_rule_there : (lines : Lines) → IsNotOnce (codes "RRULE") lines → HasNoYearRule lines
no_rule_there lines (inl h) = inl h
no_rule_there lines (inr h) = inr (inl h)

-- where no rule is written there is none
pub unwritten : (day : ℕ) (rule : Option Yearly) → yearly_rule day rule ≡ None → rule ≡ None
unwritten day None h = refl
unwritten day (Some r) h = cc

-- a pair that is refused
pub both_refused : (p q : Lines) (a b : rust.Observance) (n : ℕ) → SaysYearly p (observance_of a) → SaysYearly q (observance_of b) → (a.rule ≡ None → ⊥) → (b.rule ≡ None → ⊥)
    → IsPairFault n (observance_of a) (observance_of b) → BothFault p q n
both_refused p q a b n s t f g (inl (e, inl h)) = absurd (f (unwritten a.day a.rule h))
both_refused p q a b n s t f g (inl (e, inr h)) = absurd (g (unwritten b.day b.rule h))
both_refused p q a b n s t f g (inr (inl (e, h))) = subst (BothFault p q) (sym e) (no_match (observance_of a) (observance_of b) s t h)
both_refused p q a b n s t f g (inr (inr (e, h))) = subst (BothFault p q) (sym e) (no_space (observance_of a) (observance_of b) s t h)

-- a single part that is refused
pub single_refused : (lines : Lines) (a : rust.Observance) (n : ℕ) → SaysOnce lines (observance_of a) → a.rule ≡ None → IsSingleFault n (observance_of a) → SingleFault lines n
single_refused lines a n s none (inl (e, h)) = absurd (h (ap (yearly_rule a.day) none))
single_refused lines a n s none (inr (e, h)) = subst (SingleFault lines) (sym e) (far (observance_of a) s (λ near. absurd (omega arith)))

-- ---- the zone

module _ (parts standards daylights : List Lines) where
  pub single_says : (part : Lines) (zone : Zone) → OffsetsDiffer parts → parts ≡ part ∷ [] → SaysSingle part zone → PartsSay parts standards daylights zone
  single_says part zone differ one (a, is, says, near) =
      subst (PartsSay parts standards daylights) (sym is) (record { form = single part a differ one says; matched = near; spaced = tt })

  pub single_fault : (part : Lines) (n : ℕ) → OffsetsDiffer parts → parts ≡ part ∷ [] → SingleFault part n → PartsFault parts standards daylights n
  single_fault part n differ one (in_times h) = in_part part (subst (λ (l : List Lines). Contains l part) (sym one) (zero, omega arith, refl)) h
  single_fault part n differ one (has_rule h) = ruled part differ one h
  single_fault part n differ one (far a says h) = unmatched (Single a) (single part a differ one says) h

  pub some_times_fault : (n : ℕ) → SomeTimesFault parts n → PartsFault parts standards daylights n
  some_times_fault n (part, there, fault) = in_part part there fault

  pub both_say : (p q : Lines) (zone : Zone) → OffsetsDiffer parts → standards ≡ p ∷ [] → daylights ≡ q ∷ [] → SaysBoth p q zone → PartsSay parts standards daylights zone
  both_say p q zone differ one other (a, b, is, first, second, matched, spaced) =
      subst (PartsSay parts standards daylights) (sym is) (record { form = pair p q a b differ one other first second; matched = matched; spaced = spaced })

  pub both_fault : (p q : Lines) (n : ℕ) → OffsetsDiffer parts → standards ≡ p ∷ [] → daylights ≡ q ∷ [] → Contains parts p → Contains parts q → BothFault p q n → PartsFault parts standards daylights n
  both_fault p q n differ one other pc qc (in_standard (inl h)) = in_part p pc h
  both_fault p q n differ one other pc qc (in_standard (inr (e, h))) = subst (PartsFault parts standards daylights) (sym e) (unruled p q differ one other (inl h))
  both_fault p q n differ one other pc qc (in_daylight (inl h)) = in_part q qc h
  both_fault p q n differ one other pc qc (in_daylight (inr (e, h))) = subst (PartsFault parts standards daylights) (sym e) (unruled p q differ one other (inr h))
  both_fault p q n differ one other pc qc (no_match a b s t h) = unmatched (Pair a b) (pair p q a b differ one other s t) h
  both_fault p q n differ one other pc qc (no_space a b s t h) = close (Pair a b) (pair p q a b differ one other s t) h

-- ---- as trees

same_say : (a b c x y z : List Lines) (zone : Zone) → a ≡ x → b ≡ y → c ≡ z → PartsSay x y z zone → PartsSay a b c zone
same_say a b c x y z zone e f g h = rw (e, f, g) h

same_fault : (a b c x y z : List Lines) (n : ℕ) → a ≡ x → b ≡ y → c ≡ z → PartsFault x y z n → PartsFault a b c n
same_fault a b c x y z n e f g h = rw (e, f, g) h

pub says_there : (c : Component) (zone : Zone) → read.SaysComponentZone c zone → SaysZone (tree_of c) zone
says_there c zone h =
    same_say (parts_by is_part (tree_of c)) (parts_by is_standard (tree_of c)) (parts_by is_daylight (tree_of c)) (zone_parts c) (standards_of c) (daylights_of c) zone
    (parts_tree is_part c) (parts_tree is_standard c) (parts_tree is_daylight c) h

pub fault_there : (c : Component) (n : ℕ) → HasZoneFault c n → ZoneFault (tree_of c) n
fault_there c n h =
    same_fault (parts_by is_part (tree_of c)) (parts_by is_standard (tree_of c)) (parts_by is_daylight (tree_of c)) (zone_parts c) (standards_of c) (daylights_of c) n
    (parts_tree is_part c) (parts_tree is_standard c) (parts_tree is_daylight c) h
