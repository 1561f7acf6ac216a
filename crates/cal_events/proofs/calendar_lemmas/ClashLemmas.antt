-- From places that share an instant to instances that clash, and back.
-- Cited by Calendar::first_overlap.
use Rattle.std.proofs.Common.{◌≡◌, ◌≢◌, ℕ, ◌<◌, pos, ◌≤ℤ◌, List, [], ◌∷◌, map, length, get_or, subst, sym, refl, ap, ◌∙◌, inl, inr, arith}
use Rattle.std.specs.Prelude.{Contains, Option, Some, None, IfSome, IfNone, Result, Ok, Err, IfOk}
use Rattle.std.proofs.lemmas.Bool.{cases_order}
use Rattle.std.proofs.lemmas.List.{get_or-map, get_or_default, length-map}
use Rattle.std.proofs.lemmas.Option.{IfSome_then}
use Rattle.profile.specs.checker.Instances.{Instance, IsClear, IsWithin}
use Rattle.cal_events.specs.declared.sweep.Span.{Span}
use Rattle.cal_events.specs.declared.sweep.Overlap.{Overlap}
use Rattle.cal_events.specs.Entries.{Name}
use Rattle.cal_events.specs.declared.calendar.PlacedSingle.{PlacedSingle as Single}
use Rattle.cal_events.specs.Calendar.{named_instance, span_of, HaveDifferentKeys}
use Rattle.cal_events.specs.Clashes.{Names}
use Rattle.cal_events.specs.Sweep.{span_at, AreSpansApart, IsOverlap}

-- the span of an instance
abbrev when : Instance → Span
when b = record { start = b.start; end = b.end }

spans_is : (entries : List Name) (ss : List Single) → map span_of ss ≡ map when (map (named_instance entries) ss)
spans_is entries [] = refl
spans_is entries (s ∷ ss) = ap (λ (l : List Span). span_of s ∷ l) (spans_is entries ss)

-- any instance: a default past the end
abbrev some_booked : Instance
some_booked = record { key = record { organiser = []; uid = []; slot = pos 0 }; start = pos 0; end = pos 0 }

span_is : (all : List Instance) (i : ℕ) (d : Instance) → i < length all → span_at (map when all) i ≡ when (get_or all i d)
span_is all i d w = get_or-map when all i d (record { start = pos 0; end = pos 0 }) w

different : (all : List Instance) → HaveDifferentKeys all → (i j : ℕ) (d : Instance) → i < length all → j < length all → i ≢ j → (get_or all i d).key ≢ (get_or all j d).key
different all keys i j d hi hj ne e =
    elim (cases_order i j) [
      | inl same ↦ ne same
      | inr w ↦ elim w [ inl lt ↦ keys i j d lt hj e | inr lt ↦ keys j i d lt hi (sym e) ]
    ]

names : (all : List Instance) → HaveDifferentKeys all → (found : Overlap) → IsOverlap (map when all) found → Names all found
names all keys found o =
    let n : length (map when all) ≡ length all = length-map all when in
    let d = some_booked in
    let hi : found.first < length all = omega (arith, n, o.shared.first_in) in
    let hj : found.second < length all = omega (arith, n, o.shared.second_in) in
    let a = get_or all found.first d in
    let b = get_or all found.second d in
    let ea = span_is all found.first d hi in
    let eb = span_is all found.second d hj in
    record {
      a = a;
      b = b;
      first_in = hi;
      second_in = hj;
      first = get_or_default all found.first a d hi;
      second = get_or_default all found.second b d hj;
      clash = record {
        differ = different all keys found.first found.second d hi hj o.shared.differ;
        before = o.shared.before;
        in_first = subst (λ (s : Span). IsWithin s.start s.end found.instant) ea o.shared.in_first;
        in_second = subst (λ (s : Span). IsWithin s.start s.end found.instant) eb o.shared.in_second;
      };
      later = o.later ∙ ap (λ (s : Span). s.start) eb;
      earlier = subst (λ (s : Span). s.start ≤ℤ found.instant) ea o.earlier;
    }

clear : (all : List Instance) → AreSpansApart (map when all) → IsClear (Contains all)
clear all apart a b t (i, within_a, is_a) (j, within_b, is_b) h =
    let n : length (map when all) ≡ length all = length-map all when in
    let ea : span_at (map when all) i ≡ when a = span_is all i a within_a ∙ ap when is_a in
    let eb : span_at (map when all) j ≡ when b = span_is all j b within_b ∙ ap when is_b in
    apart i j t (record {
      first_in = omega (arith, n, within_a);
      second_in = omega (arith, n, within_b);
      differ = λ e. h.differ (ap (λ (x : Instance). x.key)
          (sym is_a ∙ get_or_default all i a b within_a ∙ ap (λ k. get_or all k b) e ∙ is_b));
      before = h.before;
      in_first = subst (λ (s : Span). IsWithin s.start s.end t) (sym ea) h.in_first;
      in_second = subst (λ (s : Span). IsWithin s.start s.end t) (sym eb) h.in_second;
    })

-- what the sweep over the spans of the singles says about the calendar's instances
pub clash_from_overlap : (all : List Instance) (entries : List Name) (bs : List Single) (spans seen : List Span) (r : Option Overlap) → HaveDifferentKeys (map (named_instance entries) bs) → map (named_instance entries) bs ≡ all
    → spans ≡ map span_of bs → seen ≡ spans → IfSome r (IsOverlap seen) → IfSome r (Names all)
clash_from_overlap all entries bs spans seen r keys view e f h =
    IfSome_then r (subst (λ (l : List Span). IfSome r (IsOverlap l)) (f ∙ e ∙ spans_is entries bs ∙ ap (map when) view) h)
    (λ found o. names all (subst HaveDifferentKeys view keys) found o)

pub clear_from_none : (all : List Instance) (entries : List Name) (bs : List Single) (spans seen : List Span) (r : Option Overlap) → map (named_instance entries) bs ≡ all
    → spans ≡ map span_of bs → seen ≡ spans → IfNone r (AreSpansApart seen) → IfNone r (IsClear (Contains all))
clear_from_none all entries bs spans seen None view e f h =
    clear all (subst AreSpansApart (f ∙ e ∙ spans_is entries bs ∙ ap (map when) view) h)
clear_from_none all entries bs spans seen (Some found) view e f h = h

pub clash_from_sweep : (all : List Instance) (entries : List Name) (bs : List Single) (spans seen : List Span) {E : Type 0} (r : Result (Option Overlap) E) → HaveDifferentKeys (map (named_instance entries) bs) → map (named_instance entries) bs ≡ all
    → spans ≡ map span_of bs → seen ≡ spans → IfOk r (λ o. IfSome o (IsOverlap seen)) → IfOk r (λ o. IfSome o (Names all))
clash_from_sweep all entries bs spans seen (Ok o) keys view e f h = clash_from_overlap all entries bs spans seen o keys view e f h
clash_from_sweep all entries bs spans seen (Err x) keys view e f h = h

pub clear_from_sweep : (all : List Instance) (entries : List Name) (bs : List Single) (spans seen : List Span) {E : Type 0} (r : Result (Option Overlap) E) → map (named_instance entries) bs ≡ all
    → spans ≡ map span_of bs → seen ≡ spans → IfOk r (λ o. IfNone o (AreSpansApart seen)) → IfOk r (λ o. IfNone o (IsClear (Contains all)))
clear_from_sweep all entries bs spans seen (Ok o) view e f h = clear_from_none all entries bs spans seen o view e f h
clear_from_sweep all entries bs spans seen (Err x) view e f h = h
