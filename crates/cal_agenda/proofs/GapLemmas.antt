-- What instances in order leave of a span are the spans in which nothing is.
use Rattle.std.proofs.Common.{◌≡◌, ◌∙◌, ℕ, zero, suc, Bool, true, false, List, [], ◌∷◌, ◌++◌, length, refl, sym, subst, get_or, Ordering, inl, inr, arith, ℤ, pos, ◌-ℤ◌, ◌≤ℤ◌, ◌<ℤ◌}
use Rattle.std.specs.Prelude.{Contains, AllPairs, IsTrue, ◌↔◌, ◌==◌, int_lt, if◌then◌else◌}
use Rattle.std.specs.Int.{int_max}
use Rattle.std.specs.declared.cmp.Ordering.TheVariants.{Less, Equal, Greater}
use Rattle.std.proofs.lemmas.Bool.{true≢false}
use Rattle.std.proofs.lemmas.Bool.Decides.{nat_tests}
use Rattle.std.proofs.lemmas.Cmp.{int_ranked}
use Rattle.std.proofs.lemmas.Int.{ints, by_lt_z}
use Rattle.std.specs.Ordering.{int_cmp, ordering_then}
use Rattle.profile.specs.checker.Instances.{Instance, IsWithin, instance_cmp, key_cmp}
use Rattle.profile.specs.checker.Agendas.{AreInSpan, IsFreeAt, IsFreeSpan, AreFreeSpans}
use Rattle.cal_events.proofs.shared_lemmas.InOneOrder.{append_pairs, head_pairs, tail_pairs, first_or_later, later, none_in}
use Rattle.cal_events.proofs.shared_lemmas.Overlaps.{later_of}
use Rattle.cal_agenda.specs.Gaps.{span_if, gaps, IsFreeThroughout}

-- ---- a span that holds an instant, or none

pub span_cases : (P : List (ℤ × ℤ) → Type 0) (start end : ℤ) → (start <ℤ end → P ((start, end) ∷ [])) → (end ≤ℤ start → P []) → P (span_if start end)
span_cases P start end some none = go (int_lt start end) (λ e. some (grind (arith, ints, e))) (λ e. none (grind (arith, ints, e)))
  where
    go : (b : Bool) → (b ≡ true → P ((start, end) ∷ [])) → (b ≡ false → P []) → P (if b then (start, end) ∷ [] else [])
    go true t f = t refl
    go false t f = f refl

-- ---- the order of an agenda

-- each instance has a length, and starts before the end of the span; none starts before an earlier one
pub record AreInTurn (until : ℤ) (instances : List Instance) : Type 0 where
  pub some : (a : Instance) → Contains instances a → a.start <ℤ a.end
  pub early : (a : Instance) → Contains instances a → a.start <ℤ until
  pub rise : AllPairs (λ a b. a.start ≤ℤ b.start) instances

module _ (until : ℤ) where
  rest_in_turn : (a : Instance) (rest : List Instance) → AreInTurn until (a ∷ rest) → AreInTurn until rest
  rest_in_turn a rest turn = record {
    some = λ b c. turn.some b (later a b rest c);
    early = λ b c. turn.early b (later a b rest c);
    rise = tail_pairs (λ (x y : Instance). x.start ≤ℤ y.start) a rest turn.rise;
  }

  -- ---- without the first

  module _ (a : Instance) (rest : List Instance) where
    -- at an instant before it none of these is
    first_free : (t : ℤ) → AreInTurn until (a ∷ rest) → t <ℤ a.start → IsFreeAt (Contains (a ∷ rest)) t
    first_free t turn before b among within =
        elim (first_or_later a b rest among) [
          | inl same ↦ let late : a.start ≤ℤ t = subst (λ (x : Instance). x.start ≤ℤ t) (sym same) within.0 in omega (arith, ints, before, late)
          | inr c ↦ let rises = head_pairs (λ (x y : Instance). x.start ≤ℤ y.start) a b rest turn.rise c in let late = within.0 in omega (arith, ints, before, late, rises)
        ]

    both_free : (t : ℤ) → a.end ≤ℤ t → IsFreeAt (Contains rest) t → IsFreeAt (Contains (a ∷ rest)) t
    both_free t over free b among within =
        elim (first_or_later a b rest among) [
          | inl same ↦ let early : t <ℤ a.end = subst (λ (x : Instance). t <ℤ x.end) (sym same) within.1 in omega (arith, ints, over, early)
          | inr c ↦ free b c within
        ]

    rest_free : (t : ℤ) → IsFreeAt (Contains (a ∷ rest)) t → IsFreeAt (Contains rest) t
    rest_free t free b c within = free b (later a b rest c) within

    held : (t : ℤ) → IsWithin a.start a.end t → IsFreeAt (Contains (a ∷ rest)) t → ⊥
    held t within free = free a (zero, omega arith, refl) within

  -- ---- all

  pub gaps_are_free : (from : ℤ) (instances : List Instance) → AreInTurn until instances → AreFreeSpans (Contains instances) from until (gaps from until instances)
  gaps_are_free from [] turn = span_cases (AreFreeSpans (Contains []) from until) from until
      (λ some. record {
        each = λ s among. elim (first_or_later (from, until) s [] among) [
          | inl same ↦ subst (λ s. IsFreeSpan (Contains []) from until s.0 s.1) same (record {
            some = some;
            free = λ t within. (within, λ b c inside. none_in b c);
            begins = inl refl;
            ends = inl refl;
          })
          | inr c ↦ absurd (none_in s c)
        ];
        all = λ t within free. ((from, until), (zero, omega arith, refl), within);
        ordered = λ i j d less below. absurd (omega (arith, less, below));
      })
      (λ none. record {
        each = λ s among. absurd (none_in s among);
        all = λ t within free. let low = within.0 in let high = within.1 in absurd (omega (arith, ints, none, low, high));
        ordered = λ i j d less below. absurd (omega (arith, below));
      })
  gaps_are_free from (a ∷ rest) turn =
      let next = int_max from a.end in
      let latest = later_of from a.end next refl in
      let from_next : from ≤ℤ next = latest.0 in
      let end_next : a.end ≤ℤ next = latest.1 in
      let tail = gaps_are_free next rest (rest_in_turn a rest turn) in
      let long = turn.some a (zero, omega arith, refl) in
      let early = turn.early a (zero, omega arith, refl) in
      let each_later : (s : ℤ × ℤ) → Contains (gaps next until rest) s → IsFreeSpan (Contains (a ∷ rest)) from until s.0 s.1 = λ s c.
      let span = tail.each s c in
      let start_in = (span.free s.0 (omega (arith, ints), span.some)).0.0 in
      record {
        some = span.some;
        free = λ t within.
            let f = span.free t within in
            let low = f.0.0 in
            ((omega (arith, ints, low, from_next), f.0.1), both_free a rest t (omega (arith, ints, low, end_next)) f.1);
        begins = elim span.begins [
          | inl at ↦ elim latest.2 [
            | inl same ↦ inl (at ∙ same)
            | inr same ↦ inr (λ free. held a rest (s.0 -ℤ pos 1) (omega (arith, ints, at, same, long), omega (arith, ints, at, same)) free)
          ]
          | inr taken ↦ inr (λ free. taken (rest_free a rest (s.0 -ℤ pos 1) free))
        ];
        ends = elim span.ends [ inl at ↦ inl at | inr taken ↦ inr (λ free. taken (rest_free a rest s.1 free)) ];
      } in
      let late_start : (s : ℤ × ℤ) → Contains (gaps next until rest) s → next ≤ℤ s.0 = λ s c.
      let span = tail.each s c in (span.free s.0 (omega (arith, ints), span.some)).0.0 in
      let found_later : (t : ℤ) → IsWithin from until t → IsFreeAt (Contains (a ∷ rest)) t → a.start ≤ℤ t → (s : ℤ × ℤ) × Contains (gaps next until rest) s × IsWithin s.0 s.1 t = λ t within free from_start.
      let over : a.end ≤ℤ t = by_lt_z t a.end (λ less. absurd (held a rest t (from_start, less) free)) (λ most. most) in
      let low : next ≤ℤ t = elim latest.2 [ inl same ↦ (let w = within.0 in omega (arith, ints, same, w)) | inr same ↦ omega (arith, ints, same, over) ] in
      tail.all t (low, within.1) (rest_free a rest t free) in
      span_cases (λ first. AreFreeSpans (Contains (a ∷ rest)) from until (first ++ gaps next until rest)) from a.start
      (λ some. record {
        each = λ s among. elim (first_or_later (from, a.start) s (gaps next until rest) among) [
          | inl same ↦ subst (λ s. IsFreeSpan (Contains (a ∷ rest)) from until s.0 s.1) same (record {
            some = some;
            free = λ t within. let high = within.1 in ((within.0, omega (arith, ints, high, early)), first_free a rest t turn high);
            begins = inl refl;
            ends = inr (λ free. held a rest a.start (omega (arith, ints), long) free);
          })
          | inr c ↦ each_later s c
        ];
        all = λ t within free. by_lt_z t a.start
            (λ before. ((from, a.start), (zero, omega arith, refl), (within.0, before)))
            (λ from_start. let f = found_later t within free from_start in (f.0, later (from, a.start) f.0 (gaps next until rest) f.1, f.2));
        ordered = append_pairs (λ (x y : ℤ × ℤ). x.1 <ℤ y.0) ((from, a.start) ∷ []) (gaps next until rest) (λ i j d less below. absurd (omega (arith, less, below))) tail.ordered
            (λ x y c l. elim (first_or_later (from, a.start) x [] c) [
              | inl same ↦ subst (λ (z : ℤ × ℤ). z.1 <ℤ y.0) same (let low = late_start y l in omega (arith, ints, low, end_next, long))
              | inr none ↦ absurd (none_in x none)
            ]);
      })
      (λ none. record {
        each = each_later;
        all = λ t within free. let low = within.0 in found_later t within free (omega (arith, ints, none, low));
        ordered = tail.ordered;
      })

-- ---- of an agenda

-- what comes first starts no later
rises : (a b : Instance) → instance_cmp a b ≡ Less → a.start ≤ℤ b.start
rises a b first = go (int_cmp a.start b.start) refl first
  where
    go : (r : Ordering) → int_cmp a.start b.start ≡ r → ordering_then r (key_cmp a.key b.key) ≡ Less → a.start ≤ℤ b.start
    go Less e same = let l = int_ranked a.start b.start Less (sym e) in omega (arith, ints, l)
    go Equal e same = let l = int_ranked a.start b.start Equal (sym e) in omega (arith, ints, l)
    go Greater e same = cc

module _ (Is : Instance → Type 0) (from until : ℤ) (instances : List Instance) (agenda : AreInSpan Is from until instances) where
  -- in the span the room is free where none of these is
  free_by : (t : ℤ) → IsWithin from until t → IsFreeAt (Contains instances) t → IsFreeAt Is t
  free_by t inside free a is within = free a (agenda.all a is (t, inside, within)) within

  free_of : (t : ℤ) → IsFreeAt Is t → IsFreeAt (Contains instances) t
  free_of t free a among within = free a (agenda.only a among).0 within

  pub in_turn : AreInTurn until instances
  in_turn = record {
    some = λ a c. let w = (agenda.only a c).1.2 in let low = w.0 in let high = w.1 in omega (arith, ints, low, high);
    early = λ a c. let w = (agenda.only a c).1 in let low = w.2.0 in let high = w.1.1 in omega (arith, ints, low, high);
    rise = λ i j d less within. rises (get_or instances i d) (get_or instances j d) (agenda.ordered i j d less within);
  }

  pub free_by_agenda : (spans : List (ℤ × ℤ)) → AreFreeSpans (Contains instances) from until spans → AreFreeSpans Is from until spans
  free_by_agenda spans are = record {
    each = λ s c. let span = are.each s c in record {
      some = span.some;
      free = λ t within. let f = span.free t within in (f.0, free_by t f.0 f.1);
      begins = elim span.begins [ inl at ↦ inl at | inr taken ↦ inr (λ free. taken (free_of (s.0 -ℤ pos 1) free)) ];
      ends = elim span.ends [ inl at ↦ inl at | inr taken ↦ inr (λ free. taken (free_of s.1 free)) ];
    };
    all = λ t within free. are.all t within (free_of t free);
    ordered = are.ordered;
  }

-- free all the time where none is in the span
pub free_if_none : (Is : Instance → Type 0) (from until : ℤ) (instances : List Instance) (is_none : Bool) → is_none ≡ (length instances == 0) → AreInSpan Is from until instances
    → IsTrue is_none ↔ IsFreeThroughout Is from until
free_if_none Is from until [] is_none e agenda = ((λ same t inside a is within. none_in a (agenda.all a is (t, inside, within))), λ free. e)
free_if_none Is from until (a ∷ rest) is_none e agenda =
    let found = agenda.only a (zero, omega arith, refl) in
    let inside = found.1.1 in
    let within = found.1.2 in
    ((λ same. absurd (true≢false (sym same ∙ e ∙ some (length rest)))), λ free. absurd (free found.1.0 inside a found.0 within))
  where
    some : (n : ℕ) → (suc n == 0) ≡ false
    some n = grind (arith, nat_tests)
