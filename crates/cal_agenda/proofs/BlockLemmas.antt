-- Instances and what they leave of a day are the blocks of the day.
use Rattle.std.proofs.Common.{◌≡◌, ◌∙◌, zero, Bool, true, false, List, [], ◌∷◌, ◌++◌, refl, sym, ap, subst, inl, inr, arith, ℤ, ◌≤ℤ◌, ◌<ℤ◌, append-nil}
use Rattle.std.specs.Prelude.{Contains, AllPairs, int_lt, if◌then◌else◌}
use Rattle.std.specs.Int.{int_max}
use Rattle.std.proofs.lemmas.Int.{ints}
use Rattle.std.proofs.lemmas.List.Elements.{Contains-append_cases}
use Rattle.profile.specs.checker.Instances.{Instance}
use Rattle.profile.specs.checker.Agendas.{AreInSpan, AreFreeSpans, AreBlocks, Block, Taken, Free, taken_in, free_in, block_start}
use Rattle.cal_events.proofs.shared_lemmas.InOneOrder.{cons_pairs, head_pairs, tail_pairs, first_or_later, later, none_in}
use Rattle.cal_events.proofs.shared_lemmas.Overlaps.{later_of}
use Rattle.cal_agenda.specs.Gaps.{span_if, gaps}
use Rattle.cal_agenda.specs.Blocks.{free_if, woven}
use Rattle.cal_agenda.proofs.GapLemmas.{AreInTurn, in_turn, gaps_are_free, free_by_agenda}

-- ---- a free span that holds an instant, or none

pub free_cases : (P : List Block → Type 0) (start end : ℤ) → (start <ℤ end → P (Free start end ∷ [])) → (end ≤ℤ start → P []) → P (free_if start end)
free_cases P start end some none = go (int_lt start end) (λ e. some (grind (arith, ints, e))) (λ e. none (grind (arith, ints, e)))
  where
    go : (b : Bool) → (b ≡ true → P (Free start end ∷ [])) → (b ≡ false → P []) → P (if b then Free start end ∷ [] else [])
    go true t f = t refl
    go false t f = f refl

taken_behind : (start end : ℤ) (blocks : List Block) → taken_in (free_if start end ++ blocks) ≡ taken_in blocks
taken_behind start end blocks = go (int_lt start end)
  where
    go : (b : Bool) → taken_in ((if b then Free start end ∷ [] else []) ++ blocks) ≡ taken_in blocks
    go true = refl
    go false = refl

free_behind : (start end : ℤ) (blocks : List Block) → free_in (free_if start end ++ blocks) ≡ span_if start end ++ free_in blocks
free_behind start end blocks = go (int_lt start end)
  where
    go : (b : Bool) → free_in ((if b then Free start end ∷ [] else []) ++ blocks) ≡ (if b then (start, end) ∷ [] else []) ++ free_in blocks
    go true = refl
    go false = refl

-- ---- what is taken, and what is free

taken_woven : (from until : ℤ) (instances : List Instance) → taken_in (woven from until instances) ≡ instances
taken_woven from until [] = ap taken_in (sym (append-nil (free_if from until))) ∙ taken_behind from until []
taken_woven from until (a ∷ rest) = taken_behind from a.start (Taken a ∷ woven (int_max from a.end) until rest) ∙ ap (λ l. a ∷ l) (taken_woven (int_max from a.end) until rest)

free_woven : (from until : ℤ) (instances : List Instance) → free_in (woven from until instances) ≡ gaps from until instances
free_woven from until [] = ap free_in (sym (append-nil (free_if from until))) ∙ free_behind from until [] ∙ append-nil (span_if from until)
free_woven from until (a ∷ rest) = free_behind from a.start (Taken a ∷ woven (int_max from a.end) until rest) ∙ ap (λ l. span_if from a.start ++ l) (free_woven (int_max from a.end) until rest)

-- ---- in order

abbrev comes_first : Block → Block → Type 0
comes_first a b = block_start a ≤ℤ block_start b

-- none begins before a bound, if neither what is left nor an instance does
none_before : (bound from until : ℤ) (instances : List Instance) → bound ≤ℤ from → ((a : Instance) → Contains instances a → bound ≤ℤ a.start) → (b : Block) → Contains (woven from until instances) b → bound ≤ℤ block_start b
none_before bound from until [] low each b among = free_cases (λ l. Contains l b → bound ≤ℤ block_start b) from until
    (λ some c. elim (first_or_later (Free from until) b [] c) [ inl same ↦ subst (λ (x : Block). bound ≤ℤ block_start x) same low | inr none ↦ absurd (none_in b none) ])
    (λ none c. absurd (none_in b c)) among
none_before bound from until (a ∷ rest) low each b among =
    elim (Contains-append_cases (free_if from a.start) (Taken a ∷ woven (int_max from a.end) until rest) b among) [
      | inl left ↦ free_cases (λ l. Contains l b → bound ≤ℤ block_start b) from a.start
          (λ some c. elim (first_or_later (Free from a.start) b [] c) [ inl same ↦ subst (λ (x : Block). bound ≤ℤ block_start x) same low | inr none ↦ absurd (none_in b none) ])
          (λ none c. absurd (none_in b c)) left
      | inr others ↦ elim (first_or_later (Taken a) b (woven (int_max from a.end) until rest) others) [
        | inl same ↦ subst (λ (x : Block). bound ≤ℤ block_start x) same (each a (zero, omega arith, refl))
        | inr c ↦ (let l = (later_of from a.end (int_max from a.end) refl).0 in none_before bound (int_max from a.end) until rest (omega (arith, ints, low, l)) (λ x within. each x (later a x rest within)) b c)
      ]
    ]

module _ (until : ℤ) where
  rest_in_turn : (a : Instance) (rest : List Instance) → AreInTurn until (a ∷ rest) → AreInTurn until rest
  rest_in_turn a rest turn = record {
    some = λ b c. turn.some b (later a b rest c);
    early = λ b c. turn.early b (later a b rest c);
    rise = tail_pairs (λ (x y : Instance). x.start ≤ℤ y.start) a rest turn.rise;
  }

  one_alone : (b : Block) → AllPairs comes_first (b ∷ [])
  one_alone b i j d less w = absurd (omega (arith, less, w))

  in_order : (from : ℤ) (instances : List Instance) → AreInTurn until instances → AllPairs comes_first (woven from until instances)
  in_order from [] turn = free_cases (AllPairs comes_first) from until (λ some. one_alone (Free from until)) (λ none i j d less w. absurd (omega (arith, w)))
  in_order from (a ∷ rest) turn =
      let next = int_max from a.end in
      let reaches = (later_of from a.end next refl).1 in
      let long = turn.some a (zero, omega arith, refl) in
      let its_start : (b : Block) → Contains (woven next until rest) b → a.start ≤ℤ block_start b =
      none_before a.start next until rest (omega (arith, ints, reaches, long)) (λ x c. head_pairs (λ (x y : Instance). x.start ≤ℤ y.start) a x rest turn.rise c) in
      let others : AllPairs comes_first (Taken a ∷ woven next until rest) = cons_pairs comes_first (Taken a) (woven next until rest) its_start (in_order next rest (rest_in_turn a rest turn)) in
      free_cases (λ l. AllPairs comes_first (l ++ Taken a ∷ woven next until rest)) from a.start
      (λ some. cons_pairs comes_first (Free from a.start) (Taken a ∷ woven next until rest)
      (λ b among. elim (first_or_later (Taken a) b (woven next until rest) among) [
        | inl same ↦ subst (λ (x : Block). from ≤ℤ block_start x) same (omega (arith, ints, some))
        | inr c ↦ (let late = its_start b c in omega (arith, ints, some, late))
      ]) others)
      (λ none. others)

-- what is woven of an agenda
pub blocks_of : (Is : Instance → Type 0) (from until : ℤ) (instances : List Instance) → AreInSpan Is from until instances → AreBlocks Is from until (woven from until instances)
blocks_of Is from until instances agenda = record {
  taken = subst (AreInSpan Is from until) (sym (taken_woven from until instances)) agenda;
  free = subst (AreFreeSpans Is from until) (sym (free_woven from until instances)) (free_by_agenda Is from until instances agenda (gaps from until instances) (gaps_are_free until from instances (in_turn Is from until instances agenda)));
  ordered = in_order until from instances (in_turn Is from until instances agenda);
}
