-- The next instances of several series, in a heap of which the greatest is the one that starts first.
use Rattle.std.specs.Prelude.{◌≡◌, ◌↔◌, ℕ, ℤ, ◌≤ℤ◌, ◌<ℤ◌, List, ◌∷◌, Option, Some, None, MatchOption, IfSome}
use Rattle.std.specs.Ordering.{ordering_then, nat_cmp, int_cmp}
use Rattle.std.specs.List.Sorted.{IsPermutation}
use Rattle.std.specs.declared.cmp.Ordering.{Ordering}
use Rattle.std.specs.declared.cmp.Reverse.{Reverse}
use Rattle.cal_events.specs.declared.sweep.Span.{Span}
use Rattle.clash_check.specs.Draws.{drawn_more, one_if}
use Rattle.clash_check.specs.declared.group_sweep.Next.{Next}

-- the order of the heap
abbrev pub next_cmp : Reverse Next → Reverse Next → Ordering
next_cmp x y = ordering_then (int_cmp y.0.start x.0.start) (ordering_then (int_cmp y.0.end x.0.end) (nat_cmp y.0.series x.0.series))

-- the next instance of a series
abbrev pub item_of : ℕ → Span → Reverse Next
item_of series x = record { 0 = record { start = x.start; end = x.end; series = series } }

-- when it starts and ends
abbrev pub span_of_next : Reverse Next → Span
span_of_next h = record { start = h.0.start; end = h.0.end }

-- it was put to those of others, where there is one
abbrev pub IsPutBack : ℕ → Option Span → List (Reverse Next) → List (Reverse Next) → Type 0
IsPutBack series None old new = new ≡ old
IsPutBack series (Some x) old new = IsPermutation (item_of series x ∷ old) new

-- the first of those that come is drawn, where one comes, and put to the others
pub record DrawsNext (Old New : ℤ → ℤ → Type 0) (old new : ℕ) (series : ℕ) (before after : List (Reverse Next)) : Type 0 where
  pub found : Option Span
  pub drawn : MatchOption found ((start end : ℤ) → Old start end → ⊥) (λ x. Old x.start x.end × ((start end : ℤ) → Old start end → x.start ≤ℤ start))
  pub coming : (start end : ℤ) → New start end ↔ (Old start end × IfSome found (λ x. x.start <ℤ start))
  pub count : new ≡ drawn_more old (one_if found)
  pub put : IsPutBack series found before after
