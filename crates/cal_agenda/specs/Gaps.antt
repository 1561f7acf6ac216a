-- What instances in order leave of a span.
use Rattle.std.specs.Prelude.{ℤ, List, [], ◌∷◌, ◌++◌, int_lt, if◌then◌else◌}
use Rattle.std.specs.Int.{int_max}
use Rattle.profile.specs.checker.Instances.{Instance, IsWithin}
use Rattle.profile.specs.checker.Agendas.{IsFreeAt}
use Rattle.cal_events.specs.declared.sweep.Span.{Span}

abbrev pub ends_of : Span → ℤ × ℤ
ends_of span = (span.start, span.end)

-- the span, if there is an instant in it
abbrev pub span_if : ℤ → ℤ → List (ℤ × ℤ)
span_if start end = if int_lt start end then (start, end) ∷ [] else []

-- what is left before the first, and from its end on what the others leave; an instance may go on when later ones are over
abbrev pub gaps : ℤ → ℤ → List Instance → List (ℤ × ℤ)
gaps from until [] = span_if from until
gaps from until (a ∷ rest) = span_if from a.start ++ gaps (int_max from a.end) until rest

-- no instance of the kind holds the room at any instant of the span
abbrev pub IsFreeThroughout : (Instance → Type 0) → ℤ → ℤ → Type 0
IsFreeThroughout Is from until = (t : ℤ) → IsWithin from until t → IsFreeAt Is t
