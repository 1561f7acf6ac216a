-- The steps of a cutter, octet by octet.
use Rattle.std.specs.Prelude.{◌≡◌, ◌++◌, ℕ, ◌+◌, Bool, true, false, not, ◌&&◌, ◌||◌, ◌==◌, nat_lt, List, [], ◌∷◌, slice_index, codes, if◌then◌else◌}
use Rattle.std.specs.Char.{to_ascii_lowercase}
use Rattle.ical_lines.specs.declared.object_end.Cutter.{Cutter}
use Rattle.ical_lines.specs.declared.object_end.CutPlace.{CutPlace}
use Rattle.ical_lines.specs.declared.object_end.CutPlace.TheVariants.{Mark, Line, Return, Break}
use Rattle.ical_lines.specs.declared.object_end.Seen.{Seen}
use Rattle.ical_lines.specs.declared.object_end.Seen.TheVariants.{First, Other}

abbrev pub next_seen : Seen → ℕ → Seen
next_seen (First k) b =
    if nat_lt k 13 && to_ascii_lowercase b == slice_index (codes "end:vcalendar") k then First (k + 1) else Other
next_seen Other b = Other

abbrev pub is_whole : Seen → Bool
is_whole (First k) = k == 13
is_whole Other = false

-- an octet of the line that has begun
abbrev pub added : Cutter → ℕ → Cutter
added s b = record { place = s.place; seen = next_seen s.seen b; begun = true }

abbrev pub at_place : CutPlace → Cutter → Cutter
at_place p s = record { place = p; seen = s.seen; begun = s.begun }

abbrev pub at_start : Cutter → Cutter
at_start s = record { place = s.place; seen = First 0; begun = s.begun }

abbrev pub after_line : Cutter → ℕ → Cutter
after_line s b =
    if b == 10 then at_place Break s
    else (if b == 13 then at_place Return s
    else at_place Line (added s b))

abbrev pub after_return : Cutter → ℕ → Cutter
after_return s b = if b == 10 then after_line s b else after_line (added s 13) b

abbrev pub is_blank : ℕ → Bool
is_blank b = b == 32 || b == 9

abbrev pub after_break : Cutter → ℕ → Cutter
after_break s b = if is_blank b then at_place Line s else after_line (at_start s) b

abbrev pub after_mark : ℕ → Cutter → ℕ → Cutter
after_mark k s b =
    if k == 0 && b == 0xEF then at_place (Mark 1) (added s b)
    else (if k == 1 && b == 0xBB then at_place (Mark 2) (added s b)
    else (if k == 2 && b == 0xBF then at_place Line (at_start s)
    else after_line s b))

-- the cutter after one more octet
abbrev pub step_from : CutPlace → Cutter → ℕ → Cutter
step_from (Mark k) s b = after_mark k s b
step_from Line s b = after_line s b
step_from Return s b = after_return s b
step_from Break s b = after_break s b

abbrev pub step : Cutter → ℕ → Cutter
step s b = step_from s.place s b

abbrev pub ends_from : CutPlace → Cutter → ℕ → Bool
ends_from Break s b = not (is_blank b) && is_whole s.seen
ends_from _ s b = false

-- the object ended before this octet
abbrev pub ends_before : Cutter → ℕ → Bool
ends_before s b = ends_from s.place s b

-- what follows the object, of the octets that are still to come
abbrev pub rest_after : Cutter → List ℕ → List ℕ
rest_after s [] = []
rest_after s (b ∷ bs) = if ends_before s b then b ∷ bs else rest_after (step s b) bs

-- whether more than empty lines have come, once these octets have
abbrev pub begun_after : Cutter → List ℕ → Bool
begun_after s [] = s.begun
begun_after s (b ∷ bs) = if ends_before s b then true else begun_after (step s b) bs

-- at the start of an object
abbrev pub fresh : Cutter
fresh = record { place = Mark 0; seen = First 0; begun = false }

-- with these octets or without them the same follows the object, and it has begun or hasn't
pub record ChangeNothing (s : Cutter) (octets : List ℕ) : Type 0 where
  pub rest : (more : List ℕ) → rest_after s (octets ++ more) ≡ rest_after s more
  pub begun : (more : List ℕ) → begun_after s (octets ++ more) ≡ begun_after s more
