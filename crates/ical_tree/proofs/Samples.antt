-- The definitions on worked examples.
use Rattle.std.proofs.Common.{◌≡◌, ℕ, true, false, List, [], ◌∷◌, codes, refl}
use Rattle.profile.specs.text.ObjectBlame.{events_begun, inside}
use Rattle.profile.specs.text.Objects.{is_property, lines_have}

-- without its last line an object isn't closed (21)
not_closed : lines_have 21 (codes "BEGIN:VCALENDAR" ∷ codes "VERSION:2.0" ∷ []) ≡ true
not_closed = refl

closed : lines_have 21 (codes "BEGIN:VCALENDAR" ∷ codes "VERSION:2.0" ∷ codes "end:vcalendar" ∷ []) ≡ false
closed = refl

-- a VCALENDAR inside another, or inside a VEVENT (23); as a ninth component it is too deep (22) and no more
inner : lines_have 23 (codes "BEGIN:VCALENDAR" ∷ codes "VERSION:2.0" ∷ codes "BEGIN:vcalendar" ∷ codes "END:vcalendar" ∷ codes "END:VCALENDAR" ∷ []) ≡ true
inner = refl

abbrev eight : List (List ℕ)
eight = codes "X" ∷ codes "X" ∷ codes "X" ∷ codes "X" ∷ codes "X" ∷ codes "X" ∷ codes "X" ∷ codes "VCALENDAR" ∷ []

-- a second VCALENDAR (23), a property outside (23), no line at all (23)
second : lines_have 23 (codes "BEGIN:VCALENDAR" ∷ codes "END:VCALENDAR" ∷ codes "BEGIN:VCALENDAR" ∷ []) ≡ true
second = refl

outside : lines_have 23 (codes "VERSION:2.0" ∷ []) ≡ true
outside = refl

no_lines : lines_have 23 [] ≡ true
no_lines = refl

not_outside : lines_have 23 (codes "END:VEVENT" ∷ codes "VERSION:2.0" ∷ codes "BEGIN:VCALENDAR" ∷ []) ≡ false
not_outside = refl

-- what is directly inside a VCALENDAR, and at which lines
abbrev object : List (List ℕ)
object = codes "BEGIN:VCALENDAR" ∷ codes "VERSION:2.0" ∷ codes "BEGIN:vevent" ∷ codes "UID:1" ∷ codes "END:VEVENT" ∷ codes "X-A:1" ∷ codes "END:VCALENDAR" ∷ []

own : inside is_property object ≡ (2, codes "VERSION:2.0") ∷ (6, codes "X-A:1") ∷ []
own = refl

events : events_begun object ≡ 3 ∷ []
events = refl
