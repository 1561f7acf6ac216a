-- The one line of a property among others, and what is at a place of a list.
use Rattle.std.proofs.Common.{◌≡◌, ◌∙◌, ap, sym, refl, subst, ℕ, zero, suc, ◌+◌, ◌<◌, List, [], ◌∷◌, length, get_or, drop, arith, filter, map, option_map, slice_get, codes, Bool, true, false, if◌then◌else◌, ◌⊎◌, inl, inr}
use Rattle.std.specs.Prelude.{Option, Some, None, Contains}
use Rattle.std.specs.Option.{option_to_list}
use Rattle.std.specs.Str.{bytes_eq}
use Rattle.std.proofs.lemmas.List.{drop_more}
use Rattle.std.proofs.lemmas.Option.{slice_get-map, slice_get_within, get_or_from_slice_get}
use Rattle.profile.specs.text.Objects.{is_version, is_version_only}
use Rattle.profile.specs.faults.Blame.{IsSecond}
use Rattle.profile.specs.text.Lines.{line_value}
use Rattle.profile.specs.text.ObjectBlame.{CalendarBlame}
use Rattle.profile.specs.text.ObjectBlame.CalendarBlame.{no_version, second_version, other_version}
use Rattle.profile.specs.events.Properties.{is_of, lines_named, OccursAtMostOnce, OccursMoreThanOnce, IsMissing}
use Rattle.ical_lines.specs.Text.{line_text, numbered}
use Rattle.ical_lines.specs.declared.line.Line.{Line}
use Rattle.ical_tree.specs.declared.properties.Properties.{Properties}
use Rattle.ical_tree.specs.Own.{own_lines, own_numbered, numbered_own}
use Rattle.ical_tree.proofs.NumberLemmas.{texts}

abbrev Lines : Type 0
Lines = List (List ℕ)

-- ---- lists

-- what is at a place begins the rest from there
pub at_place : {A : Type 0} (xs : List A) (i : ℕ) (x : A) → i < length xs → x ≡ get_or xs i x → drop i xs ≡ x ∷ drop (i + 1) xs
at_place xs i x w e = drop_more xs i x w ∙ ap (λ y. y ∷ drop (i + 1) xs) (sym e)

-- what is at this place of a list, where one is looked for there
pub first_past : {A : Type 0} (number : A → ℕ) (looked : Bool) (xs : List A) (i : ℕ) (x : A) → (if looked then slice_get xs i else None) ≡ Some x
    → (looked ≡ true) × ((after : List ℕ) × (drop i (map number xs) ≡ number x ∷ after))
first_past number false xs i x e = cc
first_past number true xs i x e =
    let mapped : slice_get (map number xs) i ≡ Some (number x) = slice_get-map number xs i ∙ ap (option_map number) e in
    (refl, (drop (i + 1) (map number xs), at_place (map number xs) i (number x) (slice_get_within (map number xs) i (number x) mapped) (sym (get_or_from_slice_get (map number xs) i (number x) (number x) mapped))))

pub at_one : {A : Type 0} (x y : A) → Contains (x ∷ []) y → x ≡ y
at_one x y (zero, w, e) = e
at_one x y (suc k, w, e) = absurd (omega arith)

pub same_option : {A : Type 0} (a b : Option A) → option_to_list a ≡ option_to_list b → a ≡ b
same_option None None h = refl
same_option None (Some b) h = cc
same_option (Some a) None h = cc
same_option (Some a) (Some b) h = let e : a ≡ b = cc in ap Some e

-- ---- lines

-- a line says one value at most
abbrev pub IsFunctional : {V : Type 0} → (List ℕ → V → Type 0) → Type 0
IsFunctional {V} R = (line : List ℕ) (a b : V) → R line a → R line b → a ≡ b

-- the one line of a name is one of that name, and there is no other
pub the_line : (name : List ℕ) (lines : Lines) (line : List ℕ) → OccursAtMostOnce name lines (Some line) → Contains (lines_named name lines) line
the_line name lines line e = subst (λ (ls : Lines). Contains ls line) (sym e) (zero, omega arith, refl)

pub only_line : (name : List ℕ) (lines : Lines) (l : Option (List ℕ)) (line : List ℕ) → OccursAtMostOnce name lines l → Contains (lines_named name lines) line → l ≡ Some line
only_line name lines None line e c = let h = subst (λ (ls : Lines). Contains ls line) e c in absurd (omega (arith, h.1))
only_line name lines (Some x) line e c = ap Some (at_one x line (subst (λ (ls : Lines). Contains ls line) e c))

-- VERSION doesn't occur exactly once
pub not_one_version : (lines : Lines) → (IsMissing (codes "VERSION") lines ⊎ OccursMoreThanOnce (codes "VERSION") lines) → false ≡ is_version_only (filter is_version lines)
not_one_version lines h = other (filter is_version lines) h
  where
    other : (ls : Lines) → ((ls ≡ []) ⊎ (1 < length ls)) → false ≡ is_version_only ls
    other [] h = refl
    other (x ∷ []) (inl e) = cc
    other (x ∷ []) (inr h) = absurd (omega (arith, h))
    other (x ∷ y ∷ rest) h = refl

-- ---- the line at which VERSION is refused

pub own_texts : (properties : Properties) → texts (own_numbered properties) ≡ own_lines properties
own_texts properties = each properties.lines.items
  where
    each : (items : List Line) → texts (map numbered items) ≡ map line_text items
    each [] = refl
    each (item ∷ items) = ap (λ z. line_text item ∷ z) (each items)

pub version_refused : (bounded : Bool) (events : List ℕ) (properties : Properties) (at : ℕ)
    → (IsMissing (codes "VERSION") (own_lines properties) × (at ≡ properties.begun)) ⊎ (OccursMoreThanOnce (codes "VERSION") (own_lines properties) × IsSecond (is_of (codes "VERSION")) (own_numbered properties) at)
    → CalendarBlame bounded (numbered_own properties) events 24 at
version_refused bounded events properties at (inl (missing, first)) = rw first (no_version (ap (filter is_version) (own_texts properties) ∙ missing))
version_refused bounded events properties at (inr (twice, second)) = second_version second

pub version_other : (bounded : Bool) (events : List ℕ) (properties : Properties) (line : Line) → OccursAtMostOnce (codes "VERSION") (own_lines properties) (Some (line_text line))
    → Contains (own_numbered properties) (numbered line) → bytes_eq (line_value (line_text line)) (codes "2.0") ≡ false → CalendarBlame bounded (numbered_own properties) events 24 line.number
version_other bounded events properties line one among other =
    other_version (record { line = line_text line; among = among; holds = (ap (filter is_version) (own_texts properties) ∙ one, other) })
