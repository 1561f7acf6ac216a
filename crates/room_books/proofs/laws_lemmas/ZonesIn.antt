-- The zones of a kept calendar: each is one of its contents', each once, and each content has its own among them.
-- Behind kept_texts_pass, kept_texts_spell, served_texts_pass.
use Rattle.std.proofs.Common.{◌≡◌, ◌∙◌, refl, sym, ap, subst, inl, inr, ℕ, zero, suc, ◌≤◌, Bool, true, false, not, cond, List, [], ◌∷◌, ◌++◌, length, Option, None, Some, arith}
use Rattle.std.specs.Prelude.{◌⊎◌, filter, Contains}
use Rattle.std.specs.Option.{option_to_list}
use Rattle.std.specs.List.{flat_map, slice_get}
use Rattle.std.specs.Str.{bytes_eq}
use Rattle.std.proofs.lemmas.List.{length-append}
use Rattle.std.proofs.lemmas.Slice.Eq.{bytes_eq-Decides}
use Rattle.profile.specs.events.EventComponents.{EventComponent}
use Rattle.profile.specs.events.Properties.{BothOrNeither}
use Rattle.profile.specs.rooms.Messages.{Content, IsContent, IsZoneRest}
use Rattle.profile.specs.rooms.Kept.{KeptComponent, Shown, Hidden, each_once, zone_kept, zones_kept}
use Rattle.profile.specs.rooms.Rooms.{Claim}
use Rattle.profile.specs.series.Zones.{Zone}
use Rattle.itip_messages.proofs.shared_lemmas.ZonedObjects.{IsZone}
use Rattle.itip_messages.proofs.shared_lemmas.ZonedStarts.{IsSaid}

-- ---- each is one of them

in_filter : {X : Type 0} (p : X → Bool) (xs : List X) (x : X) → Contains (filter p xs) x → Contains xs x × (p x ≡ true)
in_filter p [] x c = absurd (omega (arith, c.1))
in_filter {X = X} p (y ∷ ys) x c = by (p y) refl (λ d. in_filter p ys x d) c
  where
    by : (b : Bool) → p y ≡ b → (Contains (filter p ys) x → Contains ys x × (p x ≡ true)) → Contains (cond b (y ∷ filter p ys) (filter p ys)) x → Contains (y ∷ ys) x × (p x ≡ true)
    by true e f (zero, l, is) = ((zero, omega arith, is), ap p (sym is) ∙ e)
    by true e f (suc k, l, is) = let r = f (k, omega (arith, l), is) in ((suc r.0.0, omega (arith, r.0.1), r.0.2), r.1)
    by false e f d = let r = f d in ((suc r.0.0, omega (arith, r.0.1), r.0.2), r.1)

pub once_from : (xs : List (List ℕ)) (z : List ℕ) → Contains (each_once xs) z → Contains xs z
once_from [] z c = absurd (omega (arith, c.1))
once_from (x ∷ xs) z (zero, l, is) = (zero, omega arith, is)
once_from (x ∷ xs) z (suc k, l, is) =
    let r = once_from xs z (in_filter (λ other. not (bytes_eq x other)) (each_once xs) z (k, omega (arith, l), is)).0 in
    (suc r.0, omega (arith, r.1), r.2)

-- ---- and each is there

stays_in : {X : Type 0} (p : X → Bool) (xs : List X) (k : ℕ) (x : X) → slice_get xs k ≡ Some x → p x ≡ true → (place : ℕ) × (slice_get (filter p xs) place ≡ Some x)
stays_in p [] k x e h = cc
stays_in {X = X} p (y ∷ ys) zero x e h =
    let is : y ≡ x = ap (λ (o : Option X). or_that y o) e in
    let passes : p y ≡ true = ap p is ∙ h in
    (zero, ap (λ b. slice_get (cond b (y ∷ filter p ys) (filter p ys)) zero) passes ∙ ap Some is)
  where
    or_that : X → Option X → X
    or_that y None = y
    or_that y (Some z) = z
stays_in {X = X} p (y ∷ ys) (suc k) x e h = by (p y) (stays_in p ys k x e h)
  where
    by : (b : Bool) → (place : ℕ) × (slice_get (filter p ys) place ≡ Some x) → (place : ℕ) × (slice_get (cond b (y ∷ filter p ys) (filter p ys)) place ≡ Some x)
    by true r = (suc r.0, r.1)
    by false r = r

pub once_there : (xs : List (List ℕ)) (z : List ℕ) → Contains xs z → (place : ℕ) × (slice_get (each_once xs) place ≡ Some z)
once_there [] z c = absurd (omega (arith, c.1))
once_there (x ∷ xs) z (zero, l, is) = (zero, ap Some is)
once_there (x ∷ xs) z (suc k, l, is) = by (bytes_eq x z) refl (once_there xs z (k, omega (arith, l), is))
  where
    by : (b : Bool) → bytes_eq x z ≡ b → (place : ℕ) × (slice_get (each_once xs) place ≡ Some z) → (place : ℕ) × (slice_get (each_once (x ∷ xs)) place ≡ Some z)
    by true h r = (zero, ap Some ((bytes_eq-Decides x z).0 h))
    by false h r =
        let there = stays_in (λ other. not (bytes_eq x other)) (each_once xs) r.0 z r.1 (ap not h) in
        (suc there.0, there.1)

-- ---- the zones of entries

-- a content's zone is none, or one that some VTIMEZONE says
abbrev pub HasZone : Option (List ℕ) → Type 0
HasZone None = Unit {0}
HasZone (Some rest) = IsZone rest

pub has_zone : (content : Content) (event : EventComponent) → IsContent content event → IsSaid event.times.zone → HasZone content.zone
has_zone content event c said = go event.times.zone content.zone said c.in_zone
  where
    go : (zone : Option Zone) (rest : Option (List ℕ)) → IsSaid zone → BothOrNeither IsZoneRest zone rest → HasZone rest
    go _ None s w = tt
    go None (Some rest) s w = absurd w
    go (Some zone) (Some rest) s w = (zone, s.0, s.1, w)

abbrev pub HaveZones : List KeptComponent → Type 0
HaveZones entries = (claim : Claim) → Contains entries (Shown claim) → HasZone claim.content.zone

in_one : (o : Option (List ℕ)) → HasZone o → (z : List ℕ) → Contains (option_to_list o) z → IsZone z
in_one None h z c = absurd (omega (arith, c.1))
in_one (Some rest) h z (zero, l, is) = subst IsZone is h
in_one (Some rest) h z (suc k, l, is) = absurd (omega (arith, l))

in_entry : (entry : KeptComponent) → ((claim : Claim) → entry ≡ Shown claim → HasZone claim.content.zone) → (z : List ℕ) → Contains (zone_kept entry) z → IsZone z
in_entry (Shown claim) f z c = in_one claim.content.zone (f claim refl) z c
in_entry (Hidden part) f z c = absurd (omega (arith, c.1))

-- what is in two lists together is in one of them
in_either : {X : Type 0} (xs ys : List X) (z : X) → Contains (xs ++ ys) z → Contains xs z ⊎ Contains ys z
in_either [] ys z c = inr c
in_either (x ∷ xs) ys z (zero, l, is) = inl (zero, omega arith, is)
in_either {X = X} (x ∷ xs) ys z (suc k, l, is) = by (in_either xs ys z (k, omega (arith, l), is))
  where
    by : Contains xs z ⊎ Contains ys z → Contains (x ∷ xs) z ⊎ Contains ys z
    by (inl c) = inl (suc c.0, omega (arith, c.1), c.2)
    by (inr c) = inr c

from_entries : (entries : List KeptComponent) → HaveZones entries → (z : List ℕ) → Contains (flat_map zone_kept entries) z → IsZone z
from_entries [] f z c = absurd (omega (arith, c.1))
from_entries (e ∷ es) f z c =
    elim (in_either (zone_kept e) (flat_map zone_kept es) z c) [
      | inl here ↦ in_entry e (λ claim same. f claim (zero, omega arith, same)) z here
      | inr more ↦ from_entries es (λ claim d. f claim (suc d.0, omega (arith, d.1), d.2)) z more
    ]

-- what `kept_spelled` asks of the zones
pub zones_kept_are : (entries : List KeptComponent) → HaveZones entries → (z : List ℕ) → Contains (zones_kept entries) z → IsZone z
zones_kept_are entries f z c = from_entries entries f z (once_from (flat_map zone_kept entries) z c)

-- there are no more zones than entries
entry_short : (entry : KeptComponent) → length (zone_kept entry) ≤ 1
entry_short (Hidden part) = omega arith
entry_short (Shown claim) = by claim.content.zone
  where
    by : (o : Option (List ℕ)) → length (option_to_list o) ≤ 1
    by None = omega arith
    by (Some rest) = omega arith

entries_short : (entries : List KeptComponent) → length (flat_map zone_kept entries) ≤ length entries
entries_short [] = omega arith
entries_short (e ∷ es) = omega (arith, entry_short e, entries_short es, length-append (zone_kept e) (flat_map zone_kept es))

-- ---- the name of an entry's zone

in_second : {X : Type 0} (xs ys : List X) (z : X) → Contains ys z → Contains (xs ++ ys) z
in_second [] ys z c = c
in_second (x ∷ xs) ys z c = let r = in_second xs ys z c in (suc r.0, omega (arith, r.1), r.2)
