-- Zones that come up one after another are each once, in order of first use; and each keeps its place.
-- Behind write_instance of event_lines, write_attendees of meeting_text, write_component of meeting_text, write_components of meeting_text, write_meeting of meeting_text.
use Rattle.std.proofs.Common.{◌≡◌, ◌∙◌, ℕ, zero, suc, Bool, true, false, not, ◌&&◌, ◌||◌, cond, List, [], ◌∷◌, ◌++◌, filter, refl, sym, ap, subst, append_assoc, append-nil, Option, None, Some}
use Rattle.std.specs.Prelude.{slice_get}
use Rattle.std.specs.List.{list_any}
use Rattle.std.specs.Str.{bytes_eq}
use Rattle.std.proofs.lemmas.Slice.Eq.{bytes_eq-Decides}
use Rattle.profile.specs.rooms.Kept.{each_once, IsNamed}
use Rattle.itip_messages.specs.Zones.{is_new, with_zone, with_zones}

abbrev Texts : Type 0
Texts = List (List ℕ)

-- ---- filters

both : {X : Type 0} (p q : X → Bool) (xs : List X) → filter p (filter q xs) ≡ filter (λ y. q y && p y) xs
both p q [] = refl
both {X} p q (x ∷ xs) = by (q x) (both p q xs)
  where
    by : (b : Bool) → filter p (filter q xs) ≡ filter (λ y. q y && p y) xs
        → filter p (cond b (x ∷ filter q xs) (filter q xs)) ≡ cond (b && p x) (x ∷ filter (λ y. q y && p y) xs) (filter (λ y. q y && p y) xs)
    by true h = ap (λ l. cond (p x) (x ∷ l) l) h
    by false h = h

same_filter : {X : Type 0} (p q : X → Bool) → ((y : X) → p y ≡ q y) → (xs : List X) → filter p xs ≡ filter q xs
same_filter p q h [] = refl
same_filter p q h (x ∷ xs) = (λ i. cond (h x i) (x ∷ same_filter p q h xs i) (same_filter p q h xs i))

-- ---- one more zone

other_than : List ℕ → List ℕ → Bool
other_than zone other = not (bytes_eq zone other)

-- what is new beside the zones isn't the one that is among them
known : (zones : Texts) (zone : List ℕ) → is_new zones zone ≡ false → (y : List ℕ) → (not (bytes_eq zone y) && is_new zones y) ≡ is_new zones y
known zones zone h y = by (bytes_eq zone y) refl
  where
    by : (b : Bool) → bytes_eq zone y ≡ b → (not b && is_new zones y) ≡ is_new zones y
    by false e = refl
    by true e = sym (subst (λ z. is_new zones z ≡ false) ((bytes_eq-Decides zone y).0 e) h)

joined : (zones : Texts) (zone y : List ℕ) → is_new (zones ++ zone ∷ []) y ≡ (not (bytes_eq zone y) && is_new zones y)
joined [] zone y = by (bytes_eq zone y)
  where
    by : (b : Bool) → not (b || false) ≡ (not b && true)
    by true = refl
    by false = refl
joined (x ∷ xs) zone y = by (bytes_eq x y) (bytes_eq zone y) (joined xs zone y)
  where
    by : (a b : Bool) → not (list_any (λ other. bytes_eq other y) (xs ++ zone ∷ [])) ≡ (not b && not (list_any (λ other. bytes_eq other y) xs))
        → not (a || list_any (λ other. bytes_eq other y) (xs ++ zone ∷ [])) ≡ (not b && not (a || list_any (λ other. bytes_eq other y) xs))
    by true true h = refl
    by true false h = refl
    by false b h = h

-- ---- all of them

pub with_zones_are : (zones uses : Texts) → with_zones zones uses ≡ zones ++ filter (is_new zones) (each_once uses)
with_zones_are zones [] = sym (append-nil zones)
with_zones_are zones (zone ∷ more) = by (λ old. with_zones_are old more) (is_new zones zone) refl
  where
    rest : Texts
    rest = each_once more

    by : ((old : Texts) → with_zones old more ≡ old ++ filter (is_new old) rest) → (b : Bool) → is_new zones zone ≡ b → with_zones (cond b (zones ++ zone ∷ []) zones) more ≡ zones ++ cond b (zone ∷ filter (is_new zones) (filter (λ other. not (bytes_eq zone other)) rest)) (filter (is_new zones) (filter (λ other. not (bytes_eq zone other)) rest))
    by then true e =
        then (zones ++ zone ∷ []) ∙ append_assoc zones (zone ∷ []) (filter (is_new (zones ++ zone ∷ [])) rest)
        ∙ ap (λ l. zones ++ zone ∷ l) (same_filter (is_new (zones ++ zone ∷ [])) (λ y. not (bytes_eq zone y) && is_new zones y) (joined zones zone) rest ∙ sym (both (is_new zones) (λ other. not (bytes_eq zone other)) rest))
    by then false e =
        then zones
        ∙ ap (λ l. zones ++ l) (sym (both (is_new zones) (λ other. not (bytes_eq zone other)) rest ∙ same_filter (λ y. not (bytes_eq zone y) && is_new zones y) (is_new zones) (known zones zone e) rest))

-- those of one list and then those of another
pub with_more : (zones uses more : Texts) → with_zones zones (uses ++ more) ≡ with_zones (with_zones zones uses) more
with_more zones [] more = refl
with_more zones (zone ∷ uses) more = with_more (with_zone zones zone) uses more

all_new : (xs : Texts) → filter (is_new []) xs ≡ xs
all_new [] = refl
all_new (x ∷ xs) = ap (λ l. x ∷ l) (all_new xs)

-- from none on they are each once
pub zones_once : (uses : Texts) → with_zones [] uses ≡ each_once uses
zones_once uses = with_zones_are [] uses ∙ all_new (each_once uses)

-- ---- a name stays

got_before : (xs ys : Texts) (place : ℕ) (zone : List ℕ) → slice_get xs place ≡ Some zone → slice_get (xs ++ ys) place ≡ Some zone
got_before [] ys place zone e = cc
got_before (x ∷ xs) ys zero zone e = e
got_before (x ∷ xs) ys (suc k) zone e = got_before xs ys k zone e

pub named_still : (zones more : Texts) (zone : Option (List ℕ)) (name : List ℕ) → IsNamed zones zone name → IsNamed (zones ++ more) zone name
named_still zones more None name h = tt
named_still zones more (Some zone) name (place, at, is) = (place, got_before zones more place zone at, is)
