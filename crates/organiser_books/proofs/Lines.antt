-- ATTENDEE lines, one after another: addresses each once, and of several lines of one address in a component the first.
use Rattle.std.proofs.Common.{◌≡◌, ◌∙◌, ℕ, Bool, true, false, not, ◌&&◌, ◌||◌, cond, List, [], ◌∷◌, ◌++◌, refl, sym, ap, subst}
use Rattle.std.specs.List.{filter, flat_map, list_any}
use Rattle.std.specs.Str.{bytes_eq}
use Rattle.std.proofs.lemmas.Bool.{or_parts, or_from}
use Rattle.std.proofs.lemmas.List.Elements.{filter-append}
use Rattle.std.proofs.lemmas.List.Folds.{list_any-append}
use Rattle.std.proofs.lemmas.Slice.Eq.{bytes_eq-Decides}
use Rattle.profile.specs.events.EventComponents.{Attendee}
use Rattle.profile.specs.events.Messages.{counted}
use Rattle.profile.specs.rooms.Kept.{each_once}
use Rattle.organiser_books.specs.Attending.{addresses_in, names, schedules_line}
use Rattle.organiser_books.proofs.Loops.{any_flat, any_map, any_push}

-- ---- addresses

pub same_itself : (a : List ℕ) → bytes_eq a a ≡ true
same_itself a = (bytes_eq-Decides a a).1 refl

pub same_is : (a b : List ℕ) → bytes_eq a b ≡ true → a ≡ b
same_is a b e = (bytes_eq-Decides a b).0 e

pub same_back : (a b : List ℕ) → bytes_eq a b ≡ bytes_eq b a
same_back a b = by (bytes_eq a b) (bytes_eq b a) refl refl
  where
    by : (s t : Bool) → bytes_eq a b ≡ s → bytes_eq b a ≡ t → s ≡ t
    by true true e f = refl
    by true false e f = sym (subst (λ x. bytes_eq x a ≡ true) (same_is a b e) (same_itself a)) ∙ f
    by false true e f = sym e ∙ subst (λ x. bytes_eq x b ≡ true) (same_is b a f) (same_itself b)
    by false false e f = refl

-- one more comes last, where it isn't there
pub once_push : (xs : List (List ℕ)) (x : List ℕ) → each_once (xs ++ x ∷ []) ≡ each_once xs ++ cond (list_any (λ y. bytes_eq y x) xs) [] (x ∷ [])
once_push [] x = refl
once_push (y ∷ ys) x =
    ap (λ l. y ∷ filter (λ o. not (bytes_eq y o)) l) (once_push ys x)
    ∙ ap (λ l. y ∷ l) (filter-append (λ o. not (bytes_eq y o)) (each_once ys) (cond (list_any (λ z. bytes_eq z x) ys) [] (x ∷ [])))
    ∙ ap (λ l. y ∷ (filter (λ o. not (bytes_eq y o)) (each_once ys) ++ l)) (by (bytes_eq y x) (list_any (λ z. bytes_eq z x) ys) refl)
  where
    at_last : (b : Bool) → bytes_eq y x ≡ b → cond (not (bytes_eq y x)) (x ∷ []) [] ≡ cond (b || false) [] (x ∷ [])
    at_last true e = ap (λ c. cond (not c) (x ∷ []) []) e
    at_last false e = ap (λ c. cond (not c) (x ∷ []) []) e

    by : (b a : Bool) → bytes_eq y x ≡ b → filter (λ o. not (bytes_eq y o)) (cond a [] (x ∷ [])) ≡ cond (b || a) [] (x ∷ [])
    by true true e = refl
    by false true e = refl
    by true false e = at_last true e
    by false false e = at_last false e

-- the lines name an address where it is among theirs
pub among_lines : (q : List ℕ) (done : List (List Attendee)) (own : List Attendee)
    → list_any (λ y. bytes_eq y q) (flat_map addresses_in done ++ addresses_in own) ≡ (list_any (names q) done || names q own)
among_lines q done own =
    list_any-append (λ y. bytes_eq y q) (flat_map addresses_in done) (addresses_in own)
    ∙ ap (λ b. b || list_any (λ y. bytes_eq y q) (addresses_in own)) (any_flat (λ y. bytes_eq y q) addresses_in done ∙ same_any done)
    ∙ ap (λ b. list_any (names q) done || b) (any_map (λ y. bytes_eq y q) (λ (a : Attendee). a.address) own)
  where
    same_any : (lists : List (List Attendee)) → list_any (λ l. list_any (λ y. bytes_eq y q) (addresses_in l)) lists ≡ list_any (names q) lists
    same_any [] = refl
    same_any (l ∷ lists) = λ i. any_map (λ y. bytes_eq y q) (λ (a : Attendee). a.address) l i || same_any lists i

-- ---- the first line of an address

-- what the first of these lines says, that has the address
abbrev first_says : List ℕ → List Attendee → Bool
first_says q [] = false
first_says q (x ∷ xs) = cond (bytes_eq x.address q) x.scheduled (first_says q xs)

abbrev says : List ℕ → Attendee → Bool
says q a = bytes_eq a.address q && a.scheduled

-- where lines of another address are left out
others_say : (q : List ℕ) (x : Attendee) → bytes_eq x.address q ≡ false → (ys : List Attendee) → list_any (says q) (filter (λ o. not (bytes_eq x.address o.address)) ys) ≡ list_any (says q) ys
others_say q x n [] = refl
others_say q x n (y ∷ ys) = by (bytes_eq x.address y.address) refl (others_say q x n ys)
  where
    by : (b : Bool) → bytes_eq x.address y.address ≡ b → list_any (says q) (filter (λ o. not (bytes_eq x.address o.address)) ys) ≡ list_any (says q) ys
        → list_any (says q) (cond (not b) (y ∷ filter (λ o. not (bytes_eq x.address o.address)) ys) (filter (λ o. not (bytes_eq x.address o.address)) ys)) ≡ (says q y || list_any (says q) ys)
    by true e h = h ∙ ap (λ c. (c && y.scheduled) || list_any (says q) ys) (sym (subst (λ z. bytes_eq z q ≡ false) (same_is x.address y.address e) n))
    by false e h = ap (λ b. says q y || b) h

-- where those of the address are
none_say : (q : List ℕ) (x : Attendee) → bytes_eq x.address q ≡ true → (ys : List Attendee) → list_any (says q) (filter (λ o. not (bytes_eq x.address o.address)) ys) ≡ false
none_say q x e [] = refl
none_say q x e (y ∷ ys) = by (bytes_eq x.address y.address) refl (none_say q x e ys)
  where
    by : (b : Bool) → bytes_eq x.address y.address ≡ b → list_any (says q) (filter (λ o. not (bytes_eq x.address o.address)) ys) ≡ false
        → list_any (says q) (cond (not b) (y ∷ filter (λ o. not (bytes_eq x.address o.address)) ys) (filter (λ o. not (bytes_eq x.address o.address)) ys)) ≡ false
    by true f h = h
    by false f h = or_from _ _ (ap (λ c. c && y.scheduled) (same_back y.address q ∙ subst (λ z. bytes_eq z y.address ≡ false) (same_is x.address q e) f)) h

first_is : (q : List ℕ) (lines : List Attendee) → schedules_line q lines ≡ first_says q lines
first_is q [] = refl
first_is q (x ∷ xs) = by (bytes_eq x.address q) refl (first_is q xs)
  where
    or_false : (b : Bool) → (b || false) ≡ b
    or_false true = refl
    or_false false = refl

    by : (b : Bool) → bytes_eq x.address q ≡ b → list_any (says q) (counted xs) ≡ first_says q xs → ((b && x.scheduled) || list_any (says q) (filter (λ o. not (bytes_eq x.address o.address)) (counted xs))) ≡ cond b x.scheduled (first_says q xs)
    by true e h = ap (λ b. x.scheduled || b) (none_say q x e (counted xs)) ∙ or_false x.scheduled
    by false e h = others_say q x e (counted xs) ∙ h

-- ---- one more line

pub names_push : (q : List ℕ) (own : List Attendee) (a : Attendee) → names q (own ++ a ∷ []) ≡ (names q own || bytes_eq a.address q)
names_push q own a = any_push (λ x. bytes_eq x.address q) own a

pub unnamed : (q : List ℕ) (own : List Attendee) → names q own ≡ false → schedules_line q own ≡ false
unnamed q own n = first_is q own ∙ at_lines own n
  where
    at_lines : (xs : List Attendee) → names q xs ≡ false → first_says q xs ≡ false
    at_lines [] n = refl
    at_lines (x ∷ xs) n = let both = or_parts _ _ n in ap (λ b. cond b x.scheduled (first_says q xs)) both.0 ∙ at_lines xs both.1

pub all_unnamed : (q : List ℕ) (lists : List (List Attendee)) → list_any (names q) lists ≡ false → list_any (schedules_line q) lists ≡ false
all_unnamed q [] n = refl
all_unnamed q (l ∷ lists) n = let both = or_parts _ _ n in or_from _ _ (unnamed q l both.0) (all_unnamed q lists both.1)

-- of another address
pub schedules_other : (q : List ℕ) (own : List Attendee) (a : Attendee) → bytes_eq a.address q ≡ false → schedules_line q (own ++ a ∷ []) ≡ schedules_line q own
schedules_other q own a n = first_is q (own ++ a ∷ []) ∙ at_lines own ∙ sym (first_is q own)
  where
    at_lines : (xs : List Attendee) → first_says q (xs ++ a ∷ []) ≡ first_says q xs
    at_lines [] = ap (λ b. cond b a.scheduled false) n
    at_lines (x ∷ xs) = ap (λ b. cond (bytes_eq x.address q) x.scheduled b) (at_lines xs)

-- of this one
pub schedules_own : (q : List ℕ) (own : List Attendee) (a : Attendee) → bytes_eq a.address q ≡ true → schedules_line q (own ++ a ∷ []) ≡ cond (names q own) (schedules_line q own) a.scheduled
schedules_own q own a e = first_is q (own ++ a ∷ []) ∙ at_lines own ∙ ap (λ b. cond (names q own) b a.scheduled) (sym (first_is q own))
  where
    by : (b n r : Bool) (s t : Bool) → r ≡ cond n t a.scheduled → cond b s r ≡ cond (b || n) (cond b s t) a.scheduled
    by true n r s t h = refl
    by false n r s t h = h

    at_lines : (xs : List Attendee) → first_says q (xs ++ a ∷ []) ≡ cond (names q xs) (first_says q xs) a.scheduled
    at_lines [] = ap (λ b. cond b a.scheduled false) e
    at_lines (x ∷ xs) = by (bytes_eq x.address q) (names q xs) (first_says q (xs ++ a ∷ [])) x.scheduled (first_says q xs) (at_lines xs)
