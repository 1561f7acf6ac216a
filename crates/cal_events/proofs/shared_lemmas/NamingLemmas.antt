-- How the VEVENTs of a calendar name a room, with one more.
-- Cited by Draft::add of draft.
use Rattle.std.proofs.Common.{◌≡◌, ◌∙◌, ℕ, suc, ◌+◌, ◌-◌, ◌^◌, ◌<◌, ◌≤◌, Bool, true, false, cond, List, [], ◌∷◌, ◌++◌, filter, length, map, sym, refl, ap, arith}
use Rattle.std.specs.Prelude.{min, not, ◌||◌}
use Rattle.std.specs.List.{list_any}
use Rattle.std.proofs.lemmas.List.{length-append, length-map}
use Rattle.std.proofs.lemmas.List.Elements.{filter-append}
use Rattle.std.proofs.lemmas.List.Folds.{list_any-append}
use Rattle.profile.specs.checker.Naming.{names, is_empty, is_not_accepted, not_accepted}
use Rattle.profile.specs.events.EventComponents.{EventComponent}
use Rattle.cal_events.specs.Entries.{Name}
use Rattle.cal_events.specs.Names.{name_said}
use Rattle.cal_events.specs.Naming.{IsNaming}
use Rattle.cal_events.specs.declared.naming.Naming.{Naming}

fewer : {X : Type 0} (p : X → Bool) (xs : List X) → length (filter p xs) ≤ length xs
fewer p [] = omega arith
fewer p (x ∷ xs) = one (p x) (fewer p xs)
  where
    one : (b : Bool) → length (filter p xs) ≤ length xs → length (cond b (x ∷ filter p xs) (filter p xs)) ≤ suc (length xs)
    one true h = omega (arith, h)
    one false h = omega (arith, h)

some : (events : List EventComponent) (event : EventComponent) → true ≡ not (is_empty (events ++ event ∷ []))
some [] event = refl
some (x ∷ xs) event = refl

or_false : (a b : Bool) → (a || b) ≡ (a || (b || false))
or_false true b = refl
or_false false true = refl
or_false false false = refl

counts : {X : Type 0} (b : Bool) (x : X) → length (cond b (x ∷ []) []) ≡ cond b 1 0
counts true x = refl
counts false x = refl

at_most : (b : Bool) → cond b 1 0 ≤ 1
at_most true = omega arith
at_most false = omega arith

within : (n : ℕ) → n < 2 ^ 64 → min n (2 ^ 64 - 1) ≡ n
within n h = omega (arith, h)

module _ (room : List ℕ) (events : List EventComponent) (event : EventComponent) (old new : Naming) (is : IsNaming room events old) where
  -- the count with one more
  abbrev more : ℕ
  more = old.not_accepted + cond (is_not_accepted room event) 1 0

  as_many : not_accepted room (events ++ event ∷ []) ≡ more
  as_many =
      let p = is_not_accepted room in
      ap length (filter-append p events (event ∷ [])) ∙ length-append (filter p events) (cond (p event) (event ∷ []) [])
      ∙ ap (λ n. length (filter p events) + n) (counts (p event) event) ∙ ap (λ n. n + cond (p event) 1 0) (sym is.counted)

  few_more : suc (length events) < 2 ^ 64 → more < 2 ^ 64
  few_more h =
      let l = fewer (is_not_accepted room) events in
      let m = at_most (is_not_accepted room event) in
      let e = is.counted in
      omega (arith, h, l, m, e)

  pub naming_more : new.any ≡ true → new.named ≡ (old.named || names room event) → new.not_accepted ≡ min (old.not_accepted + cond (is_not_accepted room event) 1 0) (2 ^ 64 - 1)
      → suc (length events) < 2 ^ 64 → IsNaming room (events ++ event ∷ []) new
  naming_more any named counted h = record {
    any = any ∙ some events event;
    named = named ∙ ap (λ b. b || names room event) is.named ∙ or_false (list_any (names room) events) (names room event) ∙ sym (list_any-append (names room) events (event ∷ []));
    counted = counted ∙ within more (few_more h) ∙ sym as_many;
  }

-- of as many entries there are fewer than 64 bits count
pub few : (events : List EventComponent) (event : EventComponent) (old new : List Name) → old ≡ map name_said events → new ≡ old ++ name_said event ∷ [] → length new < 2 ^ 64
    → suc (length events) < 2 ^ 64
few events event old new said grown l =
    let a : length old ≡ length events = ap length said ∙ length-map events name_said in
    let b : length new ≡ length old + 1 = ap length grown ∙ length-append old (name_said event ∷ []) in
    omega (arith, a, b, l)
