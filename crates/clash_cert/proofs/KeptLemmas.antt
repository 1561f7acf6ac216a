-- An entry that is kept is the one that is made.
use Rattle.std.proofs.Common.{◌≡◌, ℕ, zero, suc, ◌-◌, ◌<◌, ◌≤◌, ◌==◌, Bool, false, List, [], subst, sym, refl, ap, ◌∙◌, ◌∷◌, inl, inr, arith, lit<}
use Rattle.std.specs.Prelude.{⊤, Option, Some, None, Result, Ok, Err, IfOk, Contains, unwrap_or, slice_index_or}
use Rattle.std.specs.List.{slice_get}
use Rattle.std.proofs.lemmas.Option.{slice_get_within, same_Some, none-some}
use Rattle.std.proofs.lemmas.Bool.Decides.{nat_tests}
use Rattle.std.proofs.lemmas.List.Elements.{All-contains}
use Rattle.profile.specs.events.Events.{Event}
use Rattle.profile.specs.events.Confirmed.{Confirmed}
use Rattle.profile.specs.checker.Certificates.{Claims, Entry, Pair, Group, groups_of, IsApart, IsEntry, IsClaims, IsPair, IsEntryMade, IsSeriesAt, IsCertificateMade}
use Rattle.clash_cert.specs.Texts.{IsEntryAmong, theirs, none}
use Rattle.clash_cert.specs.Chosen.{AreKeptFrom, IsSaidOf, IsEntryAt}
use Rattle.clash_cert.proofs.ChosenLemmas.{pairs_start, certificate_kept}
use Rattle.clash_cert.proofs.TurnLemmas.{entry_turned}

-- ---- of two series of one calendar

other_way : (i j : ℕ) → j < i → ((j == i) ≡ false) × ((i == j) ≡ false)
other_way i j less = (grind (arith, nat_tests), grind (arith, nat_tests))

-- of a certificate of version 1 each pair has an entry
pub entry_there : (c : Claims) (was : Confirmed) → IsCertificateMade was c → (i j : ℕ) → IsPair c.series i j → (p : Pair) × Contains c.pairs p × (p.first ≡ i) × (p.second ≡ j)
entry_there c was made i j pair = elim (made.claims.all i j pair) [
  | inl (group, there, first, second) ↦ absurd (none_in group (subst (λ groups. Contains (unwrap_or groups []) group) made.version there))
  | inr there ↦ there
]
  where
    none_in : (group : Group) → Contains [] group → ⊥
    none_in group (k, l, e) = omega (arith, l)

module _ (c : Claims) (was : Confirmed) (made : IsCertificateMade was c) where
  entry_made : (i j : ℕ) (a b : Event) (entry : Entry) → IsPair c.series i j → IsSeriesAt was i a → IsSeriesAt was j b → IsEntryAmong c.pairs i j entry → IsEntryMade (i == j) a b entry
  entry_made i j a b e pair at_a at_b (theirs entry there) = made.entries (record { first = i; second = j; entry = entry }) there a b at_a at_b
  entry_made i j a b e pair at_a at_b (none out) = let (p, there, first, second) = entry_there c was made i j pair in absurd (out p there first second)

  in_order : (i j : ℕ) (a b : Event) (entry : Entry) → 0 < i → i ≤ j → IsSeriesAt was i a → IsSeriesAt was j b → IsEntryAmong c.pairs i j entry → IsEntryMade (i == j) a b entry
  in_order i j a b entry first order at_a at_b among =
      let within = slice_get_within was.series (j - 1) b at_b in
      let count = made.counts.series in
      entry_made i j a b entry (first, order, omega (arith, within, count, first, order)) at_a at_b among

  out_of_order : (i j : ℕ) (a b : Event) (entry : Entry) → 0 < j → j < i → IsSeriesAt was i a → IsSeriesAt was j b → IsEntryAmong c.pairs j i entry → IsEntryMade (i == j) a b entry
  out_of_order i j a b entry second less at_a at_b among =
      let other = other_way i j less in
      let there = in_order j i b a entry second (omega (arith, less)) at_b at_a among in
      let turned = entry_turned b a entry (subst (λ (own : Bool). IsEntryMade own b a entry) other.0 there) in
      subst (λ (own : Bool). IsEntryMade own a b entry) (sym other.1) turned

-- what is found among the pairs of a certificate, the lesser number first
pub said_in_order : (c : Claims) (i j : ℕ) (entry : Entry) → i ≤ j → IsEntryAmong c.pairs i j entry → IsSaidOf c i j entry
said_in_order c i j entry order among was a b made first second at_a at_b = in_order c was made i j a b entry first order at_a at_b among

pub said_out_of_order : (c : Claims) (i j : ℕ) (entry : Entry) → j < i → IsEntryAmong c.pairs j i entry → IsSaidOf c i j entry
said_out_of_order c i j entry less among was a b made first second at_a at_b = out_of_order c was made i j a b entry second less at_a at_b among

pub good_among : (c : Claims) (i j : ℕ) (entry : Entry) → IsClaims c → IsEntryAmong c.pairs i j entry → IsEntry entry
good_among c i j e is (theirs entry there) = (All-contains (IsApart c.series (groups_of c)) c.pairs (record { first = i; second = j; entry = entry }) is.pairs there).entry
good_among c i j e is (none out) = tt

-- ---- of two series that are kept

-- the number at a place
pub number_there : (kept : List (Option ℕ)) (i n : ℕ) → slice_index_or kept i None ≡ Some n → slice_get kept i ≡ Some (Some n)
number_there [] i n e = absurd (none-some n e)
number_there (x ∷ kept) zero n e = ap Some e
number_there (x ∷ kept) (suc i) n e = number_there kept i n e

same_test : (i j n m : ℕ) → (i ≡ j → n ≡ m) → (n ≡ m → i ≡ j) → (n == m) ≡ (i == j)
same_test i j n m there back = grind (arith, nat_tests)

pub kept_entry : (c : Claims) (kept : List (Option ℕ)) (all : List Event) (i j n m : ℕ) (entry : Entry) → slice_get kept i ≡ Some (Some n) → slice_get kept j ≡ Some (Some m) → IsSaidOf c n m entry
    → IsEntryAt (AreKeptFrom c kept all) all i j entry
kept_entry c kept all i j n m entry of_i of_j said known a b at_a at_b =
    let there : i ≡ j → n ≡ m = λ e. same_Some n m (same_Some (Some n) (Some m) (sym of_i ∙ ap (slice_get kept) e ∙ of_j)) in
    let back : n ≡ m → i ≡ j = λ e. known.once i j m (of_i ∙ ap (λ (k : ℕ). Some (Some k)) e) of_j in
    let made = said known.was a b known.made (known.counted i n of_i) (known.counted j m of_j) (known.same i n a of_i at_a) (known.same j m b of_j at_b) in
    subst (λ (own : Bool). IsEntryMade own a b entry) (same_test i j n m there back) made

-- ---- what holds of a value

pub if_ok_then : {T E : Type 0} (r : Result T E) (P Q : T → Type 0) → ((x : T) → P x → Q x) → IfOk r P → IfOk r Q
if_ok_then (Ok x) P Q f p = f x p
if_ok_then (Err e) P Q f p = tt

-- ---- from nothing

pub nothing_kept : (all : List Event) → AreKeptFrom (record { singles = 0; series = 0; groups = None; pairs = [] }) [] all
nothing_kept all = record {
  was = record { singles = []; series = [] };
  made = certificate_kept ⊤ [] 0 0 [] (lit< tt) (lit< tt) refl (pairs_start ⊤ []) tt (record { singles = []; series = [] }) refl refl;
  counted = λ i n e. absurd (none-some (Some n) e);
  same = λ i n a e. absurd (none-some (Some n) e);
  once = λ i j n e. absurd (none-some (Some n) e);
}
