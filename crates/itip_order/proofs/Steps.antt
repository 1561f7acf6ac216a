-- The same, of this crate's own parts: a register that is written over, a new one, a copied list.
use Rattle.std.proofs.Common.{◌≡◌, ℕ, Bool, true, false, cond, List, [], ◌∷◌, ◌++◌, get_or, set, take, drop, refl, sym, ap, ◌∙◌, subst}
use Rattle.std.specs.declared.cmp.Ordering.TheVariants.{Equal, Greater}
use Rattle.std.specs.List.{Contains, insert, AllZip}
use Rattle.std.proofs.lemmas.List.{map-append, map-set, take-map, drop-map}
use Rattle.std.proofs.Math.ListN.{get_or-map}
use Rattle.std.proofs.lemmas.List.Elements.{Contains-get_or}
use Rattle.profile.specs.rooms.Revisions as revisions
use Rattle.itip_order.specs.declared.part.Part.{Part}
use Rattle.itip_order.specs.Parts.{part_of, parts_of}
use Rattle.itip_order.specs.Registers.{is_ascending, IsAt, IsGap}
use Rattle.std.proofs.lemmas.Cmp.{tied_back}
use Rattle.itip_order.proofs.Order.{place_total, part_same}
use Rattle.itip_order.proofs.Registers.{Puts}
use Rattle.itip_order.proofs.Taking.{puts_insert, puts_set}

-- the register at a place, as the profile's part
pub register_is : (items : List Part) (r : Part) (at : ℕ) → r ≡ get_or items at r → part_of r ≡ get_or (parts_of items) at (part_of r)
register_is items r at is = ap part_of is ∙ sym (get_or-map part_of items at r)

pub register_in : (items : List Part) (r : Part) (p : revisions.Part) (at : ℕ) → IsAt (parts_of items) p at → r ≡ get_or items at r → Contains (parts_of items) (part_of r) × (revisions.place_cmp (part_of r) p ≡ Equal)
register_in items r p at found is =
    let e = register_is items r at is in (
      subst (λ (z : revisions.Part). Contains (parts_of items) z) (sym e) (Contains-get_or (parts_of items) at (part_of r) found.in_range),
      subst (λ (z : revisions.Part). revisions.place_cmp z p ≡ Equal) (sym e) (found.same (part_of r)),
    )

pub put_at : (items : List Part) (part r : Part) (at : ℕ) → is_ascending (parts_of items) ≡ true → IsAt (parts_of items) (part_of part) at → r ≡ get_or items at r → revisions.part_cmp (part_of part) (part_of r) ≡ Greater → Puts (parts_of items) (parts_of (set items at part)) (part_of part)
put_at items part r at a found is greater =
    subst (λ (xs : List revisions.Part). Puts (parts_of items) xs (part_of part)) (sym (map-set part_of items at part)) (puts_set (parts_of items) (part_of part) (part_of r) at a found (register_is items r at is) greater)

pub parts-insert : (items : List Part) (part : Part) (at : ℕ) → parts_of (insert items at part) ≡ insert (parts_of items) at (part_of part)
parts-insert items part at =
    map-append part_of (take at items) (part ∷ drop at items) ∙ ap (λ (xs : List revisions.Part). xs ++ part_of part ∷ parts_of (drop at items)) (sym (take-map part_of at items)) ∙ ap (λ (xs : List revisions.Part). take at (parts_of items) ++ part_of part ∷ xs) (sym (drop-map part_of at items))

pub put_gap : (items : List Part) (part : Part) (at : ℕ) → is_ascending (parts_of items) ≡ true → IsGap (parts_of items) (part_of part) at → Puts (parts_of items) (parts_of (insert items at part)) (part_of part)
put_gap items part at a gap =
    subst (λ (xs : List revisions.Part). Puts (parts_of items) xs (part_of part)) (sym (parts-insert items part at)) (puts_insert (parts_of items) (part_of part) at a gap)

-- the registers ascend whether there was memory for a new one or not
pub ascending_either : (b : Bool) (items news : List Part) (part : Part) (at : ℕ) → is_ascending (parts_of items) ≡ true → IsGap (parts_of items) (part_of part) at → news ≡ cond b (insert items at part) items → is_ascending (parts_of news) ≡ true
ascending_either true items news part at a gap e = subst (λ (xs : List Part). is_ascending (parts_of xs) ≡ true) (sym e) (put_gap items part at a gap).ascending
ascending_either false items news part at a gap e = subst (λ (xs : List Part). is_ascending (parts_of xs) ≡ true) (sym e) a

-- a register of the part's place that ties with it is the part
pub register_same : (items : List Part) (r : Part) (p : revisions.Part) (at : ℕ) → IsAt (parts_of items) p at → r ≡ get_or items at r → revisions.part_cmp p (part_of r) ≡ Equal → Contains (parts_of items) p
register_same items r p at found is tie =
    let in_R = register_in items r p at found is in
    subst (λ (z : revisions.Part). Contains (parts_of items) z) (sym (part_same p (part_of r) (tied_back place_total (part_of r) p in_R.1) tie)) in_R.0

-- clones are the same parts
pub parts_of_clones : (xs ys : List Part) → AllZip (λ x y. part_of y ≡ part_of x) xs ys → parts_of ys ≡ parts_of xs
parts_of_clones [] [] z = refl
parts_of_clones [] (y ∷ ys) z = absurd z
parts_of_clones (x ∷ xs) [] z = absurd z
parts_of_clones (x ∷ xs) (y ∷ ys) z = λ i. z.0 i ∷ parts_of_clones xs ys z.1 i
