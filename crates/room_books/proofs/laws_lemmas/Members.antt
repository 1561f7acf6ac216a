-- Lists without repeats that have the same elements are in another order.
-- Behind kept_texts_pass, kept_texts_spell, served_texts_pass.
use Rattle.std.proofs.Common.{◌≡◌, ◌≢◌, List, [], ◌∷◌, ◌++◌, inl, inr, sym, ap, subst}
use Rattle.std.specs.List.{Contains}
use Rattle.itip_order.proofs.Lists.{in_cons, in_head, in_tail, none_in_nil}
use Rattle.room_books.specs.Slots.{Reordered}
use Rattle.room_books.specs.Slots.Reordered.{re_none, re_more, re_then}
use Rattle.room_books.specs.Room.{Pairwise}
use Rattle.room_books.proofs.shared_lemmas.Reordering.{re_middle, re_into, re_pairs, re_in}

module _ {X : Type 0} where
  -- what comes before an element and after it
  record IsAround (x : X) (xs : List X) : Type 0 where
    before : List X
    after : List X
    are : xs ≡ before ++ x ∷ after

  around : (x : X) (xs : List X) → Contains xs x → IsAround x xs
  around x [] c = absurd (none_in_nil x c)
  around x (y ∷ xs) c = elim (in_cons y xs x c) [
    | inl here ↦ record { before = []; after = xs; are = ap (λ z. z ∷ xs) here }
    | inr there ↦ let rest = around x xs there in record { before = y ∷ rest.before; after = rest.after; are = ap (λ l. y ∷ l) rest.are }
  ]

  pub same_members : (xs ys : List X) → Pairwise ◌≢◌ xs → Pairwise ◌≢◌ ys → ((x : X) → Contains xs x → Contains ys x) → ((x : X) → Contains ys x → Contains xs x) → Reordered xs ys
  same_members [] [] p q to from = re_none
  same_members [] (y ∷ ys) p q to from = absurd (none_in_nil y (from y (in_head y ys)))
  same_members (x ∷ xs) ys p q to from =
      let parts = around x ys (to x (in_head x xs)) in
      let others = parts.before ++ parts.after in
      let whole : Reordered ys (x ∷ others) = subst (λ (l : List X). Reordered l (x ∷ others)) (sym parts.are) (re_middle parts.before x parts.after) in
      let back : Reordered (x ∷ others) ys = subst (Reordered (x ∷ others)) (sym parts.are) (re_into parts.before x parts.after) in
      let apart = re_pairs ◌≢◌ (λ a b d e. d (sym e)) ys (x ∷ others) whole q in
      re_then (x ∷ xs) (x ∷ others) ys
      (re_more x xs others
      (same_members xs others p.1 apart.1
      (λ y c. elim (in_cons x others y (re_in ys (x ∷ others) whole y (to y (in_tail x xs y c)))) [ inl here ↦ absurd (p.0 y c here) | inr there ↦ there ])
      (λ y c. elim (in_cons x xs y (from y (re_in (x ∷ others) ys back y (in_tail x others y c)))) [ inl here ↦ absurd (apart.0 y c here) | inr there ↦ there ])))
      back
