-- What a function gives of a list's elements.
-- Behind reply_of, reply_to, write_answer, write_answers.
use Rattle.std.proofs.Common.{List, [], ◌∷◌, map, inl, inr, subst}
use Rattle.std.specs.List.{Contains}
use Rattle.itip_order.proofs.Lists.{in_cons, in_head, in_tail, none_in_nil}

pub in_mapped : {X Y : Type 0} (f : X → Y) (xs : List X) (x : X) → Contains xs x → Contains (map f xs) (f x)
in_mapped f [] x c = absurd (none_in_nil x c)
in_mapped f (w ∷ xs) x c = elim (in_cons w xs x c) [
  | inl here ↦ subst (λ v. Contains (f w ∷ map f xs) (f v)) here (in_head (f w) (map f xs))
  | inr there ↦ in_tail (f w) (map f xs) (f x) (in_mapped f xs x there)
]
