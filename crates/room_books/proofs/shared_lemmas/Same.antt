-- Lists with the same elements, and as many.
-- Behind busy_beside of decide, busy_beside_series of decide, decide of decide, own_overlap of decide, is_among of gone, sort of gone and 30 more.
use Rattle.std.proofs.Common.{◌≡◌, List, ◌++◌, inl, inr, refl, ◌∙◌, length, arith, length-append}
use Rattle.std.specs.List.{Contains}
use Rattle.std.proofs.lemmas.List.Elements.{Contains-append_left, Contains-append_right, Contains-append_cases}
use Rattle.profile.specs.checker.Instances.{Instance, IsClear}

-- the same elements, and as many
pub record AreSame {X : Type 0} (xs ys : List X) : Type 0 where
  pub to : (x : X) → Contains xs x → Contains ys x
  pub from : (x : X) → Contains ys x → Contains xs x
  pub long : length xs ≡ length ys

module _ {X : Type 0} where
  pub same_itself : (xs : List X) → AreSame xs xs
  same_itself xs = record { to = λ x c. c; from = λ x c. c; long = refl }

  pub same_then : (xs ys zs : List X) → AreSame xs ys → AreSame ys zs → AreSame xs zs
  same_then xs ys zs p q = record { to = λ x c. q.to x (p.to x c); from = λ x c. p.from x (q.from x c); long = p.long ∙ q.long }

  pub same_append : (a b c d : List X) → AreSame a b → AreSame c d → AreSame (a ++ c) (b ++ d)
  same_append a b c d p q = record {
    to = λ x h. elim (Contains-append_cases a c x h) [ inl l ↦ Contains-append_left b d x (p.to x l) | inr r ↦ Contains-append_right b d x (q.to x r) ];
    from = λ x h. elim (Contains-append_cases b d x h) [ inl l ↦ Contains-append_left a c x (p.from x l) | inr r ↦ Contains-append_right a c x (q.from x r) ];
    long = let s = p.long in let t = q.long in omega (arith, length-append a c, length-append b d);
  }

  swapped : (a b c : List X) (x : X) → Contains (a ++ (b ++ c)) x → Contains (b ++ (a ++ c)) x
  swapped a b c x h = elim (Contains-append_cases a (b ++ c) x h) [
    | inl l ↦ Contains-append_right b (a ++ c) x (Contains-append_left a c x l)
    | inr r ↦ elim (Contains-append_cases b c x r) [
      | inl m ↦ Contains-append_left b (a ++ c) x m
      | inr n ↦ Contains-append_right b (a ++ c) x (Contains-append_right a c x n)
    ]
  ]

  -- the first goes after the second
  pub same_swap : (a b c : List X) → AreSame (a ++ (b ++ c)) (b ++ (a ++ c))
  same_swap a b c = record {
    to = λ x h. swapped a b c x h;
    from = λ x h. swapped b a c x h;
    long = omega (arith, length-append a (b ++ c), length-append b (a ++ c), length-append a c, length-append b c);
  }

pub clear_same : (xs ys : List Instance) → AreSame xs ys → IsClear (Contains ys) → IsClear (Contains xs)
clear_same xs ys same clear a b t in_a in_b clash = clear a b t (same.to a in_a) (same.to b in_b) clash
