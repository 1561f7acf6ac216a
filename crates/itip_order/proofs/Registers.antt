-- Registers represent a history: what taking a part does to them, and what is in the view.
use Rattle.std.proofs.Common.{◌≡◌, Bool, true, false, ◌&&◌, ◌||◌, cond, List, [], ◌∷◌, ◌++◌, ◌⊎◌, inl, inr, refl, sym, ap, ◌∙◌, subst}
use Rattle.std.specs.declared.cmp.Ordering.{Ordering}
use Rattle.std.specs.declared.cmp.Ordering.TheVariants.{Less, Equal, Greater}
use Rattle.std.specs.Ordering.{ordering_reverse, is_eq, is_lt, is_le, is_gt}
use Rattle.std.specs.List.{list_all, list_any, Contains, filter}
use Rattle.std.proofs.lemmas.Bool.{and_parts, and_from, true≢false, both_ways, cases_Bool}
use Rattle.std.proofs.lemmas.Cmp.{upto, tied_itself, tied_back}
use Rattle.std.proofs.lemmas.List.Elements.{Contains-append_left, Contains-push, Contains-push_cases}
use Rattle.profile.specs.rooms.Revisions.{Whole, Part, place_cmp, part_cmp, same_place, same_part, is_whole, implies, is_greatest, leaves_in_view, in_view}
use Rattle.itip_order.specs.Registers.{is_ascending, RepresentsHistory, IsView, shown}
use Rattle.itip_order.proofs.Lists.{all_at, all_from, any_at, any_from, filter_at, filter_from}
use Rattle.itip_order.proofs.Order.{slot_total, place_total, part_total, part_same, is_eq_true, then_equal}

-- small facts of tests

pub implies_at : (a b : Bool) → implies a b ≡ true → a ≡ true → b ≡ true
implies_at true b h e = h
implies_at false b h e = absurd (true≢false (sym e))

pub implies_from : (a b : Bool) → (a ≡ true → b ≡ true) → implies a b ≡ true
implies_from true b f = f refl
implies_from false b f = refl

pub le_not_gt : (o : Ordering) → is_gt o ≡ false → is_le o ≡ true
le_not_gt Less e = refl
le_not_gt Equal e = refl
le_not_gt Greater e = absurd (true≢false e)

gt_not_le : (o : Ordering) → is_le o ≡ true → is_gt o ≡ false
gt_not_le Less e = refl
gt_not_le Equal e = refl
gt_not_le Greater e = absurd (true≢false (sym e))

-- an order that is at most Equal both ways ties
le_both : (o : Ordering) → is_le o ≡ true → is_le (ordering_reverse o) ≡ true → o ≡ Equal
le_both Less p q = absurd (true≢false (sym q))
le_both Equal p q = refl
le_both Greater p q = absurd (true≢false (sym p))

pub eq_refl : (a : Part) → same_place a a ≡ true
eq_refl a = ap is_eq (tied_itself place_total a)

pub place_sym : (a b : Part) → same_place a b ≡ true → same_place b a ≡ true
place_sym a b e = ap is_eq (tied_back place_total a b (is_eq_true _ e))

pub place_trans : (a b c : Part) → same_place a b ≡ true → same_place b c ≡ true → same_place a c ≡ true
place_trans a b c p q = ap is_eq (place_total.congr a b c (is_eq_true _ p)) ∙ q

pub part_le_trans : (a b c : Part) → is_le (part_cmp a b) ≡ true → is_le (part_cmp b c) ≡ true → is_le (part_cmp a c) ≡ true
part_le_trans a b c p q = le_not_gt _ (upto part_total a b c (gt_not_le _ p) (gt_not_le _ q))

pub part_le_refl : (a : Part) → is_le (part_cmp a a) ≡ true
part_le_refl a = ap is_le (tied_itself part_total a)

pub part_antisymm : (a b : Part) → same_place a b ≡ true → is_le (part_cmp a b) ≡ true → is_le (part_cmp b a) ≡ true → a ≡ b
part_antisymm a b place p q = part_same a b (is_eq_true _ place) (le_both _ p (ap is_le (sym (part_total.antisymm b a)) ∙ q))

pub same_part_is : (a b : Part) → same_part a b ≡ true → a ≡ b
same_part_is a b h = let both = and_parts _ _ h in part_same a b (is_eq_true _ both.0) (is_eq_true _ both.1)

pub same_part_refl : (a : Part) → same_part a a ≡ true
same_part_refl a = and_from _ _ (eq_refl a) (ap is_eq (tied_itself part_total a))

-- the part was taken, and none of its place is greater
pub record Greatest (history : List Part) (part : Part) : Type 0 where
  pub taken : Contains history part
  pub top : (other : Part) → Contains history other → same_place other part ≡ true → is_le (part_cmp other part) ≡ true

pub greatest_at : (h : List Part) (x : Part) → is_greatest h x ≡ true → Greatest h x
greatest_at h x e =
    let both = and_parts _ _ e in
    let found = any_at (λ taken. same_part taken x) h both.0 in
    let P : Part → Type 0 = λ y. Contains h y in
    record {
      taken = subst P (same_part_is found.0 x found.2) found.1;
      top = λ y c p. implies_at _ _ (all_at (λ taken. implies (same_place taken x) (is_le (part_cmp taken x))) h y both.1 c) p;
    }

pub greatest_from : (h : List Part) (x : Part) → Greatest h x → is_greatest h x ≡ true
greatest_from h x g =
    and_from _ _ (any_from (λ taken. same_part taken x) h x g.taken (same_part_refl x))
    (all_from (λ taken. implies (same_place taken x) (is_le (part_cmp taken x))) h (λ y c. implies_from _ _ (g.top y c)))

pub greatest_unique : (h : List Part) (x y : Part) → Greatest h x → Greatest h y → same_place x y ≡ true → x ≡ y
greatest_unique h x y p q e = part_antisymm x y e (q.top x p.taken e) (p.top y q.taken (place_sym x y e))

-- a Whole of the same slot hides nothing: it is the part's own slot, or the part is a Whole
allows_cases : (a b c d : Bool) → (b ≡ true → a ≡ true) → (a || implies (b && c) d) ≡ true
allows_cases true b c d f = refl
allows_cases false true c d f = absurd (true≢false (sym (f refl)))
allows_cases false false c d f = refl

pub allows_same_place : (w x : Part) → same_place w x ≡ true → leaves_in_view w x ≡ true
allows_same_place w x e =
    let slots = (then_equal _ _ (is_eq_true _ e)).1 in
    allows_cases (is_whole x) (is_whole w) _ _ (λ whole. ap is_eq (sym (slot_total.congr w.slot x.slot Whole slots)) ∙ whole)

-- what the registers say of the parts of the history
module _ (R h : List Part) (s : RepresentsHistory R h) where
  pub register_greatest : (x : Part) → Contains R x → Greatest h x
  register_greatest x c = greatest_at h x (all_at (is_greatest h) R x s.greatest c)

  pub register_of : (x : Part) → Contains h x → (r : Part) × Contains R r × (same_place r x ≡ true)
  register_of x c = any_at (λ register. same_place register x) R (all_at (λ part. list_any (λ register. same_place register part) R) h x s.covered c)

  -- each greatest part has its register
  pub greatest_register : (x : Part) → Greatest h x → Contains R x
  greatest_register x g =
      let r = register_of x g.taken in
      let P : Part → Type 0 = λ y. Contains R y in
      subst P (greatest_unique h r.0 x (register_greatest r.0 r.1) g r.2) r.1

  -- each register of the meeting lets the part show
  abbrev Allowed : Part → Type 0
  Allowed x = list_all (λ whole. leaves_in_view whole x) R ≡ true

  pub in_view_from : (x : Part) → Contains R x → Allowed x → in_view h x ≡ true
  in_view_from x c a =
      and_from _ _ (greatest_from h x (register_greatest x c))
      (all_from (λ whole. implies (is_greatest h whole) (leaves_in_view whole x)) h (λ w _. implies_from _ _ (λ g.
      all_at (λ whole. leaves_in_view whole x) R w a (greatest_register w (greatest_at h w g)))))

  pub in_view_at : (x : Part) → in_view h x ≡ true → Contains R x × Allowed x
  in_view_at x v =
      let both = and_parts _ _ v in (
        greatest_register x (greatest_at h x both.0),
        all_from (λ whole. leaves_in_view whole x) R (λ w c.
            let g = register_greatest w c in
            implies_at _ _ (all_at (λ whole. implies (is_greatest h whole) (leaves_in_view whole x)) h w both.1 g.taken) (greatest_from h w g)),
      )

-- a filter of ascending parts ascends
all_filter : (f g : Part → Bool) (xs : List Part) → list_all f xs ≡ true → list_all f (filter g xs) ≡ true
all_filter f g xs a = all_from f (filter g xs) (λ x c. all_at f xs x a (filter_at g xs x c).0)

ascending_cond : (b : Bool) (x : Part) (xs : List Part) → list_all (λ y. is_lt (place_cmp x y)) xs ≡ true → is_ascending xs ≡ true → is_ascending (cond b (x ∷ xs) xs) ≡ true
ascending_cond true x xs below a = and_from _ _ below a
ascending_cond false x xs below a = a

pub ascending_filter : (f : Part → Bool) (xs : List Part) → is_ascending xs ≡ true → is_ascending (filter f xs) ≡ true
ascending_filter f [] a = refl
ascending_filter f (x ∷ xs) a =
    let both = and_parts _ _ a in
    ascending_cond (f x) x (filter f xs) (all_filter (λ y. is_lt (place_cmp x y)) f xs both.0) (ascending_filter f xs both.1)

-- the registers that are allowed are the view
pub view_of_registers : (R h : List Part) → RepresentsHistory R h → IsView (shown R) h
view_of_registers R h s = record {
  ascending = ascending_filter _ R s.ascending;
  exact = λ x. (
    λ c. (let both = filter_at (λ part. list_all (λ whole. leaves_in_view whole part) R) R x c in in_view_from R h s x both.0 both.1),
    λ v. (let both = in_view_at R h s x v in filter_from (λ part. list_all (λ whole. leaves_in_view whole part) R) R x both.0 both.1),
  );
}

-- taking a part that isn't above its register changes nothing
pub represents_kept : (R h : List Part) (p r : Part) → RepresentsHistory R h → Contains R r → same_place r p ≡ true → is_le (part_cmp p r) ≡ true → RepresentsHistory R (h ++ p ∷ [])
represents_kept R h p r s in_r place le = record {
  ascending = s.ascending;
  greatest = all_from (is_greatest (h ++ p ∷ [])) R (λ x c.
      let g = register_greatest R h s x c in
      greatest_from _ x record {
        taken = Contains-append_left h (p ∷ []) x g.taken;
        top = λ y inside same.
            elim (Contains-push_cases h p y inside) [
              | inl old ↦ g.top y old same
              | inr new ↦
                  let at_p : same_place p x ≡ true = subst (λ (z : Part). same_place z x ≡ true) (sym new) same in
                  let same_register = greatest_unique h r x (register_greatest R h s r in_r) g (place_trans r p x place at_p) in
                  subst (λ (z : Part). is_le (part_cmp z x) ≡ true) new (subst (λ (z : Part). is_le (part_cmp p z) ≡ true) same_register le)
            ];
      });
  covered = all_from (λ part. list_any (λ register. same_place register part) R) (h ++ p ∷ []) (λ y inside.
      elim (Contains-push_cases h p y inside) [
        | inl old ↦ all_at (λ part. list_any (λ register. same_place register part) R) h y s.covered old
        | inr new ↦ subst (λ (z : Part). list_any (λ register. same_place register z) R ≡ true) new (any_from (λ register. same_place register p) R r in_r place)
      ]);
}

-- the new registers are the old ones of other places, and the part, which is above its old register
pub record Puts (old new : List Part) (part : Part) : Type 0 where
  pub ascending : is_ascending new ≡ true
  pub put : Contains new part
  pub others : (x : Part) → Contains new x → (part ≡ x) ⊎ (Contains old x × (same_place x part ≡ false))
  pub kept : (x : Part) → Contains old x → same_place x part ≡ false → Contains new x
  pub beaten : (x : Part) → Contains old x → same_place x part ≡ true → part_cmp x part ≡ Less

less_le : (o : Ordering) → o ≡ Less → is_le o ≡ true
less_le o e = ap is_le e

pub represents_put : (R R' h : List Part) (p : Part) → RepresentsHistory R h → Puts R R' p → RepresentsHistory R' (h ++ p ∷ [])
represents_put R R' h p s u = record {
  ascending = u.ascending;
  greatest = all_from (is_greatest (h ++ p ∷ [])) R' (λ x c. greatest_from _ x (elim (u.others x c) [
    | inl new ↦ subst (λ (z : Part). Greatest (h ++ p ∷ []) z) new (record {
      taken = Contains-push h p;
      top = λ y inside same.
          elim (Contains-push_cases h p y inside) [
            | inl old ↦
                let r = register_of R h s y old in
                let top = (register_greatest R h s r.0 r.1).top y old (place_sym r.0 y r.2) in
                part_le_trans y r.0 p top (less_le _ (u.beaten r.0 r.1 (place_trans r.0 y p r.2 same)))
            | inr itself ↦ subst (λ (z : Part). is_le (part_cmp z p) ≡ true) itself (part_le_refl p)
          ];
    })
    | inr other ↦
        let g = register_greatest R h s x other.0 in
        record {
          taken = Contains-append_left h (p ∷ []) x g.taken;
          top = λ y inside same.
              elim (Contains-push_cases h p y inside) [
                | inl old ↦ g.top y old same
                | inr itself ↦
                    let at_p : same_place p x ≡ true = subst (λ (z : Part). same_place z x ≡ true) (sym itself) same in
                    absurd (both_ways _ other.1 (place_sym p x at_p))
              ];
        }
  ]));
  covered = all_from (λ part. list_any (λ register. same_place register part) R') (h ++ p ∷ []) (λ y inside.
      elim (Contains-push_cases h p y inside) [
        | inl old ↦
            let r = register_of R h s y old in
            elim (cases_Bool (same_place r.0 p)) [
              | inl here ↦ any_from (λ register. same_place register y) R' p u.put (place_trans p r.0 y (place_sym r.0 p here) r.2)
              | inr there ↦ any_from (λ register. same_place register y) R' r.0 (u.kept r.0 r.1 there) r.2
            ]
        | inr new ↦ subst (λ (z : Part). list_any (λ register. same_place register z) R' ≡ true) new (any_from (λ register. same_place register p) R' p u.put (eq_refl p))
      ]);
}
