-- What the view says of any history: its parts were taken, one of a slot, and what is gone stays gone.
use Rattle.std.proofs.Common.{◌≡◌, true, false, List, [], ◌∷◌, ◌++◌, ◌⊎◌, inl, inr, refl, sym, ap, ◌∙◌, subst}
use Rattle.std.specs.declared.cmp.Ordering.{Ordering}
use Rattle.std.specs.declared.cmp.Ordering.TheVariants.{Less, Equal, Greater}
use Rattle.std.specs.Ordering.{ordering_then, ordering_reverse, is_eq, is_lt, is_le, is_gt}
use Rattle.std.specs.List.{Contains}
use Rattle.std.proofs.lemmas.Bool.{and_parts, and_from, true≢false, or_cases, or_left, or_right, not_from_false, not-true, cases_Bool, false_from_ne_true, true_from_ne_false}
use Rattle.std.proofs.lemmas.Cmp.{upto, tied_back}
use Rattle.std.proofs.lemmas.List.Elements.{Contains-append_left}
use Rattle.profile.specs.rooms.Revisions.{Whole, Revision, Body, Set, Absent, Cancelled, Part, revision_cmp, body_cmp, part_cmp, same_place, implies, is_greatest, stays_beside, leaves_in_view, in_view}
use Rattle.itip_order.proofs.Lists.{all_at, all_from, in_cons, in_head, in_tail, none_in_nil}
use Rattle.itip_order.proofs.Order.{slot_total, meeting_total, revision_total, part_total, is_eq_true, then_equal}
use Rattle.itip_order.proofs.Registers.{Greatest, greatest_at, greatest_from, greatest_unique, implies_at, implies_from, eq_refl, place_sym, place_trans, part_le_refl, part_le_trans}

pub view_taken : (h : List Part) (p : Part) → in_view h p ≡ true → Contains h p
view_taken h p v = (greatest_at h p (and_parts _ _ v).0).taken

pub view_one : (h : List Part) (p q : Part) → in_view h p ≡ true → in_view h q ≡ true → same_place p q ≡ true → p ≡ q
view_one h p q v w e = greatest_unique h p q (greatest_at h p (and_parts _ _ v).0) (greatest_at h q (and_parts _ _ w).0) e

-- the greatest of the parts of q's place, among q and these
record Best (h : List Part) (q g : Part) : Type 0 where
  taken : Contains (q ∷ h) g
  here : same_place g q ≡ true
  top : (y : Part) → Contains (q ∷ h) y → same_place y q ≡ true → is_le (part_cmp y g) ≡ true

-- one more part is beside the point, or below the best, or the new best
best_past : (h : List Part) (q x g : Part) → Best h q g → (same_place x q ≡ true → is_le (part_cmp x g) ≡ true) → Best (x ∷ h) q g
best_past h q x g b low = record {
  taken = elim (in_cons q h g b.taken) [
    | inl same ↦ subst (λ (z : Part). Contains (q ∷ x ∷ h) z) same (in_head q (x ∷ h))
    | inr later ↦ in_tail q (x ∷ h) g (in_tail x h g later)
  ];
  here = b.here;
  top = λ y c e. elim (in_cons q (x ∷ h) y c) [
    | inl same ↦ b.top y (subst (λ (z : Part). Contains (q ∷ h) z) same (in_head q h)) e
    | inr rest ↦ elim (in_cons x h y rest) [
      | inl is_x ↦ subst (λ (z : Part). is_le (part_cmp z g) ≡ true) is_x (low (subst (λ (z : Part). same_place z q ≡ true) (sym is_x) e))
      | inr later ↦ b.top y (in_tail q h y later) e
    ]
  ];
}

best_new : (h : List Part) (q x g : Part) → Best h q g → same_place x q ≡ true → is_le (part_cmp g x) ≡ true → Best (x ∷ h) q x
best_new h q x g b place high = record {
  taken = in_tail q (x ∷ h) x (in_head x h);
  here = place;
  top = λ y c e. elim (in_cons q (x ∷ h) y c) [
    | inl same ↦ part_le_trans y g x (b.top y (subst (λ (z : Part). Contains (q ∷ h) z) same (in_head q h)) e) high
    | inr rest ↦ elim (in_cons x h y rest) [
      | inl is_x ↦ subst (λ (z : Part). is_le (part_cmp z x) ≡ true) is_x (part_le_refl x)
      | inr later ↦ part_le_trans y g x (b.top y (in_tail q h y later) e) high
    ]
  ];
}

le_or_ge : (o p : Ordering) → p ≡ ordering_reverse o → (is_le o ≡ true) ⊎ (is_le p ≡ true)
le_or_ge Less p e = inl refl
le_or_ge Equal p e = inl refl
le_or_ge Greater p e = inr (ap is_le e)

best : (h : List Part) (q : Part) → (g : Part) × Best h q g
best [] q = (
  q,
  record {
    taken = in_head q [];
    here = eq_refl q;
    top = λ y c e. elim (in_cons q [] y c) [
      | inl same ↦ subst (λ (z : Part). is_le (part_cmp z q) ≡ true) same (part_le_refl q)
      | inr none ↦ absurd (none_in_nil y none)
    ];
  },
)
best (x ∷ h) q =
    let b = best h q in
    elim (cases_Bool (same_place x q)) [
      | inl here ↦ elim (le_or_ge (part_cmp x b.0) (part_cmp b.0 x) (part_total.antisymm b.0 x)) [
        | inl low ↦ (b.0, best_past h q x b.0 b.1 (λ _. low))
        | inr high ↦ (x, best_new h q x b.0 b.1 here high)
      ]
      | inr there ↦ (b.0, best_past h q x b.0 b.1 (λ here. absurd (true≢false (sym here ∙ there))))
    ]

-- each part that was taken has a greatest of its place
pub greatest_of : (h : List Part) (q : Part) → Contains h q → (g : Part) × Greatest h g × (same_place g q ≡ true)
greatest_of h q c =
    let b = best h q in (
      b.0,
      record {
        taken = elim (in_cons q h b.0 b.1.taken) [ inl same ↦ subst (λ (z : Part). Contains h z) same c | inr later ↦ later ];
        top = λ y d e. b.1.top y (in_tail q h y d) (place_trans y b.0 q e b.1.here);
      },
      b.1.here,
    )

-- the order of parts is that of revisions first
pub revision_le : (r b : Ordering) → is_le (ordering_then r b) ≡ true → is_gt r ≡ false
revision_le Less b e = refl
revision_le Equal b e = refl
revision_le Greater b e = absurd (true≢false (sym e))

body_le : (r b : Ordering) → is_le (ordering_then r b) ≡ true → r ≡ Equal → is_le b ≡ true
body_le Less b e s = absurd (true≢false (ap is_lt s))
body_le Equal b e s = e
body_le Greater b e s = absurd (true≢false (ap is_gt s))

-- nothing is above Cancelled
cancelled_top : (a b : Body) → is_le (body_cmp a b) ≡ true → is_eq (body_cmp a Cancelled) ≡ true → is_eq (body_cmp b Cancelled) ≡ true
cancelled_top (Set x) b e c = absurd (true≢false (sym c))
cancelled_top Absent b e c = absurd (true≢false (sym c))
cancelled_top Cancelled (Set y) e c = absurd (true≢false (sym e))
cancelled_top Cancelled Absent e c = absurd (true≢false (sym e))
cancelled_top Cancelled Cancelled e c = refl

less_or_equal : (o : Ordering) → is_gt o ≡ false → (o ≡ Less) ⊎ (o ≡ Equal)
less_or_equal Less e = inl refl
less_or_equal Equal e = inr refl
less_or_equal Greater e = absurd (true≢false e)

-- the three cases of how revisions compare: p above v, v not below w
above_lower : (p v w : Revision) → is_gt (revision_cmp p v) ≡ true → is_gt (revision_cmp w v) ≡ false → is_gt (revision_cmp p w) ≡ true
above_lower p v w above low = true_from_ne_false _ (λ below. true≢false (sym above ∙ upto revision_total p w v below low))

-- a part that counts beside a Whole counts beside a lesser one of the same place
stays_lower : (w v p : Part) → is_le (part_cmp w v) ≡ true → stays_beside v p ≡ true → stays_beside w p ≡ true
stays_lower w v p le stays =
    let low = revision_le _ _ le in
    elim (or_cases _ _ stays) [
      | inl above ↦ or_left _ _ (above_lower p.revision v.revision w.revision above low)
      | inr level ↦
          let both = and_parts _ _ level in
          let tie = is_eq_true _ both.0 in
          let as_v = revision_total.congr p.revision v.revision w.revision tie in
          elim (less_or_equal (revision_cmp w.revision v.revision) low) [
            | inl less ↦ or_left _ _ (ap is_gt (as_v ∙ revision_total.antisymm v.revision w.revision ∙ ap ordering_reverse less))
            | inr same ↦ or_right _ _ (and_from _ _
                (ap is_eq (as_v ∙ tied_back revision_total w.revision v.revision same))
                (not_from_false _ (false_from_ne_true _ (λ cancelled. true≢false (sym (cancelled_top w.body v.body (body_le _ _ le same) cancelled) ∙ not-true _ both.1)))))
          ]
    ]

-- and so with what a Whole leaves in the view
allows_lower : (w v p : Part) → same_place v w ≡ true → is_le (part_cmp w v) ≡ true → leaves_in_view v p ≡ true → leaves_in_view w p ≡ true
allows_lower w v p place le allowed =
    let places = then_equal _ _ (is_eq_true _ place) in
    elim (or_cases _ _ allowed) [
      | inl whole ↦ or_left _ _ whole
      | inr hides ↦ or_right _ _ (implies_from _ _ (λ whole.
          let both = and_parts _ _ whole in
          let v_whole = ap is_eq (slot_total.congr v.slot w.slot Whole places.1) ∙ both.0 in
          let v_meeting = ap is_eq (meeting_total.congr v w p places.0) ∙ both.1 in
          stays_lower w v p le (implies_at _ _ hides (and_from _ _ v_whole v_meeting))))
    ]

-- what left the view stays out of it
pub gone_for_good : (h more : List Part) (p : Part) → Contains h p → in_view h p ≡ false → in_view (h ++ more) p ≡ false
gone_for_good h more p c gone = false_from_ne_true _ (λ v.
    let both = and_parts _ _ v in
    let g = greatest_at (h ++ more) p both.0 in
    let allowed = λ (w : Part) (d : Contains h w).
    let top = greatest_of (h ++ more) w (Contains-append_left h more w d) in
    let by_top = implies_at _ _ (all_at (λ whole. implies (is_greatest (h ++ more) whole) (leaves_in_view whole p)) (h ++ more) top.0 both.1 top.1.taken) (greatest_from (h ++ more) top.0 top.1) in
    allows_lower w top.0 p top.2 (top.1.top w (Contains-append_left h more w d) (place_sym top.0 w top.2)) by_top in
    let back : in_view h p ≡ true =
    and_from _ _ (greatest_from h p record { taken = c; top = λ y d e. g.top y (Contains-append_left h more y d) e })
    (all_from (λ whole. implies (is_greatest h whole) (leaves_in_view whole p)) h (λ w d. implies_from (is_greatest h w) (leaves_in_view w p) (λ _. allowed w d))) in
    true≢false (sym back ∙ gone))
