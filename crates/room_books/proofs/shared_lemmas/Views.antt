-- What later parts do to the view: what left it stays out, and what hides an instance of a Whole hides it as long as the Whole is there.
-- Behind Meeting::take of kept, put of kept, take_out of kept, take_out_of of kept, answers_stay of laws, kept_texts_pass of laws and 22 more.
use Rattle.std.proofs.Common.{◌≡◌, true, false, not, ◌&&◌, cond, List, [], ◌∷◌, ◌++◌, inl, inr, refl, sym, ap, ap₂, ◌∙◌, subst}
use Rattle.std.specs.declared.cmp.Ordering.{Ordering}
use Rattle.std.specs.declared.cmp.Ordering.TheVariants.{Less, Equal, Greater}
use Rattle.std.specs.Ordering.{is_eq, is_le, is_gt, ordering_reverse, ordering_then}
use Rattle.std.specs.List.{Contains, filter, flat_map}
use Rattle.std.proofs.lemmas.Bool.{and_parts, and_from, or_cases, or_left, or_right, both_ways, true≢false, cases_Bool, false_from_ne_true, true_from_ne_false}
use Rattle.std.proofs.lemmas.Cmp.{upto}
use Rattle.std.proofs.lemmas.List.Elements.{Contains-append_left}
use Rattle.itip_order.proofs.Lasting.{greatest_of, gone_for_good, revision_le}
use Rattle.itip_order.proofs.Lists.{all_at, all_from, any_at, any_from}
use Rattle.itip_order.proofs.Order.{slot_total, meeting_total, revision_total, is_eq_true, then_equal}
use Rattle.itip_order.proofs.Registers.{Greatest, greatest_at, greatest_from, greatest_unique, implies_at, implies_from, place_sym, place_trans}
use Rattle.profile.specs.checker.Instances.{Instance}
use Rattle.profile.specs.rooms.Revisions.{Slot, Whole, At, Revision, Part, slot_cmp, meeting_cmp, revision_cmp, part_cmp, same_meeting, same_place, is_whole, is_greatest, implies, stays_beside, leaves_in_view, in_view}
use Rattle.profile.specs.rooms.Rooms.{PartAnswer, is_hidden, left_of}

-- a part that was taken, and is in the view once more are taken, was in it
pub view_back : (h more : List Part) (p : Part) → Contains h p → in_view (h ++ more) p ≡ true → in_view h p ≡ true
view_back h more p taken v = true_from_ne_false _ (λ gone. both_ways _ (gone_for_good h more p taken gone) v)

-- ---- what hides an instance

level : (p g : Revision) → is_gt (revision_cmp p g) ≡ false → is_gt (revision_cmp g p) ≡ false → is_eq (revision_cmp g p) ≡ true
level p g up down = neither (revision_cmp g p) down (ap is_gt (sym (revision_total.antisymm p g)) ∙ up)
  where
    neither : (o : Ordering) → is_gt o ≡ false → is_gt (ordering_reverse o) ≡ false → is_eq o ≡ true
    neither Less a b = absurd (true≢false b)
    neither Equal a b = refl
    neither Greater a b = absurd (true≢false a)

-- what counts beside a Whole does so with a greater part
stays_higher : (whole x g : Part) → is_le (part_cmp x g) ≡ true → stays_beside whole x ≡ true → stays_beside whole g ≡ true
stays_higher whole x g le stays =
    let low : is_gt (revision_cmp x.revision g.revision) ≡ false = revision_le _ _ le in
    elim (or_cases _ _ stays) [
      | inl above ↦ or_left _ _ (true_from_ne_false _ (λ below. true≢false (sym above ∙ upto revision_total x.revision g.revision whole.revision low below)))
      | inr tied ↦
          let both = and_parts _ _ tied in
          let up : is_gt (revision_cmp whole.revision g.revision) ≡ false = ap is_gt (sym (revision_total.congr x.revision whole.revision g.revision (is_eq_true _ both.0))) ∙ low in
          elim (cases_Bool (is_gt (revision_cmp g.revision whole.revision))) [
            | inl above ↦ or_left _ _ above
            | inr down ↦ or_right _ _ (and_from _ _ (level whole.revision g.revision up down) both.1)
          ]
    ]

-- the slot of an instance, in the meeting of a part
abbrev at_slot : Part → Instance → Part
at_slot part booked = record part { slot = At booked.key.slot }

not_whole : (x part : Part) (booked : Instance) → same_place x (at_slot part booked) ≡ true → is_whole x ≡ false
not_whole x part booked place =
    let places = then_equal _ _ (is_eq_true _ place) in
    ap is_eq (slot_total.congr x.slot (At booked.key.slot) Whole places.1)

-- a part of the slot is of the Whole's meeting
of_meeting : (x part : Part) (booked : Instance) → same_place x (at_slot part booked) ≡ true → meeting_cmp x part ≡ Equal
of_meeting x part booked place = (then_equal (meeting_cmp x (at_slot part booked)) (slot_cmp x.slot (At booked.key.slot)) (is_eq_true _ place)).0

-- the greatest part of a slot that is hidden in the view of some parts is in the view of more, where the Whole is
module _ (h more : List Part) (part : Part) (booked : Instance) (taken : Contains h part) (whole : is_whole part ≡ true) (seen : in_view (h ++ more) part ≡ true)
    (x : Part) (x_taken : Contains h x) (x_seen : in_view h x ≡ true) (x_place : same_place x (at_slot part booked) ≡ true) where
  part_top : Greatest (h ++ more) part
  part_top = greatest_at (h ++ more) part (and_parts _ _ seen).0

  beside : stays_beside part x ≡ true
  beside =
      let before = view_back h more part taken seen in
      let allowed = implies_at _ _ (all_at (λ w. implies (is_greatest h w) (leaves_in_view w x)) h part (and_parts _ _ x_seen).1 taken) (and_parts _ _ before).0 in
      let same : same_meeting part x ≡ true = ap is_eq (meeting_total.antisymm part x ∙ ap ordering_reverse (of_meeting x part booked x_place)) in
      elim (or_cases _ _ allowed) [
        | inl x_whole ↦ absurd (both_ways _ (not_whole x part booked x_place) x_whole)
        | inr hides ↦ implies_at _ _ hides (and_from _ _ whole same)
      ]

  -- a greatest Whole of the slot's meeting is the part
  is_part : (g w : Part) → same_place g (at_slot part booked) ≡ true → Greatest (h ++ more) w → is_whole w ≡ true → same_meeting w g ≡ true → w ≡ part
  is_part g w g_place top w_whole same =
      let meetings : meeting_cmp w part ≡ Equal = meeting_total.congr w g part (is_eq_true _ same) ∙ of_meeting g part booked g_place in
      let own : slot_cmp Whole part.slot ≡ Equal = slot_total.antisymm Whole part.slot ∙ ap ordering_reverse (is_eq_true _ whole) in
      let slots : slot_cmp w.slot part.slot ≡ Equal = slot_total.congr w.slot Whole part.slot (is_eq_true _ w_whole) ∙ own in
      greatest_unique (h ++ more) w part top part_top (ap₂ (λ m s. is_eq (ordering_then m s)) meetings slots)

  stays_seen : (g : Part) → Greatest (h ++ more) g → same_place g x ≡ true → in_view (h ++ more) g ≡ true
  stays_seen g top place =
      let g_place = place_trans g x (at_slot part booked) place x_place in
      let above : is_le (part_cmp x g) ≡ true = top.top x (Contains-append_left h more x x_taken) (place_sym g x place) in
      let stays = stays_higher part x g above beside in
      and_from _ _ (greatest_from (h ++ more) g top)
      (all_from (λ w. implies (is_greatest (h ++ more) w) (leaves_in_view w g)) (h ++ more) (λ w c. implies_from _ _ (λ greatest.
      or_right (is_whole g) _ (implies_from _ _ (λ both.
      let parts = and_parts _ _ both in
      let same = is_part g w g_place (greatest_at (h ++ more) w greatest) parts.0 parts.1 in
      subst (λ (z : Part). stays_beside z g ≡ true) (sym same) stays)))))

  pub still_hidden : is_hidden (h ++ more) part booked ≡ true
  still_hidden =
      let top = greatest_of (h ++ more) x (Contains-append_left h more x x_taken) in
      and_from _ _ whole
      (any_from (λ other. in_view (h ++ more) other && same_place other (at_slot part booked)) (h ++ more) top.0 top.1.taken
      (and_from _ _ (stays_seen top.0 top.1 top.2) (place_trans top.0 x (at_slot part booked) top.2 x_place)))

-- what hides an instance of a part hides it as long as the part is in the view
pub hidden_stays : (h more : List Part) (part : Part) (booked : Instance) → Contains h part → in_view (h ++ more) part ≡ true → is_hidden h part booked ≡ true → is_hidden (h ++ more) part booked ≡ true
hidden_stays h more part booked taken seen hidden =
    let both = and_parts _ _ hidden in
    let found = any_at (λ other. in_view h other && same_place other (at_slot part booked)) h both.1 in
    let parts = and_parts _ _ found.2 in
    still_hidden h more part booked taken both.0 seen found.0 found.1 parts.0 parts.1

-- ---- where all parts are of whole meetings nothing is hidden

abbrev pub AllWhole : List Part → Type 0
AllWhole taken = (part : Part) → Contains taken part → part.slot ≡ Whole

none_hides : (taken : List Part) → AllWhole taken → (part : Part) (booked : Instance) → is_hidden taken part booked ≡ false
none_hides taken whole part booked = false_from_ne_true _ (λ hidden.
    let found = any_at (λ other. in_view taken other && same_place other (at_slot part booked)) taken (and_parts _ _ hidden).1 in
    let own : is_whole found.0 ≡ true = ap (λ (s : Slot). is_eq (slot_cmp s Whole)) (whole found.0 found.1) in
    both_ways _ (not_whole found.0 part booked (and_parts _ _ found.2).1) own)

left_in : (taken : List Part) → AllWhole taken → (part : Part) (xs : List Instance) → filter (λ b. not (is_hidden taken part b)) xs ≡ xs
left_in taken whole part [] = refl
left_in taken whole part (b ∷ xs) =
    let rest = left_in taken whole part xs in
    ap (λ h. cond (not h) (b ∷ filter (λ b. not (is_hidden taken part b)) xs) (filter (λ b. not (is_hidden taken part b)) xs)) (none_hides taken whole part b)
    ∙ ap (λ l. b ∷ l) rest

-- and each answer's instances are left
pub left_all : (taken : List Part) → AllWhole taken → (a : PartAnswer) → left_of taken a ≡ a.claim.singles
left_all taken whole a = left_in taken whole a.claim.part a.claim.singles

all_left : (taken : List Part) → AllWhole taken → (xs : List PartAnswer) → flat_map (left_of taken) xs ≡ flat_map (λ a. a.claim.singles) xs
all_left taken whole [] = refl
all_left taken whole (a ∷ xs) = ap₂ (λ x y. x ++ y) (left_all taken whole a) (all_left taken whole xs)
