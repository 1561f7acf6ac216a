-- A meeting by its own book: the answers that stay when more of its parts are taken, and what they confirm.
-- Cited by Views::kept, any_hidden, left_at, left_beside, left_of.
use Rattle.std.proofs.Common.{◌≡◌, ◌∙◌, ℕ, ℤ, ◌+◌, ◌<◌, take, get_or, Bool, true, false, not, ◌&&◌, cond, List, [], ◌∷◌, ◌++◌, map, length, inl, inr, Option, None, Some, refl, sym, ap, subst, append-nil}
use Rattle.std.specs.List.{AllZip, filter, flat_map, Contains}
use Rattle.std.proofs.lemmas.Bool.{true≢false, and_parts, and_from, or_right, not-true, not_from_false, false_from_ne_true, both_ways}
use Rattle.std.proofs.lemmas.List.Elements.{Contains-append_left, Contains-append_right, Contains-append_cases, Contains-push, filter-append}
use Rattle.std.proofs.lemmas.List.{take_more}
use Rattle.itip_order.specs.Parts.{slot_of}
use Rattle.itip_order.specs.Registers.{RepresentsHistory, at_slot}
use Rattle.itip_order.proofs.Lasting.{view_one}
use Rattle.itip_order.proofs.Lists.{in_cons, in_head, in_tail, none_in_nil, filter_at, all_at, all_from, any_at, any_from}
use Rattle.itip_order.proofs.Order.{slot_same, is_eq_true, then_equal}
use Rattle.itip_order.proofs.Registers.{place_sym, place_trans, greatest_at, greatest_from, implies_at, implies_from}
use Rattle.profile.specs.checker.Instances.{Instance}
use Rattle.profile.specs.rooms.Revisions as Revision
use Rattle.profile.specs.rooms.Revisions.{Part, Whole, At, in_view, same_place, is_whole, is_greatest, implies, leaves_in_view, slot_cmp, same_meeting, stays_beside}
use Rattle.profile.specs.rooms.Rooms.{PartAnswer as SaidAnswer, Book, Recurring, is_accept, is_confirmed, is_hidden, left_of, recurring_in, singles_confirmed, series_confirmed}
use Rattle.room_books.specs.declared.meeting.MeetingKey.{MeetingKey}
use Rattle.room_books.specs.declared.kept.Meeting.{Meeting}
use Rattle.cal_events.specs.declared.instance.Single.{Single}
use Rattle.room_books.specs.declared.meeting.PartAnswer.{PartAnswer}
use Rattle.room_books.specs.Slots.{Reordered, left_without, taken_at, is_touched, AllTouch, IsUntouched}
use Rattle.room_books.specs.Slots.Reordered.{re_then}
use Rattle.room_books.specs.Taking.{IsLeftAlone, IsSeriesLeft, IsAnswerAfter, IsViewed, is_hidden_by, left_in, left_beside, part_instance}
use Rattle.room_books.proofs.shared_lemmas.Givens.{given_reordered, given_zip}
use Rattle.room_books.proofs.shared_lemmas.Reordering.{re_back, re_filter, re_in, re_parts, re_swapped}
use Rattle.itip_order.specs.declared.part.Slot.{Slot}
use Rattle.std.specs.Ordering.{is_eq}
use Rattle.room_books.specs.Meeting.{keyed_instance, instance_list, series_list}
use Rattle.std.specs.Option.{option_to_list}
use Rattle.room_books.specs.Room.{is_of_meeting, AreSameSeries, IsOwn, HasAnswer, answers_in_view, KeepsEach, KeepsSome}
use Rattle.room_books.proofs.shared_lemmas.Loops.{zip_both, zip_push, filter_push, filter_yes, filter_no}
use Rattle.room_books.proofs.room_lemmas.Meetings.{filter_same, is_of_parts, of_part, same_place_of}
use Rattle.room_books.proofs.shared_lemmas.Pairs.{flat_at}
use Rattle.room_books.proofs.shared_lemmas.Partition.{given_by}
use Rattle.room_books.proofs.shared_lemmas.SameSeries.{series_hidden}
use Rattle.room_books.proofs.shared_lemmas.SeriesLeft.{left_series}
use Rattle.room_books.proofs.shared_lemmas.Views.{hidden_stays, view_back}
use Rattle.room_books.proofs.shared_lemmas.Places.{booked_from}

-- ---- filters

pub filter_within : {X : Type 0} (f g : X → Bool) (xs : List X) → ((x : X) → Contains xs x → f x ≡ true → g x ≡ true) → filter f (filter g xs) ≡ filter f xs
filter_within f g [] h = refl
filter_within f g (x ∷ xs) h = step (f x) (g x) refl (h x (in_head x xs)) (filter_within f g xs (λ y c. h y (in_tail x xs y c)))
  where
    step : (b c : Bool) → f x ≡ b → (b ≡ true → c ≡ true) → filter f (filter g xs) ≡ filter f xs → filter f (cond c (x ∷ filter g xs) (filter g xs)) ≡ cond b (x ∷ filter f xs) (filter f xs)
    step true true e k r = ap (λ b. cond b (x ∷ filter f (filter g xs)) (filter f (filter g xs))) e ∙ ap (λ l. x ∷ l) r
    step true false e k r = absurd (true≢false (sym (k refl)))
    step false true e k r = ap (λ b. cond b (x ∷ filter f (filter g xs)) (filter f (filter g xs))) e ∙ r
    step false false e k r = r

pub filter_all : {X : Type 0} (f : X → Bool) (xs : List X) → ((x : X) → Contains xs x → f x ≡ true) → filter f xs ≡ xs
filter_all f [] h = refl
filter_all f (x ∷ xs) h = ap (λ b. cond b (x ∷ filter f xs) (filter f xs)) (h x (in_head x xs)) ∙ ap (λ l. x ∷ l) (filter_all f xs (λ y c. h y (in_tail x xs y c)))

-- ---- what one answer confirms

-- the part's instances are those of its meeting
pub booked_is : (k : MeetingKey) (p : Part) (s : Single) → is_of_meeting k p ≡ true → part_instance p s ≡ keyed_instance k s
booked_is k p s e =
    let o = is_of_parts k p e in
    λ i. record { key = record { organiser = sym o.0 i; uid = sym o.1 i; slot = s.slot }; start = s.span.start; end = s.span.end }

pub booked_all : (k : MeetingKey) (p : Part) (xs : List Single) → is_of_meeting k p ≡ true → map (part_instance p) xs ≡ instance_list k xs
booked_all k p [] e = refl
booked_all k p (s ∷ xs) e = λ i. booked_is k p s e i ∷ booked_all k p xs e i

pub left_booked : (k : MeetingKey) (t : List Part) (p : Part) (xs : List Single) → is_of_meeting k p ≡ true → instance_list k (left_in t p xs) ≡ filter (λ b. not (is_hidden t p b)) (instance_list k xs)
left_booked k t p [] e = refl
left_booked k t p (s ∷ xs) e =
    at_test (not (is_hidden t p (part_instance p s))) (left_booked k t p xs e) ∙ ap (λ b. cond (not (is_hidden t p b)) (keyed_instance k s ∷ filter (λ b. not (is_hidden t p b)) (instance_list k xs)) (filter (λ b. not (is_hidden t p b)) (instance_list k xs))) (booked_is k p s e)
  where
    at_test : (b : Bool) → instance_list k (left_in t p xs) ≡ filter (λ b. not (is_hidden t p b)) (instance_list k xs)
        → instance_list k (cond b (s ∷ left_in t p xs) (left_in t p xs)) ≡ cond b (keyed_instance k s ∷ filter (λ b. not (is_hidden t p b)) (instance_list k xs)) (filter (λ b. not (is_hidden t p b)) (instance_list k xs))
    at_test true r = ap (λ l. keyed_instance k s ∷ l) r
    at_test false r = r

-- one answer whose part is in the view
pub one_given : {X : Type 0} (f : SaidAnswer → List X) (t : List Part) (a : SaidAnswer) → in_view t a.claim.part ≡ true → given_by f t (a ∷ []) ≡ cond (is_accept a.outcome) (f a) []
one_given {X} f t a seen = at_test (is_accept a.outcome) (in_view t a.claim.part) seen
  where
    at_test : (b c : Bool) → c ≡ true → flat_map f (cond (b && c) (a ∷ []) []) ≡ cond b (f a) []
    at_test true true e = append-nil (f a)
    at_test true false e = absurd (true≢false (sym e))
    at_test false true e = refl
    at_test false false e = refl

pub one_confirmed : (t : List Part) (a : SaidAnswer) → in_view t a.claim.part ≡ true → singles_confirmed t (a ∷ []) ≡ cond (is_accept a.outcome) (left_of t a) []
one_confirmed t a seen = one_given (left_of t) t a seen

-- a series among those of one answer is of its part
one_part : (t : List Part) (a : SaidAnswer) (r : Recurring) → Contains (series_confirmed t (a ∷ [])) r → r.part ≡ a.claim.part
one_part t a r c =
    let found = flat_at recurring_in (filter (is_confirmed t) (a ∷ [])) r c in
    let is : a ≡ found.0 = elim (in_cons a [] found.0 (filter_at (is_confirmed t) (a ∷ []) found.0 found.1).0) [ inl here ↦ here | inr none ↦ absurd (none_in_nil found.0 none) ] in
    of_part found.0 r found.2 ∙ ap (λ (x : SaidAnswer). x.claim.part) (sym is)

filter_cond : (f : Instance → Bool) (b : Bool) (xs : List Instance) → filter f (cond b xs []) ≡ cond b (filter f xs) []
filter_cond f true xs = refl
filter_cond f false xs = refl

-- ---- parts that nothing touches

-- where no part of its place is taken and no whole, a part stays in the view
untouched_view : (h more : List Part) (a : Part) → Contains h a → in_view h a ≡ true → ((y : Part) → Contains more y → same_place y a ≡ false) → ((y : Part) → Contains more y → is_whole y ≡ false) → in_view (h ++ more) a ≡ true
untouched_view h more a taken seen other instance =
    let both = and_parts _ _ seen in
    let top = greatest_at h a both.0 in
    and_from _ _
    (greatest_from (h ++ more) a record {
      taken = Contains-append_left h more a taken;
      top = λ y c same. elim (Contains-append_cases h more y c) [ inl old ↦ top.top y old same | inr new ↦ absurd (both_ways _ (other y new) same) ];
    })
    (all_from (λ w. implies (is_greatest (h ++ more) w) (leaves_in_view w a)) (h ++ more) (λ w c. implies_from _ _ (λ greatest. elim (Contains-append_cases h more w c) [
      | inl old ↦
          let g = greatest_at (h ++ more) w greatest in
          let was = greatest_from h w record { taken = old; top = λ y d same. g.top y (Contains-append_left h more y d) same } in
          implies_at _ _ (all_at (λ x. implies (is_greatest h x) (leaves_in_view x a)) h w both.1 old) was
      | inr new ↦ or_right (is_whole a) _ (implies_from (is_whole w && same_meeting w a) (stays_beside w a) (λ whole. absurd (both_ways _ (instance w new) (and_parts (is_whole w) (same_meeting w a) whole).0)))
    ])))

-- nothing hides an instance of a part that is one itself
never_hidden : (t : List Part) (p : Part) (b : Instance) → is_whole p ≡ false → is_hidden t p b ≡ false
never_hidden t p b whole = and_false _ _ whole
  where
    and_false : (x y : Bool) → x ≡ false → (x && y) ≡ false
    and_false true y e = absurd (true≢false e)
    and_false false y e = refl

left_instance : (t : List Part) (a : SaidAnswer) → is_whole a.claim.part ≡ false → left_of t a ≡ a.claim.singles
left_instance t a whole = filter_all (λ b. not (is_hidden t a.claim.part b)) a.claim.singles (λ b c. not_from_false _ (never_hidden t a.claim.part b whole))

-- ---- an answer, when more parts are taken

module _ (key : MeetingKey) (own : Book) (more : List Part) (is_own : IsOwn key own) (slots : List Slot) (touches : AllTouch slots more) (before after : List Part) (part : Part) (of_key : is_of_meeting key part ≡ true)
    (stood : RepresentsHistory before own.taken) (represented : RepresentsHistory after (own.taken ++ more))
    (a : SaidAnswer) (known : Contains own.answers a) (seen : in_view own.taken a.claim.part ≡ true) (given : PartAnswer) (g : HasAnswer key own.taken a given) where
  abbrev place : Part
  place = at_slot part (slot_of given.slot)

  a_taken : Contains own.taken a.claim.part
  a_taken = is_own.known a known

  a_place : same_place a.claim.part place ≡ true
  a_place = same_place_of key a.claim.part place (is_own.taken a.claim.part a_taken) of_key (sym g.slot)

  is_part : (q : Part) → IsViewed before place q → q ≡ a.claim.part
  is_part q v = view_one own.taken q a.claim.part (v.seen own.taken stood) seen (place_trans q place a.claim.part v.same (place_sym a.claim.part place a_place))

  -- what it confirms wasn't hidden
  was_shown : (single : Single) → Contains given.singles.items single → is_hidden own.taken a.claim.part (part_instance a.claim.part single) ≡ false
  was_shown single c =
      let b = keyed_instance key single in
      let there = subst (λ (l : List Instance). Contains l b) (g.confirms ∙ one_confirmed own.taken a seen) (booked_from key given.singles.items single c) in
      let left = in_cond (is_accept a.outcome) (left_of own.taken a) b there in
      let shown = not-true _ (filter_at (λ x. not (is_hidden own.taken a.claim.part x)) a.claim.singles b left).1 in
      ap (is_hidden own.taken a.claim.part) (booked_is key a.claim.part single (is_own.taken a.claim.part a_taken)) ∙ shown
    where
      in_cond : (t : Bool) (xs : List Instance) (x : Instance) → Contains (cond t xs []) x → Contains xs x
      in_cond true xs x c = c
      in_cond false xs x c = absurd (none_in_nil x c)

  -- so what hides it now is a part that was taken now
  hidden_touched : (b : Instance) → is_hidden own.taken a.claim.part b ≡ false → is_hidden (own.taken ++ more) a.claim.part b ≡ true → is_touched slots (At b.key.slot) ≡ true
  hidden_touched b was hidden =
      let now = own.taken ++ more in
      let hides : List Part → Part → Bool = λ t other. in_view t other && same_place other (record a.claim.part { slot = At b.key.slot }) in
      let both = and_parts _ _ hidden in
      let other = any_at (hides now) now both.1 in
      let shown = and_parts _ _ other.2 in
      let slot : other.0.slot ≡ At b.key.slot = slot_same other.0.slot (At b.key.slot) (then_equal _ _ (is_eq_true _ shown.1)).1 in
      elim (Contains-append_cases own.taken more other.0 other.1) [
        | inl old ↦
            let before_it = and_from _ _ (view_back own.taken more other.0 old shown.0) shown.1 in
            absurd (both_ways _ was (and_from _ _ both.0 (any_from (hides own.taken) own.taken other.0 old before_it)))
        | inr new ↦ subst (λ (x : Revision.Slot). is_touched slots x ≡ true) slot (touches other.0 new)
      ]

  same_test : (t h : Bool) → (h ≡ true → t ≡ true) → (t && h) ≡ h
  same_test true h f = refl
  same_test false true f = f refl
  same_test false false f = refl

  beside_is : left_beside slots (own.taken ++ more) a.claim.part given.singles.items ≡ left_in (own.taken ++ more) a.claim.part given.singles.items
  beside_is = filter_same _ _ given.singles.items (λ single c. ap not (same_test _ _ (hidden_touched (part_instance a.claim.part single) (was_shown single c))))

  -- its series are the same as long as its part is in the view
  same_series : in_view (own.taken ++ more) a.claim.part ≡ true → series_confirmed (own.taken ++ more) (a ∷ []) ≡ series_confirmed own.taken (a ∷ [])
  same_series now = one_given recurring_in (own.taken ++ more) a now ∙ sym (one_given recurring_in own.taken a seen)

  -- a part that nothing touches stays in the view, and so does what it confirms
  module _ (alone : IsUntouched slots (slot_of given.slot)) where
    pub untouched_stays : in_view (own.taken ++ more) a.claim.part ≡ true
    untouched_stays = untouched_view own.taken more a.claim.part a_taken seen
        (λ y c. false_from_ne_true _ (λ same.
        let slot = slot_same y.slot a.claim.part.slot (then_equal _ _ (is_eq_true _ same)).1 ∙ sym g.slot in
        both_ways _ alone.alone (subst (λ (x : Revision.Slot). is_touched slots x ≡ true) slot (touches y c))))
        (λ y c. false_from_ne_true _ (λ whole.
        both_ways _ alone.whole (subst (λ (x : Revision.Slot). is_touched slots x ≡ true) (slot_same y.slot Whole (is_eq_true _ whole)) (touches y c))))

    pub untouched_given : HasAnswer key (own.taken ++ more) a given
    untouched_given =
        let whole : is_whole a.claim.part ≡ false = ap (λ (x : Revision.Slot). is_eq (slot_cmp x Whole)) (sym g.slot) ∙ alone.instance in
        record {
          slot = g.slot;
          moment = g.moment;
          outcome = g.outcome;
          confirms = g.confirms ∙ one_confirmed own.taken a seen
              ∙ ap (λ l. cond (is_accept a.outcome) l []) (left_instance own.taken a whole ∙ sym (left_instance (own.taken ++ more) a whole))
              ∙ sym (one_confirmed (own.taken ++ more) a untouched_stays);
          recurs = subst (λ (l : List Recurring). AreSameSeries (own.taken ++ more) l (series_list key (option_to_list given.series))) (sym (same_series untouched_stays))
              (series_hidden own.taken (own.taken ++ more) (series_confirmed own.taken (a ∷ [])) (series_list key (option_to_list given.series))
              (λ r c b.
              let single = ap is_whole (one_part own.taken a r c) ∙ whole in
              never_hidden own.taken r.part b single ∙ sym (never_hidden (own.taken ++ more) r.part b single))
              g.recurs);
        }

  pub gone : IsAnswerAfter slots before after part given None → in_view (own.taken ++ more) a.claim.part ≡ false
  gone s = elim s [
    | inl none ↦ absurd (none own.taken stood a.claim.part seen a_place)
    | inr out ↦ subst (λ (p : Part). in_view (own.taken ++ more) p ≡ false) (is_part out.0 out.1) (out.2 (own.taken ++ more) represented)
  ]

  module _ (left : PartAnswer) (s : IsAnswerAfter slots before after part given (Some left)) where
    same : s.0 ≡ a.claim.part
    same = is_part s.0 s.1

    pub stays : in_view (own.taken ++ more) a.claim.part ≡ true
    stays = subst (λ (p : Part). in_view (own.taken ++ more) p ≡ true) same (s.2 (own.taken ++ more) represented)

    hidden_still : (b : Instance) → not (is_hidden (own.taken ++ more) a.claim.part b) ≡ true → not (is_hidden own.taken a.claim.part b) ≡ true
    hidden_still b h = not_from_false _ (false_from_ne_true _ (λ hidden. both_ways _ (not-true _ h) (hidden_stays own.taken more a.claim.part b a_taken stays hidden)))

    confirms : instance_list key left.singles.items ≡ singles_confirmed (own.taken ++ more) (a ∷ [])
    confirms =
        let now = own.taken ++ more in
        let f : Instance → Bool = λ b. not (is_hidden now a.claim.part b) in
        ap (instance_list key) (s.3.singles now represented)
        ∙ ap (λ (p : Part). instance_list key (left_beside slots now p given.singles.items)) same
        ∙ ap (instance_list key) beside_is
        ∙ left_booked key now a.claim.part given.singles.items (is_own.taken a.claim.part a_taken)
        ∙ ap (filter f) (g.confirms ∙ one_confirmed own.taken a seen)
        ∙ filter_cond f (is_accept a.outcome) (left_of own.taken a)
        ∙ ap (λ l. cond (is_accept a.outcome) l []) (filter_within f (λ b. not (is_hidden own.taken a.claim.part b)) a.claim.singles (λ b c h. hidden_still b h))
        ∙ sym (one_confirmed now a stays)

    -- of its series that is left which no part taken now hides
    recurs : AreSameSeries (own.taken ++ more) (series_confirmed (own.taken ++ more) (a ∷ [])) (series_list key (option_to_list left.series))
    recurs =
        let now = own.taken ++ more in
        let part = a.claim.part in
        let hides : Instance → Bool = is_hidden_by slots now part in
        let at : ℤ → Bool = λ slot. hides (record { key = record { organiser = []; uid = []; slot = slot }; start = slot; end = slot }) in
        subst (λ (l : List Recurring). AreSameSeries now l (series_list key (option_to_list left.series))) (sym (same_series stays))
        (left_series key own.taken now part at (series_confirmed own.taken (a ∷ [])) (one_part own.taken a)
        (λ b was clear. false_from_ne_true _ (λ hidden. both_ways _ clear (and_from _ _ (hidden_touched b was hidden) hidden)))
        (λ b shown. (
          false_from_ne_true _ (λ hidden. both_ways _ shown (hidden_stays own.taken more part b a_taken stays hidden)),
          false_from_ne_true _ (λ both. both_ways _ shown (and_parts _ _ both).1),
        ))
        given.series left.series (subst (λ (p : Part). IsSeriesLeft (is_hidden_by slots now p) given.series left.series) same (s.3.series now represented)) g.recurs)

    pub still_given : HasAnswer key (own.taken ++ more) a left
    still_given = record {
      slot = ap slot_of s.3.slot ∙ g.slot;
      moment = s.3.moment ∙ g.moment;
      outcome = s.3.outcome ∙ g.outcome;
      confirms = confirms;
      recurs = recurs;
    }

-- ---- all answers

pub keeps_none : (part : Part) (slots : List Slot) (before after : List Part) → KeepsSome part slots before after [] []
keeps_none part slots before after own key more e o b s t [] h z = tt
keeps_none part slots before after own key more e o b s t (x ∷ xs) h z = absurd z

zip_last : {X Y : Type 0} (R : X → Y → Type 0) (xs : List X) (ys : List Y) (y : Y) → AllZip R xs (ys ++ y ∷ []) → (us : List X) × (x : X) × (xs ≡ us ++ x ∷ []) × AllZip R us ys × R x y
zip_last R [] [] y z = absurd z
zip_last R [] (w ∷ ys) y z = absurd z
zip_last R (x ∷ []) [] y z = ([], x, refl, tt, z.0)
zip_last R (x ∷ u ∷ xs) [] y z = absurd z.1
zip_last R (x ∷ xs) (w ∷ ys) y z = let r = zip_last R xs ys y z.1 in (x ∷ r.0, r.1, ap (λ l. x ∷ l) r.2, (z.0, r.3), r.4)

-- one more whose part stays in the view, with what is left of it
module _ (part : Part) (slots : List Slot) (before after : List Part) (done kept kept' : List PartAnswer) (given left : PartAnswer) (k : KeepsSome part slots before after done kept) (is : kept' ≡ kept ++ left ∷ []) where
  keeps_left : ((own : Book) (key : MeetingKey) (more : List Part) → is_of_meeting key part ≡ true → IsOwn key own → RepresentsHistory before own.taken → RepresentsHistory after (own.taken ++ more) → AllTouch slots more
      → (a : SaidAnswer) → Contains own.answers a → in_view own.taken a.claim.part ≡ true → HasAnswer key own.taken a given → (in_view (own.taken ++ more) a.claim.part ≡ true) × HasAnswer key (own.taken ++ more) a left)
      → KeepsSome part slots before after (done ++ given ∷ []) kept'
  keeps_left f own key more e o b st t xs h z =
      let r = zip_last (HasAnswer key own.taken) xs done given z in
      let now = own.taken ++ more in
      let a = r.1 in
      let old_is = h a (subst (λ (l : List SaidAnswer). Contains l a) (sym r.2) (Contains-push r.0 a)) in
      let old = k own key more e o b st t r.0 (λ x c. h x (subst (λ (l : List SaidAnswer). Contains l x) (sym r.2) (Contains-append_left r.0 (a ∷ []) x c))) r.3 in
      let both = f own key more e o b st t a old_is.0 old_is.1 r.4 in
      let same : answers_in_view now r.0 ++ a ∷ [] ≡ answers_in_view now xs = sym (ap (answers_in_view now) r.2 ∙ filter_push (λ x. in_view now x.claim.part) r.0 a ∙ ap (λ c. answers_in_view now r.0 ++ cond c (a ∷ []) []) both.0) in
      subst (λ (l : List PartAnswer). AllZip (HasAnswer key now) (answers_in_view now xs) l) (sym is)
      (subst (λ (l : List SaidAnswer). AllZip (HasAnswer key now) l (kept ++ left ∷ [])) same (zip_push (HasAnswer key now) (answers_in_view now r.0) kept a left old both.1))

pub keeps_more : (part : Part) (slots : List Slot) (before after : List Part) (done kept kept' : List PartAnswer) (given : PartAnswer) (o : Option PartAnswer) → KeepsSome part slots before after done kept → IsAnswerAfter slots before after part given o
    → ((left : PartAnswer) → o ≡ Some left → kept' ≡ kept ++ left ∷ []) → (o ≡ None → kept' ≡ kept) → KeepsSome part slots before after (done ++ given ∷ []) kept'
keeps_more part slots before after done kept kept' given None k s some none own key more e o b st t xs h z =
    let r = zip_last (HasAnswer key own.taken) xs done given z in
    let now = own.taken ++ more in
    let a = r.1 in
    let is = h a (subst (λ (l : List SaidAnswer). Contains l a) (sym r.2) (Contains-push r.0 a)) in
    let old = k own key more e o b st t r.0 (λ x c. h x (subst (λ (l : List SaidAnswer). Contains l x) (sym r.2) (Contains-append_left r.0 (a ∷ []) x c))) r.3 in
    let out = gone key own more o slots t before after part e b st a is.0 is.1 given r.4 s in
    let same : answers_in_view now r.0 ≡ answers_in_view now xs = sym (ap (answers_in_view now) r.2 ∙ filter_push (λ x. in_view now x.claim.part) r.0 a ∙ ap (λ c. answers_in_view now r.0 ++ cond c (a ∷ []) []) out ∙ append-nil (answers_in_view now r.0)) in
    subst (λ (l : List PartAnswer). AllZip (HasAnswer key now) (answers_in_view now xs) l) (sym (none refl)) (subst (λ (l : List SaidAnswer). AllZip (HasAnswer key now) l kept) same old)
keeps_more part slots before after done kept kept' given (Some left) k s some none own key more e o b st t xs h z =
    keeps_left part slots before after done kept kept' given left k (some left refl) (λ own key more e o b st t a known seen g. (
      stays key own more o slots t before after part e b st a known seen given g left s,
      still_given key own more o slots t before after part e b st a known seen given g left s,
    )) own key more e o b st t xs h z

-- an answer that is left alone
alone_now : (key : MeetingKey) (own : Book) (more : List Part) (o : IsOwn key own) (slots : List Slot) (t : AllTouch slots more) (before after : List Part) (part : Part) → is_of_meeting key part ≡ true
    → RepresentsHistory before own.taken → RepresentsHistory after (own.taken ++ more) → (a : SaidAnswer) → Contains own.answers a → in_view own.taken a.claim.part ≡ true → (given : PartAnswer) → HasAnswer key own.taken a given
    → IsLeftAlone slots before after part given → (in_view (own.taken ++ more) a.claim.part ≡ true) × HasAnswer key (own.taken ++ more) a given
alone_now key own more o slots t before after part e b st a known seen given g alone = elim alone [
  | inl untouched ↦ (
    untouched_stays key own more o slots t before after part e b st a known seen given g untouched,
    untouched_given key own more o slots t before after part e b st a known seen given g untouched,
  )
  | inr still ↦ (
    stays key own more o slots t before after part e b st a known seen given g given still,
    still_given key own more o slots t before after part e b st a known seen given g given still,
  )
]

-- and all of them
all_alone : (key : MeetingKey) (own : Book) (more : List Part) (o : IsOwn key own) (slots : List Slot) (t : AllTouch slots more) (before after : List Part) (part : Part) → is_of_meeting key part ≡ true
    → RepresentsHistory before own.taken → RepresentsHistory after (own.taken ++ more) → (xs : List SaidAnswer) (given : List PartAnswer) → ((a : SaidAnswer) → Contains xs a → Contains own.answers a × (in_view own.taken a.claim.part ≡ true))
    → ((g : PartAnswer) → Contains given g → IsLeftAlone slots before after part g) → AllZip (HasAnswer key own.taken) xs given
    → (answers_in_view (own.taken ++ more) xs ≡ xs) × AllZip (HasAnswer key (own.taken ++ more)) xs given
all_alone key own more o slots t before after part e b st [] [] h alone z = (refl, tt)
all_alone key own more o slots t before after part e b st [] (g ∷ gs) h alone z = absurd z
all_alone key own more o slots t before after part e b st (x ∷ xs) [] h alone z = absurd z
all_alone key own more o slots t before after part e b st (x ∷ xs) (g ∷ gs) h alone z =
    let is = h x (in_head x xs) in
    let first = alone_now key own more o slots t before after part e b st x is.0 is.1 g z.0 (alone g (in_head g gs)) in
    let rest = all_alone key own more o slots t before after part e b st xs gs (λ a c. h a (in_tail x xs a c)) (λ y c. alone y (in_tail g gs y c)) z.1 in
    let now = own.taken ++ more in (
      ap (λ b. cond b (x ∷ answers_in_view now xs) (answers_in_view now xs)) first.0 ∙ ap (λ l. x ∷ l) rest.0,
      (first.1, rest.1),
    )

zip_apart : {X Y : Type 0} (R : X → Y → Type 0) (xs : List X) (ys zs : List Y) → AllZip R xs (ys ++ zs) → (us : List X) × (vs : List X) × (xs ≡ us ++ vs) × AllZip R us ys × AllZip R vs zs
zip_apart R xs [] zs z = ([], xs, refl, tt, z)
zip_apart R [] (y ∷ ys) zs z = absurd z
zip_apart R (x ∷ xs) (y ∷ ys) zs z = let r = zip_apart R xs ys zs z.1 in (x ∷ r.0, r.1, ap (λ l. x ∷ l) r.2, (z.0, r.3), r.4)

-- those that don't stay as they are, with what is left of them, and the others, which are left alone
pub keeps_all : (part : Part) (slots : List Slot) (meeting : Meeting) (after : List Part) (lost : List Slot) (left : List PartAnswer)
    → KeepsSome part slots meeting.held after (taken_at lost meeting.answers.items) left
    → ((given : PartAnswer) → Contains meeting.answers.items given → is_touched lost (slot_of given.slot) ≡ false → IsLeftAlone slots meeting.held after part given)
    → KeepsEach part slots (Some meeting) after (left_without lost meeting.answers.items ++ left)
keeps_all part slots meeting after lost left k alone own key more e o m s t =
    let answers = meeting.answers.items in
    let test : PartAnswer → Bool = λ given. is_touched lost (slot_of given.slot) in
    let out = taken_at lost answers in
    let others = left_without lost answers in
    let old = answers_in_view own.taken own.answers in
    let now = own.taken ++ more in
    let seen : SaidAnswer → Bool = λ x. in_view now x.claim.part in
    let given = given_reordered key own.taken old answers (out ++ others) (re_parts test answers) m.answers in
    let parts = zip_apart (HasAnswer key own.taken) given.order out others given.each in
    let us = parts.0 in let vs = parts.1 in
    let same : Reordered old (us ++ vs) = subst (Reordered old) parts.2 given.same in
    let known : (a : SaidAnswer) → Contains (us ++ vs) a → Contains own.answers a × (in_view own.taken a.claim.part ≡ true) =
    λ a c. filter_at (λ (x : SaidAnswer). in_view own.taken x.claim.part) own.answers a (re_in (us ++ vs) old (re_back old (us ++ vs) same) a c) in
    let first = k own key more e o m.held s t us (λ a c. known a (Contains-append_left us vs a c)) parts.3 in
    let second = all_alone key own more o slots t meeting.held after part e m.held s vs others (λ a c. known a (Contains-append_right us vs a c))
    (λ g c. let f = filter_at (λ x. not (test x)) answers g c in alone g f.0 (not-true _ f.1)) parts.4 in
    let stood : answers_in_view now (us ++ vs) ≡ answers_in_view now us ++ vs = filter-append seen us vs ∙ ap (λ l. answers_in_view now us ++ l) second.0 in
    record {
      order = vs ++ answers_in_view now us;
      same = re_then (answers_in_view now old) (answers_in_view now us ++ vs) (vs ++ answers_in_view now us) (subst (Reordered (answers_in_view now old)) stood (re_filter seen old (us ++ vs) same)) (re_swapped (answers_in_view now us) vs);
      each = zip_both (HasAnswer key now) vs others (answers_in_view now us) left second.1 first;
    }

-- of a meeting of which nothing was ever taken there are none
pub keeps_new : (part : Part) (slots : List Slot) (after : List Part) (kept : List PartAnswer) → kept ≡ [] → KeepsEach part slots None after kept
keeps_new part slots after kept none own key more e o m s t =
    given_zip key (own.taken ++ more) (answers_in_view (own.taken ++ more) (answers_in_view own.taken own.answers)) kept
    (subst (AllZip (HasAnswer key (own.taken ++ more)) (answers_in_view (own.taken ++ more) (answers_in_view own.taken own.answers))) (sym none)
    (subst (λ (l : List SaidAnswer). AllZip (HasAnswer key (own.taken ++ more)) l []) (sym (ap (answers_in_view (own.taken ++ more)) (none_stood own.answers (λ a c. o.known a c)))) tt))
  where
    none_stood : (xs : List SaidAnswer) → ((a : SaidAnswer) → Contains xs a → Contains own.taken a.claim.part) → answers_in_view own.taken xs ≡ []
    none_stood [] h = refl
    none_stood (x ∷ xs) h = absurd (none_in_nil x.claim.part (subst (λ (l : List Part). Contains l x.claim.part) m (h x (in_head x xs))))

-- ---- one more element of a loop

pub left_push : (t : List Part) (p : Part) (singles left new : List Single) (i : ℕ) (d : Single) → i < length singles → new ≡ left ++ get_or singles i d ∷ [] → left ≡ left_in t p (take i singles)
    → is_hidden t p (part_instance p (get_or singles i d)) ≡ false → new ≡ left_in t p (take (i + 1) singles)
left_push t p singles left new i d h e same shown =
    let f : Single → Bool = λ single. not (is_hidden t p (part_instance p single)) in
    e ∙ filter_yes f (take i singles) left (get_or singles i d) same (ap not shown) ∙ ap (filter f) (sym (take_more singles i d h))

pub beside_push : (slots : List Slot) (t : List Part) (p : Part) (singles left new : List Single) (i : ℕ) (d : Single) → i < length singles → new ≡ left ++ get_or singles i d ∷ [] → left ≡ left_beside slots t p (take i singles)
    → (is_touched slots (At (get_or singles i d).slot) && is_hidden t p (part_instance p (get_or singles i d))) ≡ false → new ≡ left_beside slots t p (take (i + 1) singles)
beside_push slots t p singles left new i d h e same shown =
    let f : Single → Bool = λ single. not (is_touched slots (At single.slot) && is_hidden t p (part_instance p single)) in
    e ∙ filter_yes f (take i singles) left (get_or singles i d) same (ap not shown) ∙ ap (filter f) (sym (take_more singles i d h))

pub beside_pass : (slots : List Slot) (t : List Part) (p : Part) (singles left : List Single) (i : ℕ) (d : Single) → i < length singles → left ≡ left_beside slots t p (take i singles)
    → (is_touched slots (At (get_or singles i d).slot) && is_hidden t p (part_instance p (get_or singles i d))) ≡ true → left ≡ left_beside slots t p (take (i + 1) singles)
beside_pass slots t p singles left i d h same hidden =
    let f : Single → Bool = λ single. not (is_touched slots (At single.slot) && is_hidden t p (part_instance p single)) in
    filter_no f (take i singles) left (get_or singles i d) same (ap not hidden) ∙ ap (filter f) (sym (take_more singles i d h))

pub left_pass : (t : List Part) (p : Part) (singles left : List Single) (i : ℕ) (d : Single) → i < length singles → left ≡ left_in t p (take i singles)
    → is_hidden t p (part_instance p (get_or singles i d)) ≡ true → left ≡ left_in t p (take (i + 1) singles)
left_pass t p singles left i d h same hidden =
    let f : Single → Bool = λ single. not (is_hidden t p (part_instance p single)) in
    filter_no f (take i singles) left (get_or singles i d) same (ap not hidden) ∙ ap (filter f) (sym (take_more singles i d h))
