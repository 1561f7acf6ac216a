-- The starts of a part's series that other parts hide, slot by slot.
-- Cited by hidden_starts, hides_start, series_left, without_hidden.
use Rattle.std.proofs.Common.{◌≡◌, ◌∙◌, ℕ, ◌+◌, ◌<◌, ℤ, ◌⊎◌, Bool, true, false, ◌&&◌, ◌||◌, List, [], ◌∷◌, ◌++◌, length, map, take, get_or, inl, inr, Option, None, Some, refl, sym, ap, subst}
use Rattle.std.specs.List.{Contains, list_any}
use Rattle.std.specs.Option.{option_to_list}
use Rattle.std.specs.Ordering.{is_eq}
use Rattle.std.proofs.lemmas.Bool.{and_parts, and_from, both_ways, false_from_ne_true, true≢false}
use Rattle.std.proofs.lemmas.List.{get_or_default, take_more}
use Rattle.std.proofs.lemmas.List.Elements.{Contains-append_left, Contains-append_cases, Contains-push}
use Rattle.std.proofs.lemmas.List.Folds.{list_any-append}
use Rattle.itip_order.specs.declared.part.Slot.{Slot as OwnSlot}
use Rattle.itip_order.specs.Parts.{slot_of}
use Rattle.itip_order.specs.Registers.{RepresentsHistory}
use Rattle.itip_order.proofs.Lists.{any_at, any_from, in_cons, in_head, none_in_nil}
use Rattle.itip_order.proofs.Order.{is_eq_true, slot_same, then_equal}
use Rattle.itip_order.proofs.Registers.{in_view_at}
use Rattle.profile.specs.checker.Instances.{Instance}
use Rattle.profile.specs.events.Starts.{IsInstance}
use Rattle.profile.specs.rooms.Revisions.{Part, At, in_view, is_whole, meeting_cmp, place_cmp, same_place, slot_cmp}
use Rattle.profile.specs.rooms.Rooms.{is_hidden}
use Rattle.cal_events.specs.Series.{series_said, AreKnownByStart, IsSeriesWithout}
use Rattle.cal_events.specs.declared.series.Series.{Series}
use Rattle.room_books.specs.Taking.{is_hidden_by, AreHiddenStarts, HidesOneOf, IsHiddenStart, IsSeriesLeft}
use Rattle.room_books.specs.Slots.{is_touched}
use Rattle.room_books.proofs.shared_lemmas.AcceptedSlots.{slot_from}
use Rattle.room_books.proofs.shared_lemmas.Pairs.{map_at}

-- ---- one more slot

or_parts : (a b : Bool) → (a || b) ≡ true → (a ≡ true) ⊎ (b ≡ true)
or_parts true b e = inl refl
or_parts false b e = inr e

-- touched by these or by one more
touched_push : (slots : List OwnSlot) (slot : OwnSlot) (t : ℤ) → is_touched (slots ++ slot ∷ []) (At t) ≡ true → (is_touched slots (At t) ≡ true) ⊎ (slot_of slot ≡ At t)
touched_push slots slot t e =
    let test : OwnSlot → Bool = λ own. is_eq (slot_cmp (slot_of own) (At t)) in
    elim (or_parts (is_touched slots (At t)) (is_touched (slot ∷ []) (At t)) (sym (list_any-append test slots (slot ∷ [])) ∙ e)) [
      | inl old ↦ inl old
      | inr new ↦ elim (or_parts (test slot) false new) [ inl here ↦ inr (slot_same (slot_of slot) (At t) (is_eq_true _ here)) | inr none ↦ absurd (true≢false (sym none)) ]
    ]

touched_old : (slots : List OwnSlot) (slot : OwnSlot) (t : ℤ) → is_touched slots (At t) ≡ true → is_touched (slots ++ slot ∷ []) (At t) ≡ true
touched_old slots slot t e =
    let test : OwnSlot → Bool = λ own. is_eq (slot_cmp (slot_of own) (At t)) in
    list_any-append test slots (slot ∷ []) ∙ ap (λ b. b || is_touched (slot ∷ []) (At t)) e

touched_new : (slots : List OwnSlot) (slot : OwnSlot) (t : ℤ) → slot_of slot ≡ At t → is_touched (slots ++ slot ∷ []) (At t) ≡ true
touched_new slots slot t e =
    any_from (λ own. is_eq (slot_cmp (slot_of own) (At t))) (slots ++ slot ∷ []) slot (Contains-push slots slot) (slot_from (slot_of slot) (At t) e)

module _ (history : List Part) (part : Part) where
  pub no_starts : AreHiddenStarts [] history part []
  no_starts b = (λ c. absurd (none_in_nil b.key.slot c), λ e. absurd (true≢false (sym e)))

  module _ (slots : List OwnSlot) (slot : OwnSlot) (starts : List ℤ) (are : AreHiddenStarts slots history part starts) where
    still_hidden : (b : Instance) → is_hidden_by slots history part b ≡ true → is_hidden_by (slots ++ slot ∷ []) history part b ≡ true
    still_hidden b e = let both = and_parts _ _ e in and_from _ _ (touched_old slots slot b.key.slot both.0) both.1

    -- a slot of which no part hides an instance
    pass : IsHiddenStart history part (slot_of slot) None → AreHiddenStarts (slots ++ slot ∷ []) history part starts
    pass none b = (
      λ c. still_hidden b ((are b).0 c),
      λ e.
          let both = and_parts _ _ e in
          elim (touched_push slots slot b.key.slot both.0) [
            | inl old ↦ (are b).1 (and_from _ _ old both.1)
            | inr new ↦ absurd (both_ways _ (none b new) both.1)
          ],
    )

    -- one of which a part does
    push : (start : ℤ) (new : List ℤ) → IsHiddenStart history part (slot_of slot) (Some start) → new ≡ starts ++ start ∷ [] → AreHiddenStarts (slots ++ slot ∷ []) history part new
    push start new is e b = (
      λ c. elim (Contains-append_cases starts (start ∷ []) b.key.slot (subst (λ (l : List ℤ). Contains l b.key.slot) e c)) [
        | inl old ↦ still_hidden b ((are b).0 old)
        | inr now ↦ elim (in_cons start [] b.key.slot now) [
          | inl here ↦ and_from _ _ (touched_new slots slot b.key.slot (is.0 ∙ ap At here)) (is.1 b (sym here))
          | inr none ↦ absurd (none_in_nil b.key.slot none)
        ]
      ],
      λ h.
          let both = and_parts _ _ h in
          subst (λ (l : List ℤ). Contains l b.key.slot) (sym e)
          (elim (touched_push slots slot b.key.slot both.0) [
            | inl old ↦ Contains-append_left starts (start ∷ []) b.key.slot ((are b).1 (and_from _ _ old both.1))
            | inr now ↦ subst (Contains (starts ++ start ∷ [])) (at_same start b.key.slot (sym is.0 ∙ now)) (Contains-push starts start)
          ]),
    )
      where
        at_same : (a c : ℤ) → At a ≡ At c → a ≡ c
        at_same a c e = cc

  -- up to a place, and the slot there
  module _ (slots : List OwnSlot) (i : ℕ) (d : OwnSlot) (w : i < length slots) (starts : List ℤ) (are : AreHiddenStarts (take i slots) history part starts) where
    pub starts_pass : IsHiddenStart history part (slot_of (get_or slots i d)) None → AreHiddenStarts (take (i + 1) slots) history part starts
    starts_pass none = subst (λ (l : List OwnSlot). AreHiddenStarts l history part starts) (sym (take_more slots i d w)) (pass (take i slots) (get_or slots i d) starts are none)

    pub starts_push : (start : ℤ) (new : List ℤ) → IsHiddenStart history part (slot_of (get_or slots i d)) (Some start) → new ≡ starts ++ start ∷ [] → AreHiddenStarts (take (i + 1) slots) history part new
    starts_push start new is e = subst (λ (l : List OwnSlot). AreHiddenStarts l history part new) (sym (take_more slots i d w)) (push (take i slots) (get_or slots i d) starts are start new is e)

-- ---- what is left of a series

pub series_without : (slots : List OwnSlot) (history : List Part) (part : Part) (series left : Series) (starts : List ℤ) → AreKnownByStart (series_said series) → AreHiddenStarts slots history part starts
    → IsSeriesWithout (series_said series) starts (series_said left) → IsSeriesLeft (is_hidden_by slots history part) (Some series) (Some left)
series_without slots history part series left starts known are is b = (
  λ inside.
      let both = (is.instances b).0 inside in
      (both.0, false_from_ne_true _ (λ hidden. both.1 (subst (Contains starts) (known.slots b both.0) ((are b).1 hidden)))),
  λ both. (is.instances b).1 (both.0, λ c. both_ways _ both.1 ((are b).0 (subst (Contains starts) (sym (known.slots b both.0)) c))),
)

-- where no slot hides a start, all of it is
pub series_whole : (hides : Instance → Bool) (series : Series) → ((b : Instance) → IsInstance (series_said series) b → hides b ≡ false) → IsSeriesLeft hides (Some series) (Some series)
series_whole hides series none b = (λ inside. (inside, none b inside), λ both. both.0)

-- no slot hides one, and one more slot that doesn't
pub none_before : (history : List Part) (part : Part) (b : Instance) → is_hidden_by [] history part b ≡ false
none_before history part b = refl

pub none_hidden : (slots : List OwnSlot) (i : ℕ) (d : OwnSlot) → i < length slots → (history : List Part) (part : Part) (b : Instance) → is_hidden_by (take i slots) history part b ≡ false
    → (slot_of (get_or slots i d) ≡ At b.key.slot → is_hidden history part b ≡ false) → is_hidden_by (take (i + 1) slots) history part b ≡ false
none_hidden slots i d w history part b before this =
    subst (λ (l : List OwnSlot). is_hidden_by l history part b ≡ false) (sym (take_more slots i d w)) (false_from_ne_true _ (λ e.
    let both = and_parts _ _ e in
    elim (touched_push (take i slots) (get_or slots i d) b.key.slot both.0) [
      | inl old ↦ both_ways _ before (and_from _ _ old both.1)
      | inr new ↦ both_ways _ (this new) both.1
    ]))

-- one slot hides one
pub one_hidden : (slots : List OwnSlot) (i : ℕ) (d : OwnSlot) → i < length slots → (history : List Part) (part : Part) (series : Series) (b : Instance) → IsInstance (series_said series) b
    → slot_of (get_or slots i d) ≡ At b.key.slot → is_hidden history part b ≡ true → (o : Option Series) → o ≡ Some series → HidesOneOf (is_hidden_by slots history part) (option_to_list o)
one_hidden slots i d w history part series b inside at hidden o e =
    let slot = get_or slots i d in
    let touches : OwnSlot → Bool = λ own. is_eq (slot_cmp (slot_of own) (At b.key.slot)) in
    let touched = any_from touches slots slot (i, w, get_or_default slots i slot d w) (slot_from (slot_of slot) (At b.key.slot) at) in
    subst (λ (x : Option Series). HidesOneOf (is_hidden_by slots history part) (option_to_list x)) (sym e)
    (record { series = series; among = in_head series []; booked = b; is = inside; hidden = and_from _ _ touched hidden })

-- ---- all slots that are held

-- what hides an instance is held, so that its slot is one of them
pub hidden_held : (held history : List Part) → RepresentsHistory held history → (slots : List OwnSlot) → ((p : Part) → Contains held p → Contains (map slot_of slots) p.slot) → (part : Part) (b : Instance)
    → is_hidden_by slots history part b ≡ is_hidden history part b
hidden_held held history represented slots of part b = at_test (is_touched slots (At b.key.slot)) (is_hidden history part b) touched
  where
    hides : Part → Bool
    hides other = in_view history other && same_place other (record part { slot = At b.key.slot })

    touched : is_hidden history part b ≡ true → is_touched slots (At b.key.slot) ≡ true
    touched hidden =
        let found = any_at hides history (and_parts (is_whole part) (list_any hides history) hidden).1 in
        let both = and_parts (in_view history found.0) (same_place found.0 (record part { slot = At b.key.slot })) found.2 in
        let slot : found.0.slot ≡ At b.key.slot = slot_same found.0.slot (At b.key.slot) (then_equal (meeting_cmp found.0 part) (slot_cmp found.0.slot (At b.key.slot)) (is_eq_true (place_cmp found.0 (record part { slot = At b.key.slot })) both.1)).1 in
        let inside : Contains (map slot_of slots) (At b.key.slot) = subst (Contains (map slot_of slots)) slot (of found.0 (in_view_at held history represented found.0 both.0).0) in
        let own = map_at slot_of slots (At b.key.slot) inside in
        any_from (λ x. is_eq (slot_cmp (slot_of x) (At b.key.slot))) slots own.0 own.1 (slot_from (slot_of own.0) (At b.key.slot) own.2)

    at_test : (t h : Bool) → (h ≡ true → t ≡ true) → (t && h) ≡ h
    at_test true h f = refl
    at_test false true f = absurd (true≢false (sym (f refl)))
    at_test false false f = refl

-- the same starts hidden, the same is left
pub left_same : (hides others : Instance → Bool) (before after : Option Series) → ((b : Instance) → hides b ≡ others b) → IsSeriesLeft hides before after → IsSeriesLeft others before after
left_same hides others None None same is = tt
left_same hides others None (Some left) same is = is
left_same hides others (Some series) None same is = is
left_same hides others (Some series) (Some left) same is = λ b. (
  λ inside. let both = (is b).0 inside in (both.0, sym (same b) ∙ both.1),
  λ both. (is b).1 (both.0, same b ∙ both.1),
)
