-- Answers and slots, both in order, gone through once: each slot is looked for after what was found.
-- Cited by answers_at.
use Rattle.std.proofs.Common.{◌≡◌, ◌∙◌, ℕ, ◌+◌, ◌<◌, ◌≤◌, Bool, true, false, ◌||◌, List, [], ◌∷◌, ◌++◌, length, get_or, take, drop, inl, inr, refl, sym, ap, subst, append-nil, append_assoc}
use Rattle.std.specs.declared.cmp.Ordering.{Ordering}
use Rattle.std.specs.declared.cmp.Ordering.TheVariants.{Less, Equal, Greater}
use Rattle.std.specs.List.{Contains, filter}
use Rattle.std.specs.List.Sorted.{IsSortedByKey}
use Rattle.std.specs.Ordering.{is_eq, is_le, is_lt}
use Rattle.std.proofs.lemmas.Bool.{both_ways, cases_Bool, false_from_ne_true, true≢false}
use Rattle.std.proofs.lemmas.List.{drop_more, get_or_default, take-append-drop, take_all}
use Rattle.std.proofs.lemmas.List.Elements.{Contains-append_left, Contains-append_right, Contains-get_or, filter-append}
use Rattle.std.proofs.lemmas.List.Folds.{list_any-append}
use Rattle.itip_order.specs.declared.part.Slot.{Slot as OwnSlot}
use Rattle.itip_order.specs.Parts.{slot_of}
use Rattle.itip_order.proofs.Lists.{any_at, any_from, in_cons}
use Rattle.profile.specs.rooms.Revisions.{Slot, slot_cmp}
use Rattle.room_books.specs.declared.meeting.PartAnswer.{PartAnswer}
use Rattle.room_books.specs.Slots.{AreAnswersBySlot, is_at, is_up_to, taken_at, IsSplitAt, is_touched}
use Rattle.room_books.specs.Room.{Pairwise}
use Rattle.room_books.proofs.shared_lemmas.AcceptedSlots.{slot_from, slot_same}
use Rattle.room_books.proofs.shared_lemmas.Loops.{one_more}
use Rattle.room_books.proofs.room_lemmas.Meetings.{filter_none, filter_same}
use Rattle.room_books.proofs.shared_lemmas.Parts.{pairs_right}
use Rattle.room_books.proofs.shared_lemmas.SlotPlaces.{NotAboveBy, by_slot_of, pairs_of, sorted_pairs}

-- with this many of the slots done: what was found, and what is left, of which none is of those slots
pub record IsWalked (slots : List OwnSlot) (i : ℕ) (answers rest are : List PartAnswer) : Type 0 where
  pub done : List PartAnswer
  pub whole : answers ≡ done ++ rest
  pub are_is : are ≡ taken_at slots done
  pub rises : AreAnswersBySlot rest
  pub ahead : (g : PartAnswer) → Contains rest g → is_touched (take i slots) (slot_of g.slot) ≡ false

pub walk_start : (slots : List OwnSlot) (answers : List PartAnswer) → AreAnswersBySlot answers → IsWalked slots 0 answers answers []
walk_start slots answers up = record { done = []; whole = refl; are_is = refl; rises = up; ahead = λ g c. refl }

le_not_eq : (o : Ordering) → is_le o ≡ true → is_eq o ≡ false → is_lt o ≡ true
le_not_eq Less h e = refl
le_not_eq Equal h e = absurd (true≢false e)
le_not_eq Greater h e = absurd (true≢false (sym h))

gt_not_eq : (o : Ordering) → is_le o ≡ false → is_eq o ≡ false
gt_not_eq Less h = absurd (true≢false h)
gt_not_eq Equal h = absurd (true≢false h)
gt_not_eq Greater h = refl

both_false : (a b : Bool) → a ≡ false → b ≡ false → (a || b) ≡ false
both_false true b e f = e
both_false false b e f = f

module _ (slots : List OwnSlot) (up : IsSortedByKey slot_of slot_cmp slots) (i : ℕ) (d : OwnSlot) (w : i < length slots) (answers rest are : List PartAnswer) (to : ℕ)
    (past : IsSplitAt (is_up_to (slot_of (get_or slots i d))) rest to) (walked : IsWalked slots i answers rest are) where
  abbrev s : OwnSlot
  s = get_or slots i d

  abbrev front : List PartAnswer
  front = take to rest

  abbrev back : List PartAnswer
  back = drop to rest

  both : front ++ back ≡ rest
  both = take-append-drop to rest

  in_front : (g : PartAnswer) → Contains front g → Contains rest g
  in_front g c = subst (λ (l : List PartAnswer). Contains l g) both (Contains-append_left front back g c)

  in_back : (g : PartAnswer) → Contains back g → Contains rest g
  in_back g c = subst (λ (l : List PartAnswer). Contains l g) both (Contains-append_right front back g c)

  later : Pairwise (NotAboveBy slot_of) (s ∷ drop (i + 1) slots)
  later = subst (Pairwise (NotAboveBy slot_of)) (drop_more slots i d w) (pairs_right (NotAboveBy slot_of) (take i slots) (drop i slots) (subst (Pairwise (NotAboveBy slot_of)) (sym (take-append-drop i slots)) (sorted_pairs slot_of slots up)))

  -- what is below the slot is of none of the later ones
  none_later : (g : PartAnswer) → is_le (slot_cmp (slot_of g.slot) (slot_of s)) ≡ true → is_at (slot_of s) g ≡ false → is_touched (drop i slots) (slot_of g.slot) ≡ false
  none_later g low other = false_from_ne_true _ (λ h.
      let test : OwnSlot → Bool = λ own. is_eq (slot_cmp (slot_of own) (slot_of g.slot)) in
      let found = any_at test (drop i slots) h in
      let same = slot_same (slot_of found.0) (slot_of g.slot) found.2 in
      elim (in_cons s (drop (i + 1) slots) found.0 (subst (λ (l : List OwnSlot). Contains l found.0) (drop_more slots i d w) found.1)) [
        | inl here ↦ both_ways _ other (slot_from (slot_of g.slot) (slot_of s) (sym same ∙ sym (ap slot_of here)))
        | inr rest_of ↦ both_ways _ (ap (λ (z : Slot). is_lt (slot_cmp z (slot_of s))) (sym same) ∙ later.0 found.0 rest_of) (le_not_eq (slot_cmp (slot_of g.slot) (slot_of s)) low other)
      ])

  touched_front : (g : PartAnswer) → Contains front g → is_touched slots (slot_of g.slot) ≡ is_at (slot_of s) g
  touched_front g c = elim (cases_Bool (is_at (slot_of s) g)) [
    | inl own ↦
        any_from (λ own. is_eq (slot_cmp (slot_of own) (slot_of g.slot))) slots s (Contains-get_or slots i d w) (slot_from (slot_of s) (slot_of g.slot) (sym (slot_same (slot_of g.slot) (slot_of s) own))) ∙ sym own
    | inr other ↦
        let test : OwnSlot → Bool = λ own. is_eq (slot_cmp (slot_of own) (slot_of g.slot)) in
        ap (λ l. is_touched l (slot_of g.slot)) (sym (take-append-drop i slots)) ∙ list_any-append test (take i slots) (drop i slots)
        ∙ both_false (is_touched (take i slots) (slot_of g.slot)) (is_touched (drop i slots) (slot_of g.slot)) (walked.ahead g (in_front g c)) (none_later g (past.before g c) other) ∙ sym other
  ]

  not_back : (g : PartAnswer) → Contains back g → is_at (slot_of s) g ≡ false
  not_back g c = gt_not_eq (slot_cmp (slot_of g.slot) (slot_of s)) (past.after g c)

  pub walk_more : IsWalked slots (i + 1) answers back (are ++ filter (is_at (slot_of s)) rest)
  walk_more = record {
    done = walked.done ++ front;
    whole = walked.whole ∙ ap (λ l. walked.done ++ l) (sym both) ∙ sym (append_assoc walked.done front back);
    are_is =
        let test : PartAnswer → Bool = is_at (slot_of s) in
        let found : filter test rest ≡ taken_at slots front =
        ap (filter test) (sym both) ∙ filter-append test front back ∙ ap (λ l. filter test front ++ l) (filter_none test back not_back) ∙ append-nil (filter test front)
        ∙ sym (filter_same (λ (g : PartAnswer). is_touched slots (slot_of g.slot)) test front touched_front) in
        (λ j. walked.are_is j ++ found j) ∙ sym (filter-append (λ (g : PartAnswer). is_touched slots (slot_of g.slot)) walked.done front);
    rises = by_slot_of back (pairs_right (NotAboveBy (λ (g : PartAnswer). slot_of g.slot)) front back (subst (Pairwise (NotAboveBy (λ (g : PartAnswer). slot_of g.slot))) (sym both) (pairs_of rest walked.rises)));
    ahead = λ g c.
        let test : OwnSlot → Bool = λ own. is_eq (slot_cmp (slot_of own) (slot_of g.slot)) in
        ap (λ l. is_touched l (slot_of g.slot)) (one_more slots i s w (get_or_default slots i d s w)) ∙ list_any-append test (take i slots) (s ∷ [])
        ∙ both_false (is_touched (take i slots) (slot_of g.slot)) (is_touched (s ∷ []) (slot_of g.slot)) (walked.ahead g (in_back g c)) (both_false (test s) false (turned g c) refl);
  }
    where
      turned : (g : PartAnswer) → Contains back g → is_eq (slot_cmp (slot_of s) (slot_of g.slot)) ≡ false
      turned g c = false_from_ne_true _ (λ e. both_ways _ (not_back g c) (slot_from (slot_of g.slot) (slot_of s) (sym (slot_same (slot_of s) (slot_of g.slot) e))))

pub walk_end : (slots : List OwnSlot) (i : ℕ) (answers rest are : List PartAnswer) → length slots ≤ i → IsWalked slots i answers rest are → are ≡ taken_at slots answers
walk_end slots i answers rest are h walked =
    let test : PartAnswer → Bool = λ (g : PartAnswer). is_touched slots (slot_of g.slot) in
    let none : filter test rest ≡ [] = filter_none test rest (λ g c. ap (λ l. is_touched l (slot_of g.slot)) (sym (take_all i slots h)) ∙ walked.ahead g c) in
    walked.are_is ∙ sym (append-nil (taken_at slots walked.done)) ∙ ap (λ l. taken_at slots walked.done ++ l) (sym none) ∙ sym (filter-append test walked.done rest) ∙ ap (filter test) (sym walked.whole)
