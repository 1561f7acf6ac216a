-- Places among answers by their slots: what is before them and after them, what is taken out between two, and one that is put in.
-- Cited by Meeting::take of kept, put of kept, take_out of kept, take_out_of of kept, answer_of of slots, answers_of of slots and 3 more.
use Rattle.std.proofs.Common.{◌≡◌, ◌∙◌, ℕ, ◌+◌, ◌-◌, ◌<◌, ◌≤◌, Bool, true, false, not, ◌||◌, cond, List, [], ◌∷◌, ◌++◌, length, get_or, take, drop, inl, inr, None, Some, refl, sym, ap, subst, arith, append-nil}
use Rattle.std.specs.Prelude.{slice_get, OnErr, OnOk, Result, Ok, Err}
use Rattle.std.proofs.lemmas.Option.{slice_get_within, get_or_from_slice_get}
use Rattle.itip_order.specs.Parts.{slot_of}
use Rattle.std.specs.declared.cmp.Ordering.{Ordering}
use Rattle.std.specs.declared.cmp.Ordering.TheVariants.{Less, Equal, Greater}
use Rattle.std.specs.List.{Contains, filter, remove}
use Rattle.std.specs.List.Sorted.{IsNonDecreasingBy, IsPartitionedBy, IsPartitionPoint, IsSortedByKey}
use Rattle.std.specs.Ordering.{is_eq, is_le, is_lt, ordering_index, ordering_reverse}
use Rattle.std.proofs.lemmas.Bool.{true≢false, both_ways, cases_lt}
use Rattle.std.proofs.Math.Seq.{take-add}
use Rattle.std.proofs.lemmas.List.{drop-drop, take-append-drop, get_or-take, get_or-drop, get_or_default, length-take-le, length-drop}
use Rattle.std.proofs.lemmas.List.Elements.{Contains-append_left, Contains-append_right, filter-append}
use Rattle.std.proofs.lemmas.List.Sorted.{searchable_from_sorted, sorted_far, ranks_by}
use Rattle.itip_order.proofs.Lists.{in_cons, filter_at, filter_from, none_in_nil}
use Rattle.room_books.proofs.shared_lemmas.AcceptedSlots.{slot_from, slot_same}
use Rattle.itip_order.proofs.Order.{slot_total}
use Rattle.profile.specs.rooms.Revisions.{Slot, slot_cmp}
use Rattle.room_books.specs.declared.meeting.PartAnswer.{PartAnswer}
use Rattle.room_books.specs.Slots.{slot_in, AreAnswersBySlot, Reordered, is_at, is_below, is_up_to, left_without, IsSplitAt, is_touched}
use Rattle.itip_order.specs.declared.part.Slot.{Slot as OwnSlot}
use Rattle.room_books.proofs.shared_lemmas.Loops.{one_more}
use Rattle.std.proofs.lemmas.List.Edits.{remove-append_right}
use Rattle.std.proofs.lemmas.List.Folds.{list_any-append}
use Rattle.room_books.specs.Room.{Pairwise}
use Rattle.room_books.proofs.room_lemmas.Meetings.{filter_none}
use Rattle.room_books.proofs.change_lemmas.Own.{filter_all}
use Rattle.room_books.proofs.shared_lemmas.Pairs.{pairs_append, pairs_filter, pairs_from}
use Rattle.room_books.proofs.shared_lemmas.Parts.{pairs_across, pairs_left, pairs_right, pairs_to}
use Rattle.room_books.proofs.shared_lemmas.Reordering.{re_back, re_middle}

-- ---- the order, pair by pair

abbrev pub NotAboveBy : {X : Type 0} → (X → Slot) → X → X → Type 0
NotAboveBy key a b = is_lt (slot_cmp (key b) (key a)) ≡ false

pub sorted_pairs : {X : Type 0} (key : X → Slot) (xs : List X) → IsSortedByKey key slot_cmp xs → Pairwise (NotAboveBy key) xs
sorted_pairs key xs up =
    pairs_to (NotAboveBy key) xs (λ i j d less within. sorted_far (λ x y. is_lt (slot_cmp (key x) (key y))) (ranks_by slot_total key) xs up i j d (omega (arith, less)) within)

pub pairs_sorted : {X : Type 0} (key : X → Slot) (xs : List X) → Pairwise (NotAboveBy key) xs → IsSortedByKey key slot_cmp xs
pairs_sorted key xs p k d low within = pairs_from (NotAboveBy key) xs p k (k + 1) d (omega arith) within

abbrev NotAbove : PartAnswer → PartAnswer → Type 0
NotAbove a b = NotAboveBy slot_in a b

pub pairs_of : (answers : List PartAnswer) → AreAnswersBySlot answers → Pairwise NotAbove answers
pairs_of answers up = sorted_pairs slot_in answers up

pub by_slot_of : (answers : List PartAnswer) → Pairwise NotAbove answers → AreAnswersBySlot answers
by_slot_of answers p = pairs_sorted slot_in answers p

pub by_slot_filter : (f : PartAnswer → Bool) (answers : List PartAnswer) → AreAnswersBySlot answers → AreAnswersBySlot (filter f answers)
by_slot_filter f answers up = by_slot_of (filter f answers) (pairs_filter NotAbove f answers (pairs_of answers up))

-- ---- places

lower : (x y : Ordering) → ordering_index x ≤ ordering_index y → is_lt y ≡ true → is_lt x ≡ true
lower Less y l h = refl
lower Equal Less l h = absurd (omega (arith, l))
lower Equal Equal l h = h
lower Equal Greater l h = h
lower Greater Less l h = absurd (omega (arith, l))
lower Greater Equal l h = h
lower Greater Greater l h = h

no_higher : (x y : Ordering) → ordering_index x ≤ ordering_index y → is_le y ≡ true → is_le x ≡ true
no_higher Less y l h = refl
no_higher Equal y l h = refl
no_higher Greater Less l h = absurd (omega (arith, l))
no_higher Greater Equal l h = absurd (omega (arith, l))
no_higher Greater Greater l h = h

module _ (answers : List PartAnswer) (up : AreAnswersBySlot answers) (slot : Slot) where
  rises : IsNonDecreasingBy (λ y. ordering_index (slot_cmp (slot_in y) slot)) answers
  rises = searchable_from_sorted slot_total slot_in answers slot up

  pub below_parted : IsPartitionedBy (is_below slot) answers
  below_parted i j d a b h = lower (slot_cmp (slot_in (get_or answers i d)) slot) (slot_cmp (slot_in (get_or answers j d)) slot) (rises i j d a b) h

  pub up_to_parted : IsPartitionedBy (is_up_to slot) answers
  up_to_parted i j d a b h = no_higher (slot_cmp (slot_in (get_or answers i d)) slot) (slot_cmp (slot_in (get_or answers j d)) slot) (rises i j d a b) h

pub place_from : (test : PartAnswer → Bool) (answers : List PartAnswer) (place : ℕ) → place ≤ length answers → IsPartitionPoint (λ g. test g ≡ true) (λ g. test g ≡ false) answers place → IsSplitAt test answers place
place_from test answers place within point = record {
  within = within;
  before = λ g c.
      let n = length-take-le place answers within in
      let l : c.0 < place = (let x = c.1 in omega (arith, n)) in
      subst (λ (z : PartAnswer). test z ≡ true) (sym (get_or-take place answers c.0 g l) ∙ c.2) (point.0 c.0 g (omega arith) l);
  after = λ g c.
      let n = length-drop place answers in
      let l : place + c.0 < length answers = (let x = c.1 in omega (arith, n, within)) in
      subst (λ (z : PartAnswer). test z ≡ false) (sym (get_or-drop place answers c.0 g) ∙ c.2) (point.1 (place + c.0) g (omega arith) l);
}

-- ---- between two places

lt_le : (o : Ordering) → is_lt o ≡ true → is_le o ≡ true
lt_le Less h = refl
lt_le Equal h = absurd (true≢false (sym h))
lt_le Greater h = absurd (true≢false (sym h))

lt_not_eq : (o : Ordering) → is_lt o ≡ true → is_eq o ≡ false
lt_not_eq Less h = refl
lt_not_eq Equal h = absurd (true≢false (sym h))
lt_not_eq Greater h = refl

le_eq : (o : Ordering) → is_lt o ≡ false → is_le o ≡ true → is_eq o ≡ true
le_eq Less h k = absurd (true≢false h)
le_eq Equal h k = refl
le_eq Greater h k = absurd (true≢false (sym k))

gt_not_eq : (o : Ordering) → is_le o ≡ false → is_eq o ≡ false
gt_not_eq Less h = absurd (true≢false h)
gt_not_eq Equal h = absurd (true≢false h)
gt_not_eq Greater h = refl

module _ (answers : List PartAnswer) (slot : Slot) (from to : ℕ) (first : IsSplitAt (is_below slot) answers from) (past : IsSplitAt (is_up_to slot) answers to) where
  clash : (d : PartAnswer) → to < from → ⊥
  clash d less =
      let within = first.within in
      let l : to < length answers = omega (arith, less, within) in
      let early : Contains (take from answers) (get_or answers to d) = (to, (let n = length-take-le from answers within in omega (arith, n, less)), again (take from answers) to (get_or answers to d) d (let n = length-take-le from answers within in omega (arith, n, less)) (get_or-take from answers to d less)) in
      let late : Contains (drop to answers) (get_or answers to d) = (0, (let n = length-drop to answers in omega (arith, n, l)), again (drop to answers) 0 (get_or answers to d) d (let n = length-drop to answers in omega (arith, n, l)) (get_or-drop to answers 0 d ∙ ap (λ n. get_or answers n d) plus_none)) in
      both_ways _ (past.after (get_or answers to d) late) (lt_le (slot_cmp (slot_in (get_or answers to d)) slot) (first.before (get_or answers to d) early))
    where
      again : (xs : List PartAnswer) (k : ℕ) (x d : PartAnswer) → k < length xs → get_or xs k d ≡ x → get_or xs k x ≡ x
      again xs k x d lt e = get_or_default xs k x d lt ∙ e

      plus_none : to + 0 ≡ to
      plus_none = omega arith

  pub in_order : from ≤ to
  in_order = elim (cases_lt to from) [
    | inl less ↦ absurd (clash (element answers to (let within = first.within in omega (arith, less, within))) less)
    | inr from_on ↦ from_on
  ]
    where
      element : (xs : List PartAnswer) (k : ℕ) → k < length xs → PartAnswer
      element [] k lt = absurd (omega arith)
      element (x ∷ xs) k lt = x

  rejoined : from + (to - from) ≡ to
  rejoined = let h = in_order in omega (arith, h)

  abbrev between : List PartAnswer
  between = take (to - from) (drop from answers)

  middle : drop from answers ≡ between ++ drop to answers
  middle = sym (take-append-drop (to - from) (drop from answers)) ∙ ap (λ l. between ++ l) (drop-drop (to - from) from answers ∙ ap (λ n. drop n answers) rejoined)

  whole : answers ≡ take from answers ++ (between ++ drop to answers)
  whole = sym (take-append-drop from answers) ∙ ap (λ l. take from answers ++ l) middle

  before_not : (g : PartAnswer) → Contains (take from answers) g → is_at slot g ≡ false
  before_not g c = lt_not_eq (slot_cmp (slot_in g) slot) (first.before g c)

  after_not : (g : PartAnswer) → Contains (drop to answers) g → is_at slot g ≡ false
  after_not g c = gt_not_eq (slot_cmp (slot_in g) slot) (past.after g c)

  between_is : (g : PartAnswer) → Contains between g → is_at slot g ≡ true
  between_is g c =
      le_eq (slot_cmp (slot_in g) slot)
      (first.after g (subst (λ (l : List PartAnswer). Contains l g) (sym middle) (Contains-append_left between (drop to answers) g c)))
      (past.before g (subst (λ (l : List PartAnswer). Contains l g) (sym front) (Contains-append_right (take from answers) between g c)))
    where
      front : take to answers ≡ take from answers ++ between
      front = ap (λ n. take n answers) (sym rejoined) ∙ take-add from (to - from) answers

  -- they are those of the slot
  pub between_at : between ≡ filter (is_at slot) answers
  between_at =
      let test = is_at slot in
      sym (ap (filter test) whole ∙ filter-append test (take from answers) (between ++ drop to answers) ∙ ap (λ l. l ++ filter test (between ++ drop to answers)) (filter_none test (take from answers) before_not)
      ∙ filter-append test between (drop to answers) ∙ ap (λ l. filter test between ++ l) (filter_none test (drop to answers) after_not) ∙ append-nil (filter test between) ∙ filter_all test between between_is)

  -- and the others are of other slots
  pub others_at : take from answers ++ drop to answers ≡ filter (λ g. not (is_at slot g)) answers
  others_at =
      let test : PartAnswer → Bool = λ g. not (is_at slot g) in
      sym (ap (filter test) whole ∙ filter-append test (take from answers) (between ++ drop to answers)
      ∙ ap (λ l. l ++ filter test (between ++ drop to answers)) (filter_all test (take from answers) (λ g c. ap not (before_not g c)))
      ∙ ap (λ l. take from answers ++ l) (filter-append test between (drop to answers) ∙ ap (λ l. l ++ filter test (drop to answers)) (filter_none test between (λ g c. ap not (between_is g c)))
      ∙ filter_all test (drop to answers) (λ g c. ap not (after_not g c))))

-- ---- one more

le_not_above : (o r : Ordering) → r ≡ ordering_reverse o → is_le o ≡ true → is_lt r ≡ false
le_not_above Less r e h = ap is_lt e
le_not_above Equal r e h = ap is_lt e
le_not_above Greater r e h = absurd (true≢false (sym h))

gt_not_lt : (o : Ordering) → is_le o ≡ false → is_lt o ≡ false
gt_not_lt Less h = absurd (true≢false h)
gt_not_lt Equal h = refl
gt_not_lt Greater h = refl

pub put_by_slot : (answers : List PartAnswer) (y : PartAnswer) (place : ℕ) → AreAnswersBySlot answers → IsSplitAt (is_up_to (slot_in y)) answers place → AreAnswersBySlot (take place answers ++ y ∷ drop place answers)
put_by_slot answers y place up at =
    let a = take place answers in
    let b = drop place answers in
    let split = subst (Pairwise NotAbove) (sym (take-append-drop place answers)) (pairs_of answers up) in
    by_slot_of (a ++ y ∷ b)
    (pairs_append NotAbove a (y ∷ b) (pairs_left NotAbove a b split) ((λ z c. gt_not_lt (slot_cmp (slot_in z) (slot_in y)) (at.after z c)), pairs_right NotAbove a b split)
    (λ x z c k. elim (in_cons y b z k) [
      | inl here ↦ subst (NotAbove x) here (le_not_above (slot_cmp (slot_in x) (slot_in y)) (slot_cmp (slot_in y) (slot_in x)) (slot_total.antisymm (slot_in y) (slot_in x)) (at.before x c))
      | inr there ↦ pairs_across NotAbove a b split x z c there
    ]))

pub put_reordered : (answers : List PartAnswer) (y : PartAnswer) (place : ℕ) → Reordered (y ∷ answers) (take place answers ++ y ∷ drop place answers)
put_reordered answers y place =
    subst (λ (l : List PartAnswer). Reordered (y ∷ l) (take place answers ++ y ∷ drop place answers)) (take-append-drop place answers)
    (re_back (take place answers ++ y ∷ drop place answers) (y ∷ (take place answers ++ drop place answers)) (re_middle (take place answers) y (drop place answers)))

-- ---- the first of a slot

pub first_at : (answers : List PartAnswer) (slot : Slot) (own : List PartAnswer) (given : PartAnswer) → own ≡ filter (is_at slot) answers → Some given ≡ slice_get own 0 → Contains answers given × (slot_of given.slot ≡ slot)
first_at answers slot own given is at =
    let here : Contains own given = (0, slice_get_within own 0 given (sym at), get_or_from_slice_get own 0 given given (sym at)) in
    let found = filter_at (is_at slot) answers given (subst (λ (l : List PartAnswer). Contains l given) is here) in
    (found.0, slot_same (slot_of given.slot) slot found.1)

pub none_at : (answers : List PartAnswer) (slot : Slot) (own : List PartAnswer) → own ≡ filter (is_at slot) answers → None ≡ slice_get own 0 → (given : PartAnswer) → Contains answers given → slot_of given.slot ≡ slot → ⊥
none_at answers slot own is none given c same =
    empty own none given (subst (λ (l : List PartAnswer). Contains l given) (sym is) (filter_from (is_at slot) answers given c (slot_from (slot_of given.slot) slot same)))
  where
    empty : (l : List PartAnswer) → None ≡ slice_get l 0 → (g : PartAnswer) → Contains l g → ⊥
    empty [] e g k = none_in_nil g k
    empty (x ∷ l) e g k = absurd (cc)

-- ---- taken out one after another

pub one_out : (xs : List PartAnswer) (m p : ℕ) → m ≤ p → p < length xs → remove (take m xs ++ drop p xs) m ≡ take m xs ++ drop (p + 1) xs
one_out xs m p h w =
    remove-append_right (take m xs) (drop p xs) m m (length-take-le m xs (omega (arith, h, w))) (omega arith)
    ∙ ap (λ n. take m xs ++ remove (drop p xs) n) none_left ∙ ap (λ l. take m xs ++ l) (drop-drop 1 p xs)
  where
    none_left : m - m ≡ 0
    none_left = omega arith

-- one more slot
pub without_more : (slots : List OwnSlot) (slot : OwnSlot) (i : ℕ) (old mid new : List PartAnswer) → i < length slots → slot ≡ get_or slots i slot → mid ≡ left_without (take i slots) old
    → new ≡ filter (λ g. not (is_at (slot_of slot) g)) mid → new ≡ left_without (take (i + 1) slots) old
without_more slots slot i old mid new w is before after =
    after ∙ ap (filter (λ g. not (is_at (slot_of slot) g))) before ∙ both old ∙ ap (λ l. left_without l old) (sym (one_more slots i slot w is))
  where
    touched : OwnSlot → PartAnswer → Bool
    touched own g = is_eq (slot_cmp (slot_of own) (slot_of g.slot))

    turned : (g : PartAnswer) → is_at (slot_of slot) g ≡ is_touched (slot ∷ []) (slot_of g.slot)
    turned g = same_ways (is_eq (slot_cmp (slot_of g.slot) (slot_of slot))) (is_touched (slot ∷ []) (slot_of g.slot)) (λ h. or_from_left _ _ (slot_from (slot_of slot) (slot_of g.slot) (sym (slot_same (slot_of g.slot) (slot_of slot) h))))
        (λ h. slot_from (slot_of g.slot) (slot_of slot) (sym (slot_same (slot_of slot) (slot_of g.slot) (one_of _ h))))
      where
        one_of : (b : Bool) → (b || false) ≡ true → b ≡ true
        one_of true h = refl
        one_of false h = h

        or_from_left : (a b : Bool) → a ≡ true → (a || b) ≡ true
        or_from_left true b e = refl
        or_from_left false b e = absurd (true≢false (sym e))

        same_ways : (a b : Bool) → (a ≡ true → b ≡ true) → (b ≡ true → a ≡ true) → a ≡ b
        same_ways true b f h = sym (f refl)
        same_ways false true f h = h refl
        same_ways false false f h = refl

    both : (xs : List PartAnswer) → filter (λ g. not (is_at (slot_of slot) g)) (left_without (take i slots) xs) ≡ left_without (take i slots ++ slot ∷ []) xs
    both [] = refl
    both (x ∷ xs) =
        step (is_touched (take i slots) (slot_of x.slot)) (is_at (slot_of slot) x) (left_without (take i slots) xs) (left_without (take i slots ++ slot ∷ []) xs) refl (both xs)
        ∙ sym (ap (λ b. cond (not b) (x ∷ left_without (take i slots ++ slot ∷ []) xs) (left_without (take i slots ++ slot ∷ []) xs))
        (list_any-append (λ own. touched own x) (take i slots) (slot ∷ []) ∙ ap (λ b. is_touched (take i slots) (slot_of x.slot) || b) (sym (turned x))))
      where
        step : (t a : Bool) (l m : List PartAnswer) → is_at (slot_of slot) x ≡ a → filter (λ g. not (is_at (slot_of slot) g)) l ≡ m
            → filter (λ g. not (is_at (slot_of slot) g)) (cond (not t) (x ∷ l) l) ≡ cond (not (t || a)) (x ∷ m) m
        step true a l m e h = h
        step false a l m e h = ap (λ b. cond (not b) (x ∷ filter (λ g. not (is_at (slot_of slot) g)) l) (filter (λ g. not (is_at (slot_of slot) g)) l)) e ∙ ap (λ k. cond (not a) (x ∷ k) k) h

pub without_none : (old : List PartAnswer) → old ≡ left_without [] old
without_none [] = refl
without_none (x ∷ old) = ap (λ l. x ∷ l) (without_none old)

-- what a result says where it can't be an error
pub ok_of : {A E : Type 0} (r : Result A E) (P Q : Type 0) → OnOk r P → OnErr r Q → (Q → ⊥) → P
ok_of (Ok a) P Q p q n = p
ok_of (Err e) P Q p q n = absurd (n q)
