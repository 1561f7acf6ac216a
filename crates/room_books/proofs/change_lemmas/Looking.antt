-- The slots at which answers are looked at, and those whose answers don't stay as they are.
-- Cited by confirms_all, looked_at, lost.
use Rattle.std.proofs.Common.{◌≡◌, ◌∙◌, ℕ, ◌+◌, ◌<◌, Bool, true, false, ◌||◌, List, [], ◌∷◌, ◌++◌, length, get_or, take, drop, map, inl, inr, Some, refl, sym, subst, append_assoc}
use Rattle.std.specs.List.{Contains}
use Rattle.std.specs.List.Sorted.{IsSortedByKey}
use Rattle.std.specs.Ordering.{is_eq, is_lt}
use Rattle.std.proofs.lemmas.Bool.{cases_Bool, true≢false}
use Rattle.std.proofs.lemmas.List.{drop_more}
use Rattle.std.proofs.lemmas.List.Folds.{list_any-append}
use Rattle.itip_order.specs.declared.part.Slot.{Slot as OwnSlot}
use Rattle.itip_order.specs.declared.part.Slot.TheVariants as own
use Rattle.itip_order.specs.Parts.{slot_of}
use Rattle.itip_order.proofs.Lists.{any_from, in_cons, in_head, in_tail, none_in_nil}
use Rattle.std.proofs.lemmas.List.Elements.{Contains-append_cases}
use Rattle.room_books.proofs.shared_lemmas.Loops.{one_more}
use Rattle.profile.specs.rooms.Revisions as revisions
use Rattle.profile.specs.rooms.Revisions.{Part, Whole, At, slot_cmp}
use Rattle.room_books.specs.declared.meeting.PartAnswer.{PartAnswer}
use Rattle.room_books.specs.Slots.{AreAnswersBySlot, slot_in, is_touched, IsUntouched}
use Rattle.room_books.specs.Room.{Pairwise}
use Rattle.room_books.specs.Taking.{IsLeftAlone, IsAnswerAfter, LeavesAll}
use Rattle.room_books.proofs.shared_lemmas.AcceptedSlots.{slot_from, slot_same}
use Rattle.room_books.proofs.shared_lemmas.Pairs.{map_at, map_from}
use Rattle.room_books.proofs.shared_lemmas.SlotPlaces.{NotAboveBy, pairs_of, pairs_sorted, sorted_pairs}

-- in order, and what is of none of these slots is left alone
pub record AreLost (slots : List OwnSlot) (before after : List Part) (part : Part) (answers : List PartAnswer) (lost : List OwnSlot) : Type 0 where
  pub rises : Pairwise (NotAboveBy slot_of) lost
  pub others : (given : PartAnswer) → Contains answers given → is_touched lost (slot_of given.slot) ≡ false → IsLeftAlone slots before after part given

there : {X : Type 0} (us : List X) (u : X) (vs : List X) (y : X) → Contains (us ++ vs) y → Contains (us ++ u ∷ vs) y
there [] u vs y c = in_tail u vs y c
there (w ∷ us) u vs y c = elim (in_cons w (us ++ vs) y c) [ inl here ↦ subst (Contains (w ∷ (us ++ u ∷ vs))) here (in_head w (us ++ u ∷ vs)) | inr rest ↦ in_tail w (us ++ u ∷ vs) y (there us u vs y rest) ]

-- one of them less, whose answers stay
without_one : {X : Type 0} (R : X → X → Type 0) (xs : List X) (x : X) (ys : List X) → Pairwise R (xs ++ x ∷ ys) → Pairwise R (xs ++ ys)
without_one R [] x ys p = p.1
without_one R (w ∷ xs) x ys p = (λ y c. p.0 y (there xs x ys y c), without_one R xs x ys p.1)

or_false : (a b c : Bool) → b ≡ false → (a || c) ≡ false → (a || (b || c)) ≡ false
or_false true b c e f = f
or_false false true c e f = absurd (true≢false e)
or_false false false c e f = f

-- touched by these, by one more or by none
touched_one : (xs : List OwnSlot) (x : OwnSlot) (ys : List OwnSlot) (slot : revisions.Slot) → is_eq (slot_cmp (slot_of x) slot) ≡ false → is_touched (xs ++ ys) slot ≡ false → is_touched (xs ++ x ∷ ys) slot ≡ false
touched_one xs x ys slot e f =
    let test : OwnSlot → Bool = λ own. is_eq (slot_cmp (slot_of own) slot) in
    list_any-append test xs (x ∷ ys) ∙ or_false (is_touched xs slot) (test x) (is_touched ys slot) e (sym (list_any-append test xs ys) ∙ f)

module _ (slots : List OwnSlot) (before after : List Part) (part : Part) (answers : List PartAnswer) where
  pub lost_less : (xs : List OwnSlot) (x : OwnSlot) (ys : List OwnSlot) → AreLost slots before after part answers (xs ++ x ∷ ys)
      → ((given : PartAnswer) → Contains answers given → slot_of given.slot ≡ slot_of x → IsAnswerAfter slots before after part given (Some given)) → AreLost slots before after part answers (xs ++ ys)
  lost_less xs x ys are stays = record {
    rises = without_one (NotAboveBy slot_of) xs x ys are.rises;
    others = λ given c untouched. elim (cases_Bool (is_eq (slot_cmp (slot_of x) (slot_of given.slot)))) [
      | inl same ↦ inr (stays given c (sym (slot_same (slot_of x) (slot_of given.slot) same)))
      | inr other ↦ are.others given c (touched_one xs x ys (slot_of given.slot) other untouched)
    ];
  }

  -- a slot that is passed over, and one that is pushed
  pub lost_pass : (looked lost : List OwnSlot) (i : ℕ) (d : OwnSlot) → i < length looked → AreLost slots before after part answers (lost ++ drop i looked)
      → ((given : PartAnswer) → Contains answers given → slot_of given.slot ≡ slot_of (get_or looked i d) → IsAnswerAfter slots before after part given (Some given)) → AreLost slots before after part answers (lost ++ drop (i + 1) looked)
  lost_pass looked lost i d w are stays =
      lost_less lost (get_or looked i d) (drop (i + 1) looked) (subst (λ (l : List OwnSlot). AreLost slots before after part answers (lost ++ l)) (drop_more looked i d w) are) stays

  pub lost_push : (looked lost new : List OwnSlot) (i : ℕ) (d : OwnSlot) → i < length looked → new ≡ lost ++ get_or looked i d ∷ [] → AreLost slots before after part answers (lost ++ drop i looked) → AreLost slots before after part answers (new ++ drop (i + 1) looked)
  lost_push looked lost new i d w is are =
      subst (λ (l : List OwnSlot). AreLost slots before after part answers (l ++ drop (i + 1) looked)) (sym is)
      (subst (AreLost slots before after part answers) (sym (append_assoc lost (get_or looked i d ∷ []) (drop (i + 1) looked)))
      (subst (λ (l : List OwnSlot). AreLost slots before after part answers (lost ++ l)) (drop_more looked i d w) are))

  -- all that are looked at
  pub lost_all : (looked : List OwnSlot) → IsSortedByKey slot_of slot_cmp looked → ((given : PartAnswer) → Contains answers given → is_touched looked (slot_of given.slot) ≡ false → IsUntouched slots (slot_of given.slot))
      → AreLost slots before after part answers looked
  lost_all looked rises others = record { rises = sorted_pairs slot_of looked rises; others = λ given c h. inl (others given c h) }

-- one more answer that confirms all that it did
pub one_confirms : (slots : List OwnSlot) (history : List Part) (part : Part) (answers : List PartAnswer) (i : ℕ) (given : PartAnswer) → i < length answers → given ≡ get_or answers i given
    → ((g : PartAnswer) → Contains (take i answers) g → LeavesAll slots history part g) → LeavesAll slots history part given → (g : PartAnswer) → Contains (take (i + 1) answers) g → LeavesAll slots history part g
one_confirms slots history part answers i given w is before this g c =
    elim (Contains-append_cases (take i answers) (given ∷ []) g (subst (λ (l : List PartAnswer). Contains l g) (one_more answers i given w is) c)) [
      | inl old ↦ before g old
      | inr new ↦ elim (in_cons given [] g new) [
        | inl here ↦ subst (LeavesAll slots history part) here this
        | inr none ↦ absurd (none_in_nil g none)
      ]
    ]

-- ---- what is looked at

-- the slots of all answers
pub slots_rise : (answers : List PartAnswer) → AreAnswersBySlot answers → IsSortedByKey slot_of slot_cmp (map (λ (given : PartAnswer). given.slot) answers)
slots_rise answers up = pairs_sorted slot_of (map (λ (given : PartAnswer). given.slot) answers) (mapped answers (pairs_of answers up))
  where
    mapped : (xs : List PartAnswer) → Pairwise (NotAboveBy slot_in) xs → Pairwise (NotAboveBy slot_of) (map (λ (given : PartAnswer). given.slot) xs)
    mapped [] p = tt
    mapped (x ∷ xs) p = (λ s c. let r = map_at (λ (given : PartAnswer). given.slot) xs s c in subst (λ (z : OwnSlot). is_lt (slot_cmp (slot_of z) (slot_in x)) ≡ false) r.2 (p.0 r.0 r.1), mapped xs p.1)

pub all_looked : (answers : List PartAnswer) (given : PartAnswer) → Contains answers given → is_touched (map (λ (x : PartAnswer). x.slot) answers) (slot_of given.slot) ≡ true
all_looked answers given c =
    any_from (λ own. is_eq (slot_cmp (slot_of own) (slot_of given.slot))) (map (λ (x : PartAnswer). x.slot) answers) given.slot (map_from (λ (x : PartAnswer). x.slot) answers given c) (slot_from (slot_of given.slot) (slot_of given.slot) refl)

-- the whole, and these
pub whole_rises : (slots : List OwnSlot) → IsSortedByKey slot_of slot_cmp slots → IsSortedByKey slot_of slot_cmp (own.Whole ∷ slots)
whole_rises slots up = pairs_sorted slot_of (own.Whole ∷ slots) ((λ s c. not_below (slot_of s)), sorted_pairs slot_of slots up)
  where
    not_below : (s : revisions.Slot) → is_lt (slot_cmp s Whole) ≡ false
    not_below Whole = refl
    not_below (At t) = refl

pub whole_looked : (slots : List OwnSlot) (slot : revisions.Slot) → is_touched slots Whole ≡ false → is_touched (own.Whole ∷ slots) slot ≡ false → IsUntouched slots slot
whole_looked slots slot whole none = record {
  instance = turned slot (or_left (is_eq (slot_cmp Whole slot)) (is_touched slots slot) none);
  alone = or_right_part (is_eq (slot_cmp Whole slot)) (is_touched slots slot) none;
  whole = whole;
}
  where
    or_left : (a b : Bool) → (a || b) ≡ false → a ≡ false
    or_left true b e = e
    or_left false b e = refl

    or_right_part : (a b : Bool) → (a || b) ≡ false → b ≡ false
    or_right_part true b e = absurd (true≢false e)
    or_right_part false b e = e

    turned : (s : revisions.Slot) → is_eq (slot_cmp Whole s) ≡ false → is_eq (slot_cmp s Whole) ≡ false
    turned Whole e = e
    turned (At t) e = refl
