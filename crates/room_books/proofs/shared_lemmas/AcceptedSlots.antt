-- Slots in order, and the look-up of one among them.
-- Cited by is_touched of slots, stays of taking.
use Rattle.std.proofs.Common.{◌≡◌, ◌∙◌, ℕ, ◌<◌, true, List, [], ◌∷◌, length, refl, sym, ap, arith, inl, inr, Result, Ok, Err}
use Rattle.std.specs.declared.cmp.Ordering.TheVariants.{Equal}
use Rattle.std.specs.List.{Contains, filter}
use Rattle.std.specs.List.Sorted.{IsSearchInRange, IsBinarySearchResult, IsSortedByKey}
use Rattle.std.specs.Ordering.{is_eq}
use Rattle.std.specs.FinMap.{int_cmp-IsAntisymmetric}
use Rattle.std.specs.Result.{is_ok}
use Rattle.std.proofs.lemmas.Bool.{cases_lt, true≢false}
use Rattle.std.proofs.lemmas.Cmp.{tied_itself}
use Rattle.std.proofs.lemmas.List.Folds.{list_any_at, list_any_none}
use Rattle.std.proofs.lemmas.List.Sorted.{searchable_from_sorted}
use Rattle.itip_order.specs.declared.part.Slot.{Slot}
use Rattle.itip_order.specs.declared.part.Slot.TheVariants as own
use Rattle.itip_order.specs.contracts.part.SlotOrd.TheImpl.{cmp-value}
use Rattle.itip_order.specs.Parts.{slot_of}
use Rattle.itip_order.proofs.Lists.{any_at, any_from, filter_at, filter_from}
use Rattle.itip_order.proofs.Order.{slot_total, is_eq_true}
use Rattle.profile.specs.rooms.Revisions as revisions
use Rattle.profile.specs.rooms.Revisions.{Whole, At, slot_cmp}
use Rattle.profile.specs.rooms.Rooms.{is_accept}
use Rattle.room_books.specs.declared.meeting.PartAnswer.{PartAnswer}
use Rattle.room_books.specs.Texts.{accepted_slots, has_slot}
use Rattle.room_books.specs.Meeting.{outcome_of}
use Rattle.room_books.proofs.shared_lemmas.Pairs.{map_at, map_from}

-- ---- slots

slot_equal : (a b : revisions.Slot) → slot_cmp a b ≡ Equal → a ≡ b
slot_equal Whole Whole e = refl
slot_equal Whole (At b) e = absurd (true≢false (sym (ap is_eq e)))
slot_equal (At a) Whole e = absurd (true≢false (sym (ap is_eq e)))
slot_equal (At a) (At b) e = ap At (int_cmp-IsAntisymmetric a b e)

pub slot_same : (a b : revisions.Slot) → is_eq (slot_cmp a b) ≡ true → a ≡ b
slot_same a b e = slot_equal a b (is_eq_true _ e)

slot_itself : (a : revisions.Slot) → slot_cmp a a ≡ Equal
slot_itself a = tied_itself slot_total a

pub slot_from : (a b : revisions.Slot) → a ≡ b → is_eq (slot_cmp a b) ≡ true
slot_from a b e = ap (λ s. is_eq (slot_cmp s b)) e ∙ ap is_eq (slot_itself b)

-- the order of slots itself is that of the slots that they represent
pub order_is : (a b : Slot) → cmp-value.it a b ≡ slot_cmp (slot_of a) (slot_of b)
order_is own.Whole own.Whole = refl
order_is own.Whole (own.At b) = refl
order_is (own.At a) own.Whole = refl
order_is (own.At a) (own.At b) = refl

-- ---- the look-up

element : (xs : List Slot) (k : ℕ) → k < length xs → Slot
element [] k lt = absurd (omega arith)
element (x ∷ xs) k lt = x

-- a slot is found where it is among the others
pub found : (xs : List Slot) (slot : revisions.Slot) (r : Result ℕ ℕ) → IsSortedByKey slot_of slot_cmp xs → IsSearchInRange r (length xs)
    → IsBinarySearchResult (λ own. slot_cmp (slot_of own) slot) xs r → is_ok r ≡ has_slot xs slot
found xs slot (Ok i) up in_range at =
    let d = element xs i in_range in
    sym (list_any_at (λ own. is_eq (slot_cmp (slot_of own) slot)) xs i d in_range (ap is_eq (at d)))
found xs slot (Err i) up in_range parted =
    let parts = parted (searchable_from_sorted slot_total slot_of xs slot up) in
    sym (list_any_none (λ own. is_eq (slot_cmp (slot_of own) slot)) xs (λ k d lt.
    elim (cases_lt k i) [ inl below ↦ ap is_eq (parts.0 k d (omega arith) below) | inr from ↦ ap is_eq (parts.1 k d from lt) ]))

-- ---- the slots of the answers that accept

pub accepted_from : (answers : List PartAnswer) (g : PartAnswer) (slot : revisions.Slot) → Contains answers g → slot_of g.slot ≡ slot → is_accept (outcome_of g.outcome) ≡ true → has_slot (accepted_slots answers) slot ≡ true
accepted_from answers g slot c e a =
    any_from (λ own. is_eq (slot_cmp (slot_of own) slot)) (accepted_slots answers) g.slot
    (map_from (λ (x : PartAnswer). x.slot) (filter (λ x. is_accept (outcome_of x.outcome)) answers) g (filter_from (λ x. is_accept (outcome_of x.outcome)) answers g c a))
    (slot_from (slot_of g.slot) slot e)

pub accepted_at : (answers : List PartAnswer) (slot : revisions.Slot) → has_slot (accepted_slots answers) slot ≡ true → (g : PartAnswer) × Contains answers g × (slot_of g.slot ≡ slot) × (is_accept (outcome_of g.outcome) ≡ true)
accepted_at answers slot h =
    let one = any_at (λ own. is_eq (slot_cmp (slot_of own) slot)) (accepted_slots answers) h in
    let given = map_at (λ (x : PartAnswer). x.slot) (filter (λ x. is_accept (outcome_of x.outcome)) answers) one.0 one.1 in
    let from = filter_at (λ x. is_accept (outcome_of x.outcome)) answers given.0 given.1 in
    (given.0, from.0, ap slot_of given.2 ∙ slot_same (slot_of one.0) slot one.2, from.1)

-- ---- one more answer
