-- The answers of a meeting after a message: those that stay, what is left of others, and the new ones.
-- Cited by Room::answers_after, Room::settled.
use Rattle.std.proofs.Common.{◌≡◌, ℤ, List, [], ◌++◌, Option, None, Some, sym, subst, append-nil, append_assoc}
use Rattle.std.specs.List.Sorted.{IsPermutation}
use Rattle.std.proofs.lemmas.Grind.{flat_map-append}
use denote.Ref.{Bor}
use Rattle.itip_order.specs.declared.part.Slot.{Slot as OwnSlot}
use Rattle.profile.specs.events.Confirmed.{Confirmed}
use Rattle.profile.specs.rooms.Revisions.{Part}
use Rattle.cal_events.specs.declared.instance.Single.{Single}
use Rattle.room_books.specs.declared.kept.Changes.{Changes}
use Rattle.room_books.specs.declared.meeting.MeetingKey.{MeetingKey}
use Rattle.room_books.specs.declared.meeting.PartAnswer.{PartAnswer}
use Rattle.room_books.specs.declared.meeting.Outcome.{Outcome}
use Rattle.room_books.specs.declared.claim.Claim.{Claim}
use Rattle.room_books.specs.Slots.{Reordered, left_without}
use Rattle.room_books.specs.Slots.Reordered.{re_then}
use Rattle.room_books.specs.Gone.{IsPartedInto}
use Rattle.room_books.specs.Taking.{answers_then, AreAnswersDecided}
use Rattle.room_books.specs.Meeting.{all_singles}
use Rattle.room_books.proofs.shared_lemmas.Reordering.{re_back, re_flat, re_permutation, re_right}

pub answers_alone : (before : List PartAnswer) (lost : List OwnSlot) (left : List PartAnswer) (changes : Changes) → changes.lost.items ≡ lost → Reordered left changes.new.items
    → Reordered (left_without lost before ++ left) (answers_then before changes)
answers_alone before lost left changes e r =
    subst (λ (l : List OwnSlot). Reordered (left_without lost before ++ left) (left_without l before ++ changes.new.items)) (sym e) (re_right (left_without lost before) left changes.new.items r)

pub answers_both : (before : List PartAnswer) (lost : List OwnSlot) (left new coming : List PartAnswer) (changes : Changes) → changes.lost.items ≡ lost → coming ≡ left ++ new → Reordered coming changes.new.items
    → Reordered ((left_without lost before ++ left) ++ new) (answers_then before changes)
answers_both before lost left new coming changes e c r =
    subst (λ (l : List PartAnswer). Reordered l (answers_then before changes)) (sym (append_assoc (left_without lost before) left new))
    (answers_alone before lost (left ++ new) changes e (subst (λ (l : List PartAnswer). Reordered l changes.new.items) c r))

pub added_parted : (now kept new : List PartAnswer) (added : List Single) → Reordered (kept ++ new) now → added ≡ all_singles new → IsPartedInto (all_singles now) (all_singles kept) added
added_parted now kept new added r e =
    let f : PartAnswer → List Single = λ (g : PartAnswer). g.singles.items in
    subst (λ (l : List Single). IsPartedInto (all_singles now) (all_singles kept) l) (sym e)
    (subst (IsPermutation (all_singles now)) (flat_map-append f kept new) (re_permutation (all_singles now) (all_singles (kept ++ new)) (re_flat f now (kept ++ new) (re_back (kept ++ new) now r))))

pub added_none : (now kept : List PartAnswer) (added : List Single) → Reordered kept now → added ≡ [] → IsPartedInto (all_singles now) (all_singles kept) added
added_none now kept added r e =
    added_parted now kept [] added (subst (λ (l : List PartAnswer). Reordered l now) (sym (append-nil kept)) r) e

pub answered_reordered : (others : Confirmed) (key : MeetingKey) (held : List Part) (moment : ℤ) (kept : List PartAnswer) (asked : List (Bor Claim)) (xs ys : List PartAnswer) (outcome : Option Outcome) → Reordered xs ys
    → AreAnswersDecided others key held moment kept asked xs outcome → AreAnswersDecided others key held moment kept asked ys outcome
answered_reordered others key held moment kept asked xs ys None r a = (a.0, re_then kept xs ys a.1 r)
answered_reordered others key held moment kept asked xs ys (Some outcome) r a = (a.0, (a.1.0, a.1.1, a.1.2, a.1.3, a.1.4, re_then (kept ++ a.1.1) xs ys a.1.5 r))
