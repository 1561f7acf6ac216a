-- What a meeting no longer confirms, and what it confirms now, as a change of the timeline.
-- Cited by Room::put.
use Rattle.std.proofs.Common.{ℕ, ◌&&◌, ◌∙◌, List, ◌++◌, ap}
use Rattle.std.specs.List.{IsDistinct}
use Rattle.std.specs.List.Sorted.{IsPermutation}
use Rattle.std.specs.Map.{lookup, keys_of}
use Rattle.std.proofs.lemmas.List.Sorted.{list_any-IsPermutation}
use Rattle.cal_events.specs.declared.instance.Single.{Single}
use Rattle.room_books.specs.declared.meeting.MeetingKey.{MeetingKey}
use Rattle.room_books.specs.declared.kept.Meeting.{Meeting}
use Rattle.room_books.specs.declared.timeline.Busy.{Busy}
use Rattle.room_books.specs.Gone.{Shifts}
use Rattle.room_books.specs.Timeline.{holds_instants, same_single, IsChanged, ShiftsTimeline, IsTimelineOf}
use Rattle.room_books.specs.Meeting.{same_key, confirmed_at, singles_by, others, AreAllApart, MayJoin}
use Rattle.room_books.proofs.shared_lemmas.Places.{place_of, are_at, free_but_own}
use Rattle.room_books.proofs.room_lemmas.RoomSteps.{found_apart}
use Rattle.room_books.proofs.shared_lemmas.Leaving.{kept_within, parted_separate}

pub shift_of : (k : MeetingKey) (es : List (MeetingKey × Meeting)) → IsDistinct same_key (keys_of es) → (items : List Busy) → IsTimelineOf (confirmed_at es) items → AreAllApart es → (gone added after : List Single)
    → (shifts : Shifts (singles_by (lookup (same_key k) es)) gone added after) → MayJoin (others k es) k after → ShiftsTimeline (place_of k es) gone shifts.kept added items
shift_of k es distinct items timed apart gone added after shifts joins = record {
  held = λ x e. are_at k es items timed x e ∙ ap (λ b. holds_instants x.single.span && b) (list_any-IsPermutation (same_single x.single) (singles_by (lookup (same_key k) es)) (gone ++ shifts.kept) shifts.parted);
  apart = parted_separate (singles_by (lookup (same_key k) es)) gone shifts.kept shifts.parted (found_apart k es apart);
  after = parted_separate after shifts.kept added shifts.after_is joins.separate;
  free = λ s among. free_but_own k es distinct items timed after joins.clear s (kept_within after shifts.kept added shifts.after_is s among);
}

-- the same change, by what is confirmed in another order
pub changed_reordered : (place : ℕ) (a b : List Single) (old new : List Busy) → IsPermutation a b → IsChanged place a old new → IsChanged place b old new
changed_reordered place a b old new same changed = record {
  own = λ x e. changed.own x e ∙ ap (λ h. holds_instants x.single.span && h) (list_any-IsPermutation (same_single x.single) a b same);
  others = changed.others;
}
