-- The timeline follows the meetings.
use Rattle.std.proofs.Common.{◌≡◌, ◌∙◌, ◌++◌, ℕ, List, Option, None, Some, refl, sym, ap, subst, arith, length}
use Rattle.std.specs.List.{Contains}
use Rattle.std.proofs.lemmas.Bool.{lt-ltb}
use Rattle.indexmap.specs.IndexMap.{insert_entry}
use Rattle.room_books.specs.declared.kept.Meeting.{Meeting}
use Rattle.std.specs.Map.{lookup}
use Rattle.std.proofs.lemmas.List.Sorted.{IsPermutation-sym, IsPermutation-trans}
use Rattle.room_books.specs.declared.meeting.PartAnswer.{PartAnswer}
use Rattle.room_books.specs.declared.timeline.Busy.{Busy}
use Rattle.room_books.specs.Taking.{answers_by, answers_then}
use Rattle.room_books.specs.Meeting.{confirmed_at, meeting_singles, all_singles, all_series, all_confirmed, all_recurring, in_room, others, same_key, series_at, series_by, singles_by, AreAllApart, AreRecurring, IsClearIn}
use Rattle.room_books.specs.Timeline.{ShiftsTimeline, IsChanged, IsTimelineOf}
use Rattle.profile.specs.checker.Instances.{IsClear}
use Rattle.ical_values.specs.Octets.{address_octets}
use Rattle.cal_zones.specs.RoomZones.{room_of}
use Rattle.room_books.specs.Room.{HaveReached}
use Rattle.room_books.proofs.room_lemmas.Joining.{joins_reordered}
use Rattle.room_books.proofs.shared_lemmas.Leaving.{parted_length}
use Rattle.room_books.proofs.shared_lemmas.Places.{place_of, other_series_count, timeline_put, put_count, put_series_count, series_put}
use Rattle.room_books.proofs.room_lemmas.PutSeries.{put_series_clear, recurring_put, series_joined}
use Rattle.room_books.proofs.room_lemmas.Putting.{own_counted, few_after, put_clear}
use Rattle.room_books.proofs.shared_lemmas.Reordering.{re_flat, re_length, re_permutation}
use Rattle.room_books.proofs.room_lemmas.RoomSteps.{put_apart}
use Rattle.room_books.proofs.room_lemmas.Shifting.{changed_reordered, shift_of}
use Rattle.room_books.proofs.room.Room.put.Goals as goal

found_series : (o : Option Meeting) → length (all_series (answers_by o)) ≡ length (series_by o)
found_series None = refl
found_series (Some m) = refl

pub change-requires-clause-shift : goal.change-requires-clause-shift
change-requires-clause-shift c =
    let k = c.args.key in let es = c.args.self.now.meetings.entries in let shifts = c.requires.shifts in
    let gone = c.args.gone.now in let added = c.args.added.now in
    let now = all_singles (answers_then (answers_by (lookup (same_key k) es)) c.args.changes) in
    let is = shift_of k es c.keys_differ.ensures c.args.self.now.timeline.busy.items c.args.self.now.timed c.args.self.now.apart gone added now shifts c.requires.joins in (
      shifts.kept,
      subst (λ (n : ℕ). ShiftsTimeline n gone shifts.kept added c.reserve.new.self.busy.items) (sym c.in_ok-place.ensures.place)
          (subst (λ (l : List Busy). ShiftsTimeline (place_of k es) gone shifts.kept added l) (sym c.reserve.ensures.busy) is),
    )

pub change-requires-clause-counted : goal.change-requires-clause-counted
change-requires-clause-counted c =
    let shifts = c.requires.shifts in let k = c.args.key in let es = c.args.self.now.meetings.entries in
    let n = own_counted k es c.keys_differ.ensures c.args.self.now.timeline.confirmed c.args.self.now.counted in
    let b = parted_length (singles_by (lookup (same_key k) es)) c.args.gone.now shifts.kept shifts.parted in let r = c.reserve.ensures.confirmed in
    omega (arith, n, b, r)

pub change-requires-clause-few : goal.change-requires-clause-few
change-requires-clause-few c =
    let shifts = c.requires.shifts in let k = c.args.key in let es = c.args.self.now.meetings.entries in
    let now = all_singles (answers_then (answers_by (lookup (same_key k) es)) c.args.changes) in
    let n = few_after k es c.keys_differ.ensures c.args.self.now.timeline.confirmed c.args.self.now.counted now c.requires.joins.few in
    let b = parted_length (singles_by (lookup (same_key k) es)) c.args.gone.now shifts.kept shifts.parted in let r = c.reserve.ensures.confirmed in
    let a = parted_length now shifts.kept c.args.added.now shifts.after_is in
    omega (arith, n, b, r, a)

pub invariant_of-self-2 : goal.invariant_of-self-2
invariant_of-self-2 c =
    let room = c.args.self.now in let es = room.meetings.entries in
    record {
      timed = subst (IsTimelineOf (confirmed_at es)) (sym c.reserve.ensures.busy) room.timed;
      counted = c.reserve.ensures.confirmed ∙ room.counted;
      clear = room.clear;
      apart = room.apart;
      recurs = subst (AreRecurring (series_at es)) (sym c.reserve-2.ensures.items) room.recurs;
      series_counted = room.series_counted;
      series_few = room.series_few;
      series_clear = room.series_clear;
      reached = room.reached;
    }

pub invariant_of-self-in-Break-branch-3 : goal.invariant_of-self-in-Break-branch-3
invariant_of-self-in-Break-branch-3 c =
    let room = c.args.self.now in
    let same : c.put_in.new.meetings.entries ≡ room.meetings.entries = c.in_err-place.ensures.err in
    record {
      timed = subst (λ l. IsTimelineOf (confirmed_at l) c.reserve.new.self.busy.items) (sym same) (subst (IsTimelineOf (confirmed_at room.meetings.entries)) (sym c.reserve.ensures.busy) room.timed);
      counted = c.reserve.ensures.confirmed ∙ room.counted ∙ ap (λ l. length (all_confirmed l)) (sym same);
      clear = subst (λ l. IsClear (Contains (all_confirmed l))) (sym same) room.clear;
      apart = subst AreAllApart (sym same) room.apart;
      recurs = subst (λ l. AreRecurring (series_at l) c.reserve-2.new.self.items) (sym same) (subst (AreRecurring (series_at room.meetings.entries)) (sym c.reserve-2.ensures.items) room.recurs);
      series_counted = room.series_counted ∙ ap (λ l. length (all_recurring l)) (sym same);
      series_few = room.series_few;
      series_clear = subst (λ l. IsClearIn (in_room l)) (sym same) room.series_clear;
      reached = subst (λ l. ∥ HaveReached (address_octets room.address) (room_of room.zone) l ∥₁) (sym same) room.reached;
    }

pub overflow_sub-self : goal.overflow_sub-self
overflow_sub-self c =
    let k = c.args.key in let es = c.args.self.now.meetings.entries in
    let b : c.count_series-before.result ≡ length (series_by (lookup (same_key k) es)) = c.count_series-before.ensures ∙ ap (λ l. length (all_series l)) c.answers_before.ensures.are ∙ found_series (lookup (same_key k) es) in
    let o = other_series_count k es c.keys_differ.ensures in let was = c.args.self.now.series_counted in
    omega (arith, b, o, was)

pub overflow_add-self : goal.overflow_add-self
overflow_add-self c =
    let k = c.args.key in let es = c.args.self.now.meetings.entries in let put = c.in_ok-place.ensures.put in let m = put.meeting in
    let b : c.count_series-before.result ≡ length (series_by (lookup (same_key k) es)) = c.count_series-before.ensures ∙ ap (λ l. length (all_series l)) c.answers_before.ensures.are ∙ found_series (lookup (same_key k) es) in
    let a : c.series_in-after.result ≡ length (all_series m.answers.items) = c.series_in-after.ensures ∙ ap length (ap (λ l. series_at l c.in_ok-place.place) put.entries ∙ ap (series_at (insert_entry same_key es k m)) c.in_ok-place.ensures.place ∙ series_put k m es) in
    let few = series_joined k es (answers_then (answers_by (lookup (same_key k) es)) c.args.changes) m.answers.items put.made.answers_are c.requires.recurs.few in
    let o = other_series_count k es c.keys_differ.ensures in let was = c.args.self.now.series_counted in
    omega (arith, a, b, o, was, few)

pub invariant_of-self-3 : goal.invariant_of-self-3
invariant_of-self-3 c =
    let k = c.args.key in let es = c.args.self.now.meetings.entries in let put = c.in_ok-place.ensures.put in let m = put.meeting in
    let shifts = c.requires.shifts in
    let gone = c.args.gone.now in let added = c.args.added.now in
    let answers = answers_then (answers_by (lookup (same_key k) es)) c.args.changes in
    let now = all_singles answers in
    let own = re_flat (λ (g : PartAnswer). g.singles.items) answers m.answers.items put.made.answers_are in
    let is = IsPermutation-trans (shifts.kept ++ added) now (meeting_singles m) (IsPermutation-sym now (shifts.kept ++ added) shifts.after_is) (re_permutation now (meeting_singles m) own) in
    let joins = joins_reordered (others k es) k answers m.answers.items put.made.answers_are c.requires.joins in
    let shift = subst (λ (n : ℕ). ShiftsTimeline n gone shifts.kept added c.reserve.new.self.busy.items) (sym c.in_ok-place.ensures.place)
    (subst (λ (l : List Busy). ShiftsTimeline (place_of k es) gone shifts.kept added l) (sym c.reserve.ensures.busy)
    (shift_of k es c.keys_differ.ensures c.args.self.now.timeline.busy.items c.args.self.now.timed c.args.self.now.apart gone added now shifts c.requires.joins)) in
    let changed = subst (λ (items : List Busy). IsChanged (place_of k es) (meeting_singles m) items c.change.new.self.busy.items) c.reserve.ensures.busy
    (changed_reordered (place_of k es) (shifts.kept ++ added) (meeting_singles m) c.reserve.new.self.busy.items c.change.new.self.busy.items is
    (subst (λ (n : ℕ). IsChanged n (shifts.kept ++ added) c.reserve.new.self.busy.items c.change.new.self.busy.items) c.in_ok-place.ensures.place (c.change.ensures.changed shifts.kept shift))) in
    let before : c.count_series-before.result ≡ length (series_by (lookup (same_key k) es)) = c.count_series-before.ensures ∙ ap (λ l. length (all_series l)) c.answers_before.ensures.are ∙ found_series (lookup (same_key k) es) in
    let after : c.series_in-after.result ≡ length (all_series m.answers.items) = c.series_in-after.ensures ∙ ap length (ap (λ l. series_at l c.in_ok-place.place) put.entries ∙ ap (series_at (insert_entry same_key es k m)) c.in_ok-place.ensures.place ∙ series_put k m es) in
    let few_now = series_joined k es answers m.answers.items put.made.answers_are c.requires.recurs.few in
    record {
      timed = subst (λ l. IsTimelineOf (confirmed_at l) c.change.new.self.busy.items) (sym put.entries) (timeline_put k m es c.args.self.now.timeline.busy.items c.change.new.self.busy.items c.args.self.now.timed changed);
      counted =
          (let n = put_count k m es in let b = parted_length (singles_by (lookup (same_key k) es)) gone shifts.kept shifts.parted in let r = c.reserve.ensures.confirmed in
          let a = parted_length now shifts.kept added shifts.after_is in let l = re_length now (meeting_singles m) own in let f = c.change.ensures.confirmed in let was = c.args.self.now.counted in
          let all = ap (λ l. length (all_confirmed l)) put.entries in
          omega (arith, n, b, r, a, l, f, was, all));
      clear = subst (λ l. IsClear (Contains (all_confirmed l))) (sym put.entries) (put_clear k m es c.keys_differ.ensures joins.clear);
      apart = subst AreAllApart (sym put.entries) (put_apart k m es c.args.self.now.apart joins.separate);
      recurs = subst (λ l. AreRecurring (series_at l) c.mark.new.places.items) (sym put.entries)
          (recurring_put k m es c.reserve-2.new.self.items c.mark.new.places.items (subst (AreRecurring (series_at es)) (sym c.reserve-2.ensures.items) c.args.self.now.recurs)
          (λ other n there. c.mark.ensures.others other (λ e. n (e ∙ c.in_ok-place.ensures.place)) there)
          (λ some. subst (Contains c.mark.new.places.items) c.in_ok-place.ensures.place (c.mark.ensures.own (lt-ltb 0 c.series_in-after.result (let a = after in omega (arith, a, some))))));
      series_counted = (let n = put_series_count k m es in let b = before in let a = after in let was = c.args.self.now.series_counted in let all = ap (λ l. length (all_recurring l)) put.entries in let o = other_series_count k es c.keys_differ.ensures in omega (arith, n, b, a, was, all, o));
      series_few = (let n = put_series_count k m es in let b = before in let a = after in let was = c.args.self.now.series_counted in let few = few_now in let o = other_series_count k es c.keys_differ.ensures in omega (arith, n, b, a, was, few, o));
      series_clear = subst (λ l. IsClearIn (in_room l)) (sym put.entries) (put_series_clear k m es c.keys_differ.ensures answers put.made.answers_are c.requires.recurs.clear);
      reached = c.requires.reaches c.put_in.new.meetings.entries put;
    }
