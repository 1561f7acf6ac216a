-- The series of the others come first, then those that the meeting keeps, then those that it asks for.
use Rattle.std.proofs.Common.{◌≡◌, ◌++◌, ◌∙◌, List, None, Some, Contains, Vec, length, vec_len, rules, sym, subst}
use Rattle.room_books.specs.declared.recurring.Recurring.{Recurring}
use Rattle.room_books.specs.Recurring.{AreBeside, AreNewClear}
use Rattle.room_books.specs.Meeting.{beside, instance_list, others}
use Rattle.room_books.proofs.room_lemmas.ClearBeside.{all_clear, new_named, none_some, single_named}
use Rattle.room_books.proofs.shared_lemmas.Places.{others_differ}
use Rattle.room_books.proofs.room_lemmas.RoomSeries.{now_of, other_series_differ, pushed_both, pushed_from}
use Rattle.room_books.proofs.decide.Deciding.clash_in_series.Goals as goal
use Rattle.room_books.proofs.decide.Deciding.clash_in_series.Goals.{in-Some, in-None+in_ok-found-in-None}

items_long : {X Z : Type 0} (v : Vec X Z) → vec_len v ≡ length v.items
items_long v = search rules

pub returns-in_default : goal.returns-in_default
returns-in_default c = λ own parted was_clear singles_clear.
    let k = c.args.self.now.key.now in let es = c.args.self.now.room.now.meetings.entries in let singles = c.args.singles.now in
    let kept = now_of c.args.kept.now in let wanted = now_of c.args.wanted.now in
    let first = c.in_ok-all.all.items in let mid = c.push_all.new.all.items in let all = c.push_all-2.new.all.items in
    let booked = others k es ++ instance_list k own in
    let from = c.len-from.result in
    elim c.match-single_beside.branch [
      | in-Some w ↦ absurd (none_some w.in-Some.shared (sym c.in_default.is ∙ w.found-is))
      | in-None+in_ok-found-in-None w ↦
          all_clear (beside k es) k own singles kept wanted first all from c.in_ok-all.ensures
          (c.len-from.ensures ∙ items_long c.push_all.new.all ∙ pushed_from k first mid all c.args.kept.now c.args.wanted.now c.in_ok-push_all.ensures c.in_ok-push_all-2.ensures)
          (pushed_both k first mid all c.args.kept.now c.args.wanted.now c.in_ok-push_all.ensures c.in_ok-push_all-2.ensures) was_clear singles_clear
          (subst (λ (l : List Recurring). AreBeside (Contains singles) l None) c.deref.ensures.value w.in-None.ensures)
          (subst (λ (l : List Recurring). AreNewClear booked l from wanted None) w.deref-in-None.ensures.value
          (subst (AreNewClear booked w.deref-in-None.result.now from wanted) (sym w.found-is ∙ c.in_default.is) (w.in_ok-found-in-None.ensures own parted)))
    ]

pub returns : goal.returns
returns c = λ own parted one.
    let k = c.args.self.now.key.now in let es = c.args.self.now.room.now.meetings.entries in let singles = c.args.singles.now in
    let kept = now_of c.args.kept.now in let wanted = now_of c.args.wanted.now in
    let first = c.in_ok-all.all.items in let mid = c.push_all.new.all.items in let all = c.push_all-2.new.all.items in
    let booked = others k es ++ instance_list k own in
    let from = c.len-from.result in
    let x = c.in-Some-found.shared in let clash = c.in_ok-clash.clash in
    elim c.match-single_beside.branch [
      | in-Some w ↦
          single_named (beside k es) k own singles kept wanted first all from c.in_ok-all.ensures
          (c.len-from.ensures ∙ items_long c.push_all.new.all ∙ pushed_from k first mid all c.args.kept.now c.args.wanted.now c.in_ok-push_all.ensures c.in_ok-push_all-2.ensures)
          (pushed_both k first mid all c.args.kept.now c.args.wanted.now c.in_ok-push_all.ensures c.in_ok-push_all-2.ensures)
          (others_differ k es) (other_series_differ k es) one x clash c.in_ok-clash.ensures.0 c.in_ok-clash.ensures.1
          (subst (AreBeside (Contains singles) all) (sym w.found-is ∙ c.in-Some-found.is)
          (subst (λ (l : List Recurring). AreBeside (Contains singles) l (Some w.in-Some.shared)) c.deref.ensures.value w.in-Some.ensures))
      | in-None+in_ok-found-in-None w ↦
          new_named (beside k es) k own singles kept wanted first all from c.in_ok-all.ensures
          (c.len-from.ensures ∙ items_long c.push_all.new.all ∙ pushed_from k first mid all c.args.kept.now c.args.wanted.now c.in_ok-push_all.ensures c.in_ok-push_all-2.ensures)
          (pushed_both k first mid all c.args.kept.now c.args.wanted.now c.in_ok-push_all.ensures c.in_ok-push_all-2.ensures)
          (others_differ k es) (other_series_differ k es) one x clash c.in_ok-clash.ensures.0 c.in_ok-clash.ensures.1
          (subst (λ (l : List Recurring). AreNewClear booked l from wanted (Some x)) w.deref-in-None.ensures.value
          (subst (AreNewClear booked w.deref-in-None.result.now from wanted) (sym w.found-is ∙ c.in-Some-found.is) (w.in_ok-found-in-None.ensures own parted)))
    ]
