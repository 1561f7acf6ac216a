-- What shares no instant with what stays in the timeline shares none with what stays confirmed.
use Rattle.std.proofs.Common.{None, sym, subst, ◌∙◌}
use denote.Ref.{Bor}
use Rattle.cal_events.specs.declared.series.Series.{Series}
use Rattle.room_books.specs.Timeline.{AreTaken, is_leaving}
use Rattle.room_books.specs.Meeting.{Recurs}
use Rattle.room_books.proofs.shared_lemmas.Leaving.{free_of_staying, staying_is}
use Rattle.room_books.proofs.shared_lemmas.Pairs.{map_at, map_from}
use Rattle.room_books.proofs.shared_lemmas.Places.{real_entry}
use Rattle.room_books.proofs.shared_lemmas.Recurrings.{holds_all, holds_more}
use Rattle.room_books.proofs.decide.Deciding.busy_beside_series.Goals as goal

abbrev series_now : Bor Series → Series
series_now one = one.now

pub returns-in_err-other : goal.returns-in_err-other
returns-in_err-other c =
    let e = real_entry c.args.self.now.room.now.meetings.entries c.args.self.now.room.now.timeline.busy.items c.args.self.now.room.now.timed c.in-Some.busy c.in-Some.ensures.1.0 in
    let none = c.in_err-other.ensures.entry ∙ e.1 in
    absurd (cc)

pub returns-in-Some : goal.returns-in-Some
returns-in-Some c = λ kept parted.
    let k = c.args.self.now.key.now in let es = c.args.self.now.room.now.meetings.entries in
    let one = c.series-item.result in (
      (one.now, map_from series_now c.args.all.now one (c.loop-series.series-index, c.loop-series-test.true, sym c.series-item.is), c.in-Some.ensures.0),
      staying_is k es c.get_index_of-own.ensures.unique c.get_index_of-own.result c.get_index_of-own.ensures.index
          c.args.self.now.room.now.timeline.busy.items c.args.self.now.room.now.timed c.args.self.now.room.now.apart c.args.gone.now kept parted c.in-Some.busy c.in-Some.ensures.1.0 c.in-Some.ensures.1.1
          (c.in_ok-other.other.now, c.in_ok-other.field-0-1.now) (sym c.in_ok-other.ensures.entry),
      c.in-Some.ensures.1.2,
    )

pub loop-series-preserved : goal.loop-series-preserved
loop-series-preserved c =
    let P : Bor Series → Type 0 = λ (one : Bor Series). AreTaken (is_leaving c.get_index_of-own.result c.args.gone.now) c.args.self.now.room.now.timeline.busy.items (Recurs one.now) None in
    holds_more P c.args.all.now c.loop-series.series-index c.series-item.result c.loop-series-test.true (subst P c.series-item.is c.in_default.ensures) c.loop-series.invariant

pub returns : goal.returns
returns c = λ kept parted s is.
    let k = c.args.self.now.key.now in let es = c.args.self.now.room.now.meetings.entries in
    let at = map_at series_now c.args.all.now is.0 is.1 in
    let none = holds_all (λ (one : Bor Series). AreTaken (is_leaving c.get_index_of-own.result c.args.gone.now) c.args.self.now.room.now.timeline.busy.items (Recurs one.now) None)
    c.args.all.now c.loop-series.series-index c.loop-series-test.false c.loop-series.invariant at.0 at.1 s (subst (λ (z : Series). Recurs z s) (sym at.2) is.2) in
    free_of_staying k es c.get_index_of-own.ensures.unique c.get_index_of-own.result c.get_index_of-own.ensures.index
    c.args.self.now.room.now.timeline.busy.items c.args.self.now.room.now.timed c.args.self.now.room.now.apart c.args.gone.now kept parted s.span none
