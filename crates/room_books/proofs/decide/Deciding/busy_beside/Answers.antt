-- What shares no instant with what stays in the timeline shares none with what stays confirmed.
use Rattle.std.proofs.Common.{Contains, sym, subst, ◌∙◌, ◌++◌}
use Rattle.room_books.specs.Meeting.{others, instance_list, AreBusyIn}
use Rattle.room_books.proofs.shared_lemmas.Leaving.{free_of_staying, staying_is}
use Rattle.room_books.proofs.shared_lemmas.Places.{real_entry}
use Rattle.room_books.proofs.decide.Deciding.busy_beside.Goals as goal

pub returns-in_err-asked : goal.returns-in_err-asked
returns-in_err-asked c = λ kept parted.
    let k = c.args.self.now.key.now in let es = c.args.self.now.room.now.meetings.entries in
    subst (AreBusyIn (others k es ++ instance_list k kept) (Contains c.args.wanted.now)) (sym c.from_residual.ensures) (λ s in_s.
    free_of_staying k es c.get_index_of-own.ensures.unique c.get_index_of-own.result c.get_index_of-own.ensures.index
    c.args.self.now.room.now.timeline.busy.items c.args.self.now.room.now.timed c.args.self.now.room.now.apart c.args.gone.now kept parted s.span (c.in_err-asked.ensures s in_s))

pub returns-in_err-other : goal.returns-in_err-other
returns-in_err-other c =
    let e = real_entry c.args.self.now.room.now.meetings.entries c.args.self.now.room.now.timeline.busy.items c.args.self.now.room.now.timed c.in_ok-asked.busy c.in_ok-asked.ensures.1.0 in
    let none = c.in_err-other.ensures.entry ∙ e.1 in
    absurd (cc)

pub returns : goal.returns
returns c = λ kept parted.
    let k = c.args.self.now.key.now in let es = c.args.self.now.room.now.meetings.entries in
    let busy = c.in_ok-asked.busy in (
      c.in_ok-asked.ensures.0,
      staying_is k es c.get_index_of-own.ensures.unique c.get_index_of-own.result c.get_index_of-own.ensures.index
          c.args.self.now.room.now.timeline.busy.items c.args.self.now.room.now.timed c.args.self.now.room.now.apart c.args.gone.now kept parted busy c.in_ok-asked.ensures.1.0 c.in_ok-asked.ensures.1.1
          (c.in_ok-other.other.now, c.in_ok-other.field-0-1.now) (sym c.in_ok-other.ensures.entry),
      c.in_ok-asked.ensures.1.2,
    )
