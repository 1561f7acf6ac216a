use Rattle.std.proofs.Common.{◌∙◌, true, false, sym, append-nil}
use Rattle.ical_values.specs.Octets.{text_octets}
use Rattle.cal_events.proofs.shared_lemmas.BlamedLemmas.{entries_more}
use Rattle.cal_events.proofs.blamed.entries_of.Goals as goal
use Rattle.cal_events.proofs.blamed.entries_of.Goals.{then-is_of_uid+in_ok-push, else-is_of_uid}

pub loop-event-preserved : goal.loop-event-preserved
loop-event-preserved c =
    let x = c.event-item.result in
    elim c.if-is_of_uid.branch [
      | then-is_of_uid+in_ok-push w ↦
          entries_more (text_octets c.args.uid.now) c.args.events.now c.loop-event.event-index x c.loop-event-test.true c.event-item.is c.loop-event.entries _ c.loop-event.invariant true
          (sym c.is_of_uid.ensures ∙ w.if-is_of_uid.true) (w.entries-is ∙ w.in_ok-push.ensures)
      | else-is_of_uid w ↦
          entries_more (text_octets c.args.uid.now) c.args.events.now c.loop-event.event-index x c.loop-event-test.true c.event-item.is c.loop-event.entries _ c.loop-event.invariant false
          (sym c.is_of_uid.ensures ∙ w.if-is_of_uid.false) (w.entries-is ∙ sym (append-nil _))
    ]
