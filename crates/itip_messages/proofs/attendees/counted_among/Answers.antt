-- One more line: it counts where its address is new.
use Rattle.std.proofs.Common.{◌∙◌, List, map, sym, ap, subst, arith, take_all, refl}
use Rattle.cal_events.specs.Component.{attendee_of}
use Rattle.profile.specs.events.EventComponents.{Attendee}
use Rattle.profile.specs.events.Messages.{counted}
use Rattle.itip_messages.proofs.attendees_lemmas.CountedLines.{AreCounted, line_counts, line_known, lines_more, none_counted}
use Rattle.itip_messages.proofs.attendees.counted_among.Goals as goal
use Rattle.itip_messages.proofs.attendees.counted_among.Goals.{then-is_new+in_ok-push, else-is_new}

pub loop-line-init : goal.loop-line-init
loop-line-init c = none_counted c.new-counted.result.items c.new-seen.result.keys c.new-counted.ensures.items c.new-seen.ensures.empty

pub loop-line-preserved : goal.loop-line-preserved
loop-line-preserved c =
    let lines = c.args.lines.now in
    let i = c.loop-line.line-index in
    let more = lines_more lines i c.line-item.result (omega arith) c.line-item.is in
    let keys = c.in_ok-is_new.ensures.keys in
    elim c.if-is_new.branch [
      | then-is_new+in_ok-push w ↦
          subst (λ (said : List Attendee). AreCounted said c.if-is_new.counted.items c.insert.new.self.keys) (sym more)
          (line_counts _ c.line-item.result _ _ _ c.as_str.result c.loop-line.invariant c.as_str.ensures keys c.if-is_new.counted.items _ refl (sym c.in_ok-is_new.ensures.added ∙ w.if-is_new.true) (ap (λ v. v.items) w.counted-is ∙ w.in_ok-push.ensures.items))
      | else-is_new w ↦
          subst (λ (said : List Attendee). AreCounted said c.if-is_new.counted.items c.insert.new.self.keys) (sym more)
          (rw w.counted-is (line_known _ c.line-item.result _ _ _ c.as_str.result c.loop-line.invariant c.as_str.ensures keys (sym c.in_ok-is_new.ensures.added ∙ w.if-is_new.false)))
    ]

pub returns : goal.returns
returns c =
    let all = take_all c.loop-line.line-index c.args.lines.now (omega (arith, c.loop-line-test.false)) in
    c.loop-line.invariant.count ∙ ap (λ l. counted (map attendee_of l)) all
