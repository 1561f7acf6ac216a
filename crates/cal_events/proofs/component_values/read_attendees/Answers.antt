use Rattle.std.proofs.Common.{◌≡◌, ◌+◌, ◌∷◌, ◌∙◌, ◌++◌, List, ap, codes, drop, map, subst, sym}
use Rattle.std.specs.List.{AllZip}
use Rattle.ical_lines.specs.Fault.{RefusesBy, RefusesWhere}
use Rattle.ical_lines.specs.Text.{line_text}
use Rattle.ical_tree.proofs.OneLine.{at_place}
use Rattle.profile.specs.events.EventComponents.{EventComponentFault, IsAttendee}
use Rattle.profile.specs.events.Properties.{lines_named}
use Rattle.ical_tree.specs.Own.{own_lines, numbered_own}
use Rattle.cal_events.specs.Component.{attendee_of}
use Rattle.cal_events.specs.declared.component.Attendee.{Attendee}
use Rattle.cal_events.proofs.shared_lemmas.EventLemmas.{attendee_pushed, attendee_fault, one_other}
use Rattle.ical_values.proofs.Exits.{err_exit}
use Rattle.profile.specs.events.EventBlame.{EventBlame}
use Rattle.cal_events.proofs.shared_lemmas.LineBlame.{attendee_blamed}
use Rattle.cal_events.proofs.component_values.read_attendees.Goals as goal
use Rattle.cal_events.proofs.component_values.read_attendees.Goals.{then-names+in_ok-read_attendee+in_ok-push, else-names}

pub returns-in_err-read_attendee-clause-fault : goal.returns-in_err-read_attendee-clause-fault
returns-in_err-read_attendee-clause-fault c = λ object m.
    let inv = c.loop-line.invariant in
    let lines = c.lines-line-items.result.now in
    let i = c.loop-line.line-index in
    let x = c.line-item.result in
    let steps : map line_text (drop i lines) ≡ line_text x ∷ map line_text (drop (i + 1) lines) =
    ap (map line_text) (at_place lines i x c.loop-line-test.true c.line-item.is) in
    err_exit _ (RefusesBy (EventComponentFault object m (own_lines c.args.properties.now))) _ c.from_residual.ensures.1
    (attendee_fault object m (own_lines c.args.properties.now) (map line_text (drop i lines)) (map line_text (drop (i + 1) lines)) inv.0 (line_text x) _ inv.1
    steps (sym c.if-names.ensures) c.in_err-read_attendee.ensures.fault)

pub returns-in_err-read_attendee-clause-at : goal.returns-in_err-read_attendee-clause-at
returns-in_err-read_attendee-clause-at c = λ m zones.
    let own = c.args.properties.now in
    err_exit _ (RefusesWhere (EventBlame m zones (numbered_own own))) _ c.from_residual.ensures.1
    (attendee_blamed m zones own c.lines-line-items.result.now c.loop-line.line-index c.line-item.result c.lines-line-items.ensures c.loop-line-test.true c.line-item.is
    (sym c.names.ensures ∙ c.if-names.true) _ c.in_err-read_attendee.ensures.fault c.in_err-read_attendee.ensures.at)

pub loop-line-preserved : goal.loop-line-preserved
loop-line-preserved c =
    let inv = c.loop-line.invariant in
    let lines = c.lines-line-items.result.now in
    let i = c.loop-line.line-index in
    let x = c.line-item.result in
    let steps : map line_text (drop i lines) ≡ line_text x ∷ map line_text (drop (i + 1) lines) =
    ap (map line_text) (at_place lines i x c.loop-line-test.true c.line-item.is) in
    elim c.if-names.branch [
      | then-names+in_ok-read_attendee+in_ok-push w ↦
          attendee_pushed (own_lines c.args.properties.now) (map line_text (drop i lines)) (map line_text (drop (i + 1) lines)) inv.0 (line_text x)
          c.loop-line.attendees.items c.if-names.attendees.items w.in_ok-read_attendee.field-0 inv.1 steps (sym w.if-names.ensures) inv.2
          (ap (λ v. v.items) w.attendees-is ∙ w.in_ok-push.ensures.items) w.in_ok-read_attendee.ensures.reads
      | else-names w ↦ (
        inv.0,
        inv.1 ∙ ap (λ ls. inv.0 ++ lines_named (codes "ATTENDEE") ls) steps
            ∙ ap (λ ls. inv.0 ++ ls) (one_other (codes "ATTENDEE") (line_text x) (map line_text (drop (i + 1) lines)) (sym w.if-names.ensures)),
        subst (λ (xs : List Attendee). AllZip IsAttendee inv.0 (map attendee_of xs)) (sym (ap (λ v. v.items) w.attendees-is)) inv.2,
      )
    ]
