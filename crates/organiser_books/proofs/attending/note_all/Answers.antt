use Rattle.std.proofs.Common.{◌∙◌, ◌∷◌, [], List, map, take, sym, ap, subst, arith}
use Rattle.std.proofs.lemmas.List.{map-append, take_all}
use Rattle.profile.specs.events.EventComponents as events
use Rattle.cal_events.specs.Component.{attendee_of}
use Rattle.organiser_books.specs.Attending.{AreNoted}
use Rattle.organiser_books.proofs.Loops.{one_more}
use Rattle.organiser_books.proofs.attending.note_all.Goals as goal

pub loop-attendee-preserved : goal.loop-attendee-preserved
loop-attendee-preserved c = λ done h.
    let lines = c.args.lines.now in
    let i = c.loop-attendee.attendee-index in
    let own = map attendee_of (take i lines) in
    let more = map-append attendee_of (take i lines) (c.attendee-item.result ∷ []) in
    let last = ap (map attendee_of) (one_more lines i c.attendee-item.result (omega arith) c.attendee-item.is) in
    subst (λ (l : List events.Attendee). AreNoted done c.args.place l c.note.new.attending.entries) (sym (last ∙ more)) (c.in_ok-note.ensures done own (c.loop-attendee.invariant done h))

pub returns : goal.returns
returns c = λ done h.
    let lines = c.args.lines.now in
    subst (λ (l : List _). AreNoted done c.args.place (map attendee_of l) c.loop-attendee.attending.entries) (take_all c.loop-attendee.attendee-index lines (omega arith)) (c.loop-attendee.invariant done h)
