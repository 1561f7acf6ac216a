use Rattle.std.proofs.Common.{◌≡◌, ◌<◌, List, length, get_or, subst, sym, ap, ◌∙◌, option_map}
use Rattle.std.specs.Str.{bytes_eq}
use Rattle.ical_values.specs.Octets.{address_octets}
use Rattle.cal_events.specs.declared.component.Attendee.{Attendee}
use Rattle.cal_events.specs.Component.{attendee_of}
use Rattle.cal_events.proofs.shared_lemmas.EventLemmas.{find_drop}
use Rattle.cal_events.proofs.component.EventComponent.status_of.Goals as goal

pub loop-attendee-preserved : goal.loop-attendee-preserved
loop-attendee-preserved c =
    let e = c.deref-attendee-items.ensures.value in
    let i = c.loop-attendee.attendee-index in
    let a = c.attendee-item.result in
    let within = subst (λ (l : List Attendee). i < length l) e c.loop-attendee-test.true in
    let here = subst (λ (l : List Attendee). a ≡ get_or l i a) e c.attendee-item.is in
    c.loop-attendee.invariant
    ∙ ap (option_map (λ x. x.participation)) (find_drop (λ x. bytes_eq x.address (address_octets c.args.address.now)) attendee_of c.args.self.now.attendees.items i a within here (sym c.if-eq.ensures))
