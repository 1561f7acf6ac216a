use Rattle.std.proofs.Common.{◌≡◌, ◌∙◌, None, MatchOption, true, false, ap, refl, subst, sym}
use Rattle.std.specs.Prelude.{slice_get}
use Rattle.std.proofs.lemmas.Option.{slice_get_past}
use Rattle.std.proofs.lemmas.Result.{IfOk-weaker}
use Rattle.cal_events.specs.Component.{method_said}
use Rattle.ical_values.specs.Octets.{address_octets}
use Rattle.itip_messages.specs.Message.{IsSpelled}
use Rattle.profile.specs.events.Messages.{is_of_attendee, is_to_rooms}
use Rattle.sched_box.specs.Answering.{octets_each}
use Rattle.sched_box.specs.Schedules.{IsUnread}
use Rattle.sched_box.specs.declared.schedules.World.{World}
use Rattle.sched_box.proofs.ScheduleLemmas.{delivers_store, delivers_to_room, delivers_told, delivers_unread, delivers_unsent, message_at}
use Rattle.sched_box.proofs.schedules.World.deliver.Goals as goal

pub returns-in_default : goal.returns-in_default
returns-in_default c =
    let world = c.args.self.now in
    let absent : slice_get world.sent.items c.args.number ≡ None = ap (λ list. slice_get list c.args.number) (sym c.deref.ensures.value) ∙ slice_get_past c.deref.result.now c.args.number c.in_default.ensures.lookup.3 in
    delivers_unsent c.args.number (address_octets c.args.to.now) c.args.now world (octets_each c.new.result.items) (ap octets_each c.new.ensures.items) absent

pub returns-in_default-2 : goal.returns-in_default-2
returns-in_default-2 c =
    let world = c.args.self.now in
    let octets = c.deref-2.result.now in
    let at = message_at world c.args.number _ c.in-Some.octets.now octets c.deref.ensures.value c.in-Some.ensures.lookup.3.0 c.in-Some.ensures.lookup.1 c.deref-2.ensures.value in
    let unread = subst (λ read. MatchOption read (IsUnread octets) (IsSpelled octets)) c.in_default-2.is c.in_ok-message.ensures in
    delivers_unread c.args.number (address_octets c.args.to.now) octets c.args.now world (octets_each c.new-in_default-2.result.items) (ap octets_each c.new-in_default-2.ensures.items) at unread

pub returns-then-is_to_rooms : goal.returns-then-is_to_rooms
returns-then-is_to_rooms c =
    let world = c.args.self.now in
    let new : World = record { alloc = world.alloc; rooms = c.deliver.new.self; organisers = world.organisers; sent = world.sent } in
    let octets = c.deref-2.result.now in
    let message = c.in-Some-2.message in
    let at = message_at world c.args.number _ c.in-Some.octets.now octets c.deref.ensures.value c.in-Some.ensures.lookup.3.0 c.in-Some.ensures.lookup.1 c.deref-2.ensures.value in
    let spelled = subst (λ read. MatchOption read (IsUnread octets) (IsSpelled octets)) c.in-Some-2.is c.in_ok-message.ensures in
    let for_rooms : is_to_rooms (method_said message.method) ≡ true = ap (λ m. is_to_rooms (method_said m)) (sym c.method-method.ensures) ∙ sym c.is_to_rooms.ensures ∙ c.if-is_to_rooms.true in
    IfOk-weaker c.deliver.result _ _
    (λ sent sends. delivers_to_room c.args.number (address_octets c.args.to.now) octets c.args.now world new (octets_each sent.items) message at spelled for_rooms sends refl refl)
    c.deliver.ensures

pub returns-then-is_of_attendee : goal.returns-then-is_of_attendee
returns-then-is_of_attendee c =
    let world = c.args.self.now in
    let octets = c.deref-2.result.now in
    let message = c.in-Some-2.message in
    let at = message_at world c.args.number _ c.in-Some.octets.now octets c.deref.ensures.value c.in-Some.ensures.lookup.3.0 c.in-Some.ensures.lookup.1 c.deref-2.ensures.value in
    let spelled = subst (λ read. MatchOption read (IsUnread octets) (IsSpelled octets)) c.in-Some-2.is c.in_ok-message.ensures in
    let of_attendee : is_of_attendee (method_said message.method) ≡ true = ap (λ m. is_of_attendee (method_said m)) (sym c.method-method.ensures) ∙ sym c.is_of_attendee.ensures ∙ c.if-is_of_attendee.true in
    IfOk-weaker c.tell_organiser.result _ _
    (λ sent tells. delivers_told c.args.number (address_octets c.args.to.now) octets c.args.now world c.tell_organiser.new.self (octets_each sent.items) message at spelled of_attendee tells)
    c.tell_organiser.ensures

pub returns : goal.returns
returns c =
    let world = c.args.self.now in
    let octets = c.deref-2.result.now in
    let message = c.in-Some-2.message in
    let at = message_at world c.args.number _ c.in-Some.octets.now octets c.deref.ensures.value c.in-Some.ensures.lookup.3.0 c.in-Some.ensures.lookup.1 c.deref-2.ensures.value in
    let spelled = subst (λ read. MatchOption read (IsUnread octets) (IsSpelled octets)) c.in-Some-2.is c.in_ok-message.ensures in
    let not_rooms : is_to_rooms (method_said message.method) ≡ false = ap (λ m. is_to_rooms (method_said m)) (sym c.method-method.ensures) ∙ sym c.is_to_rooms.ensures ∙ c.if-is_to_rooms.false in
    let not_attendee : is_of_attendee (method_said message.method) ≡ false = ap (λ m. is_of_attendee (method_said m)) (sym c.method-method.ensures) ∙ sym c.is_of_attendee.ensures ∙ c.if-is_of_attendee.false in
    delivers_store c.args.number (address_octets c.args.to.now) octets c.args.now world (octets_each c.new-2.result.items) message (ap octets_each c.new-2.ensures.items) at spelled not_rooms not_attendee
