-- The lines of the VEVENT that hides an instance, one after another.
use Rattle.std.proofs.Common.{◌++◌, ◌∙◌, codes, sym, ap}
use Rattle.ical_values.specs.Octets.{address_octets}
use Rattle.itip_order.specs.Parts.{part_of}
use Rattle.profile.specs.text.Lines.{folded}
use Rattle.itip_messages.specs.Reply.{slot_at as recurrence_slot}
use Rattle.room_books.proofs.texts_lemmas.PartLines.{hidden_written, no_hidden}
use Rattle.room_books.proofs.texts.write_hidden.Goals as goal

pub returns : goal.returns
returns c zones =
    let room = address_octets c.args.room.now in
    let part = part_of c.args.part.now in
    hidden_written room part c.args.object.now c.write_head.new.object c.line-2.new.self c.named.new.self c.named-2.new.self c.line-3.new.self c.in_ok-write_head.ensures
    c.in-Some-recurrence.start c.stamp.new.self c.line.new.self zones (sym c.in-Some.ensures.slot ∙ ap recurrence_slot c.in-Some-recurrence.is)
    c.in_ok-stamp.ensures.ok c.in_ok-line.ensures.ok c.in_ok-line-2.ensures.ok
    (c.in_ok-named.ensures.ok ∙ ap (λ l. c.line-2.new.self ++ folded (codes "ORGANIZER:" ++ l)) c.as_str.ensures)
    (c.in_ok-named-2.ensures.ok ∙ ap (λ l. c.named.new.self ++ folded (codes "ATTENDEE;PARTSTAT=DECLINED:" ++ l)) c.as_str-2.ensures)
    c.in_ok-line-3.ensures.ok

pub returns-in_default : goal.returns-in_default
returns-in_default c zones = no_hidden (address_octets c.args.room.now) (part_of c.args.part.now) zones c.args.object.now c.in_default.ensures.none
