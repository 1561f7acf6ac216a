-- The lines of a part's VEVENT, one after another.
use Rattle.std.proofs.Common.{◌≡◌, ◌++◌, ◌∙◌, ℕ, true, Vec, Global, codes, refl, sym, ap, subst}
use Rattle.std.proofs.lemmas.Bool.{true≢false}
use Rattle.itip_order.specs.declared.part.Body.{Body}
use Rattle.itip_order.specs.declared.part.Body.TheVariants.{Set, Absent, Cancelled}
use Rattle.profile.specs.rooms.Rooms.{is_set_body}
use Rattle.ical_values.specs.Octets.{address_octets}
use Rattle.itip_order.specs.Parts.{part_of, body_of}
use Rattle.profile.specs.text.Lines.{folded}
use Rattle.profile.specs.rooms.Revisions as revisions
use Rattle.itip_messages.specs.BodyText.{WritesBody}
use Rattle.room_books.proofs.texts_lemmas.PartLines.{shown_written, no_event}
use Rattle.room_books.proofs.texts.write_part.Goals as goal

not_set : (body : Body) → ((x : Vec ℕ Global) → body ≡ Set x → ⊥) → is_set_body (body_of body) ≡ true → ⊥
not_set (Set x) h e = h x refl
not_set Absent h e = true≢false (sym e)
not_set Cancelled h e = true≢false (sym e)

pub returns : goal.returns
returns c =
    let room = address_octets c.args.room.now in
    let part = part_of c.args.part.now in
    let body = c.in-Set.body.items in
    let set : part.body ≡ revisions.Set body = ap body_of c.in-Set.is in
    let w = subst (λ b. WritesBody b c.args.zones.now c.write_body.new.zones c.write_head.new.object c.write_body.new.object) c.as_slice.ensures.value c.in_ok-write_body.ensures.ok in
    shown_written room part c.args.object.now c.write_head.new.object c.write_body.new.object c.named.new.self c.named-2.new.self c.line.new.self c.in_ok-write_head.ensures body c.args.zones.now c.write_body.new.zones set w
    (c.in_ok-named.ensures.ok ∙ ap (λ l. c.write_body.new.object ++ folded (codes "ORGANIZER:" ++ l)) c.as_str.ensures)
    (c.in_ok-named-2.ensures.ok ∙ ap (λ l. c.named.new.self ++ folded (codes "ATTENDEE;PARTSTAT=ACCEPTED:" ++ l)) c.as_str-2.ensures)
    c.in_ok-line.ensures.ok

pub returns-in_default : goal.returns-in_default
returns-in_default c = no_event (address_octets c.args.room.now) (part_of c.args.part.now) c.args.zones.now c.args.object.now (λ set. not_set c.args.part.now.body c.in_default.not-Set set)
