use Rattle.std.proofs.Common.{◌≡◌, ◌∙◌, ◌++◌, ◌∷◌, [], sym, ap, subst, None, false}
use Rattle.std.specs.Map.{set_value}
use Rattle.indexmap.proofs.CallerLemmas.{insert_entry-new}
use Rattle.ical_values.specs.Octets.{address_octets}
use Rattle.cal_events.specs.Component.{attendee_of}
use Rattle.organiser_books.specs.Attending.{attendance_of, is_address}
use Rattle.organiser_books.specs.declared.attending.Attendance.{Attendance}
use Rattle.organiser_books.proofs.Noting.{noted_known, noted_new, same_address}
use Rattle.organiser_books.proofs.attending.note.Goals as goal

pub returns-in-Some : goal.returns-in-Some
returns-in-Some c = λ done own h.
    let w = c.get_mut.follows.holds c.with.result in
    let es = c.args.attending.now.entries in
    let address = address_octets c.args.attendee.now.address in
    noted_known done c.args.place own (attendee_of c.args.attendee.now) es (c.get_mut.follows.lender c.with.result).entries c.in-Some.known.now (sym c.in-Some.ensures.value) w.1
    (w.0 ∙ ap (set_value (is_address address) es) c.with.ensures) h

pub returns : goal.returns
returns c = λ done own h.
    let m = c.get_mut.follows.lender-at-none in
    let es = c.args.attending.now.entries in
    let address = c.in_ok-address.address in
    let attendee = attendee_of c.args.attendee.now in
    let value : Attendance = record { scheduled = attendee.scheduled; component = c.args.place; told = false } in
    let was : attendance_of attendee.address es ≡ None = sym c.in_default.ensures.value in
    let same : m ≡ c.args.attending.now = c.get_mut.follows.holds-at-none in
    let none : attendance_of (address_octets address) m.entries ≡ None = subst (λ l. attendance_of (address_octets address) l.entries ≡ None) (sym same) (ap (λ q. attendance_of q es) c.in_ok-address.ensures.cases ∙ was) in
    noted_new done c.args.place own attendee es c.insert.new.self.entries address c.in_ok-address.ensures.cases was
    (c.in_ok-insert.ensures.entries ∙ insert_entry-new same_address m address value none ∙ ap (λ l. l.entries ++ (address, value) ∷ []) same) h
