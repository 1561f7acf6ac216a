-- It is told in its place.
use Rattle.std.proofs.Common.{sym, true}
use Rattle.ical_values.specs.Octets.{address_octets}
use Rattle.organiser_books.specs.declared.attending.Attendance.{Attendance}
use Rattle.organiser_books.proofs.Telling.{told_known}
use Rattle.organiser_books.proofs.attending.tell_one.Goals as goal

pub returns-in-Some : goal.returns-in-Some
returns-in-Some c =
    let known = c.in-Some.attendance.now in
    let now : Attendance = record known { told = true } in
    let w = c.get_mut.follows.holds now in
    told_known (address_octets c.args.address.now) c.args.attending.now.entries (c.get_mut.follows.lender now).entries known (sym c.in-Some.ensures.value) w.1 w.0
