use Rattle.std.proofs.Common.{◌∙◌, sym}
use Rattle.ical_values.specs.Octets.{address_octets}
use Rattle.sched_cli.proofs.agenda.read_calendar.Goals as goal

pub returns-then-not-is_of_room-clause-fault : goal.returns-then-not-is_of_room-clause-fault
returns-then-not-is_of_room-clause-fault c =
    let s = c.in_ok-calendar.ensures.spells in
    record {
      confirmed = c.in_ok-calendar.calendar;
      spelled = s.0;
      of_others = sym (c.is_of_room.ensures (address_octets c.args.room.now) s.0.says.events s.1) ∙ c.if-not-is_of_room.true;
    }

pub returns-clause-read : goal.returns-clause-read
returns-clause-read c =
    let s = c.in_ok-calendar.ensures.spells in
    record {
      spelled = s.0;
      of_room = sym (c.is_of_room.ensures (address_octets c.args.room.now) s.0.says.events s.1) ∙ c.if-not-is_of_room.false;
      counted = c.not_accepted.ensures (address_octets c.args.room.now) s.0.says.events s.1;
    }
