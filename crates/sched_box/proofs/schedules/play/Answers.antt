-- What holds in each world that a schedule leads to, holds in each that these steps lead to.
use Rattle.std.specs.Prelude.{map}
use Rattle.ical_values.specs.Octets.{address_octets}
use Rattle.sched_box.specs.Schedules.{step_said}
use Rattle.sched_box.specs.Settings.{zoned_room}
use Rattle.sched_box.proofs.ZoneLemmas.{in_zones}
use Rattle.sched_box.proofs.schedules.play.Goals as goal

pub returns-clause-booked : goal.returns-clause-booked
returns-clause-booked c after plays is =
    c.schedules_hold.ensures.booked (map zoned_room c.args.rooms.now) (map address_octets c.args.organisers.now) (map step_said c.args.steps.now) after (in_zones c.args.rooms.now) plays

pub returns-clause-confirmed : goal.returns-clause-confirmed
returns-clause-confirmed c after plays is =
    c.schedules_hold.ensures.confirmed (map zoned_room c.args.rooms.now) (map address_octets c.args.organisers.now) (map step_said c.args.steps.now) after (in_zones c.args.rooms.now) plays

pub returns-clause-read : goal.returns-clause-read
returns-clause-read c after plays is =
    c.schedules_hold.ensures.read (map zoned_room c.args.rooms.now) (map address_octets c.args.organisers.now) (map step_said c.args.steps.now) after (in_zones c.args.rooms.now) plays

pub returns-clause-clear : goal.returns-clause-clear
returns-clause-clear c after plays is =
    c.schedules_hold.ensures.clear (map zoned_room c.args.rooms.now) (map address_octets c.args.organisers.now) (map step_said c.args.steps.now) after (in_zones c.args.rooms.now) plays

pub returns-clause-spells : goal.returns-clause-spells
returns-clause-spells c after plays is =
    c.schedules_hold.ensures.spells (map zoned_room c.args.rooms.now) (map address_octets c.args.organisers.now) (map step_said c.args.steps.now) after (in_zones c.args.rooms.now) plays

pub returns-clause-kept : goal.returns-clause-kept
returns-clause-kept c after plays is =
    c.schedules_hold.ensures.kept (map zoned_room c.args.rooms.now) (map address_octets c.args.organisers.now) (map step_said c.args.steps.now) after (in_zones c.args.rooms.now) plays
