-- What an iterator over the singles of a calendar has left.
use Rattle.std.specs.Prelude.{List, map}
use Rattle.profile.specs.checker.Instances.{Instance}
use Rattle.cal_events.specs.Calendar.{named_instance}
use Rattle.cal_events.specs.declared.calendar.Singles.{Singles}

abbrev pub singles_left : Singles → List Instance
singles_left s = map (named_instance s.entries.now) s.singles.now
