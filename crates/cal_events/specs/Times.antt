-- What the times of a VEVENT that were read represent.
use Rattle.std.specs.Prelude.{Option, Some, None, option_map, [], map, ℤ}
use Rattle.ical_values.specs.declared.duration.Duration.{Duration}
use Rattle.profile.specs.events.Properties as properties
use Rattle.profile.specs.events.ZonedTimes as zoned
use Rattle.profile.specs.series.Zones.{Zone}
use Rattle.cal_zones.specs.Kinds.{zone_of}
use Rattle.cal_events.specs.declared.event_times.EventTimes.{EventTimes}
use Rattle.profile.specs.events.Occurrences as occurrences
use Rattle.cal_events.specs.declared.time.Time.{Time}
use Rattle.cal_events.specs.declared.occurrences.WrittenTimes.{WrittenTimes}
use Rattle.cal_events.specs.declared.when.Form.{Form}
use Rattle.cal_events.specs.declared.when.Form.TheVariants as forms
use Rattle.cal_events.specs.declared.when.When.{When}
use Rattle.cal_events.specs.declared.when.When.TheVariants.{Utc, Zoned, Floating, WholeDay}

abbrev pub length_of : Duration → properties.Length
length_of d = record { days = d.days; seconds = d.seconds }

abbrev pub form_of : Form → properties.Form
form_of forms.Fixed = properties.Fixed
form_of forms.Floating = properties.Floating
form_of forms.WholeDay = properties.WholeDay

-- the form of a time
abbrev pub form_said : When → properties.Form
form_said (Utc local) = properties.Fixed
form_said (Zoned local zone) = properties.Fixed
form_said (Floating local room) = properties.Floating
form_said (WholeDay local room) = properties.WholeDay

-- the zone of a time, None for UTC
abbrev pub zone_said : When → Option Zone
zone_said (Utc local) = None
zone_said (Zoned local zone) = Some (zone_of zone)
zone_said (Floating local room) = option_map zone_of room
zone_said (WholeDay local room) = option_map zone_of room

-- what its clocks show
abbrev pub local_said : When → ℤ
local_said (Utc local) = local
local_said (Zoned local zone) = local
local_said (Floating local room) = local
local_said (WholeDay local room) = local

-- the times of a VEVENT that were read
abbrev pub times_of : EventTimes → zoned.EventTimes
times_of t = record { form = form_said t.start; zone = zone_said t.start; local = local_said t.start; start = t.instant; length = length_of t.length }

-- a time as it is written
abbrev pub time_of : Time → occurrences.Time
time_of t = record { form = form_of t.form; instant = t.instant }

abbrev pub written_of : WrittenTimes → occurrences.WrittenTimes
written_of w = record { recurrence = option_map time_of w.recurrence; additions = map time_of w.additions.items; exceptions = map time_of w.exceptions.items }

-- nothing of that
abbrev pub none_written : occurrences.WrittenTimes
none_written = record { recurrence = None; additions = []; exceptions = [] }
