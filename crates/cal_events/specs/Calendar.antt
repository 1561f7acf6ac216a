-- What the types of instances and calendars represent.
use Rattle.std.specs.Prelude.{List, ◌<◌, ◌≢◌, length, All, AllPairs, Contains, ℤ}
use Rattle.cal_events.specs.declared.sweep.Span.{Span}
use Rattle.profile.specs.checker.Instances.{Key, Instance as SaidInstance}
use Rattle.profile.specs.events.Starts.{IsInstance}
use Rattle.profile.specs.events.Confirmed.{Confirmed, IsInSeries}
use Rattle.ical_values.specs.Octets.{address_octets, text_octets}
use Rattle.cal_events.specs.Entries.{Name}
pub use Rattle.cal_events.specs.Entries.{MeetingName}
use Rattle.cal_events.specs.Names.{meeting_at}
use Rattle.cal_events.specs.declared.instance.InstanceKey.{InstanceKey}
use Rattle.cal_events.specs.declared.instance.Instance.{Instance}
use Rattle.cal_events.specs.declared.instance.OwnedKey.{OwnedKey}
use Rattle.cal_events.specs.declared.calendar.PlacedSingle.{PlacedSingle as Single}

-- the key that borrows its texts
abbrev pub key_of : InstanceKey → Key
key_of k = record { organiser = k.organiser.now; uid = k.uid.now; slot = k.slot }

-- the instance that borrows its texts
abbrev pub instance_of : Instance → SaidInstance
instance_of i = record { key = key_of i.key; start = i.start; end = i.end }

-- the key that owns its texts
abbrev pub owned_key_of : OwnedKey → Key
owned_key_of k = record { organiser = address_octets k.organiser; uid = text_octets k.uid; slot = k.slot }

-- ---- a calendar

-- the key of a meeting's instance
abbrev pub key_in : MeetingName → ℤ → Key
key_in m slot = record { organiser = m.0; uid = m.1; slot = slot }

-- a single of a VEVENT of that meeting
abbrev pub instance_as : MeetingName → Single → SaidInstance
instance_as m s = record { key = key_in m s.slot; start = s.start; end = s.end }

-- a single of one of these VEVENTs
abbrev pub named_instance : List Name → Single → SaidInstance
named_instance entries s = instance_as (meeting_at entries s.entry) s

-- the singles are of these VEVENTs
abbrev pub AreWithin : List Name → List Single → Type 0
AreWithin entries singles = All (λ s. s.entry < length entries) singles

-- different places have different keys
abbrev pub HaveDifferentKeys : List SaidInstance → Type 0
HaveDifferentKeys all = AllPairs (λ a b. a.key ≢ b.key) all

-- instances of two series have different keys, and so have a single and an instance of a series
abbrev pub HaveOwnKeys : Confirmed → Type 0
HaveOwnKeys confirmed =
    AllPairs (λ one other. (a b : SaidInstance) → IsInstance one a → IsInstance other b → a.key ≢ b.key) confirmed.series
    × ((a b : SaidInstance) → Contains confirmed.singles a → IsInSeries confirmed.series b → a.key ≢ b.key)

-- the span of a single
abbrev pub span_of : Single → Span
span_of s = record { start = s.start; end = s.end }
