-- Whose VEVENTs are, and what is at a place of a calendar's VEVENTs.
use Rattle.std.specs.Prelude.{◌≡◌, ◌<◌, ℕ, List, [], length, get_or, Option, None, ℤ}
use Rattle.profile.specs.events.EventComponents.{EventComponent, meeting_said}
use Rattle.cal_events.specs.Entries.{MeetingName, Name}

abbrev pub name_said : EventComponent → Name
name_said event = (meeting_said event, event.recurrence)

abbrev pub name_at : List Name → ℕ → Name
name_at names k = get_or names k (([], []), None)

-- the meeting of the VEVENT there
abbrev pub meeting_at : List Name → ℕ → MeetingName
meeting_at names k = (name_at names k).0

-- the instance that it is for
abbrev pub recurrence_at : List Name → ℕ → Option ℤ
recurrence_at names k = (name_at names k).1

-- a text is at a place of some
abbrev pub IsThere : List (List ℕ) → ℕ → List ℕ → Type 0
IsThere texts k text = (k < length texts) × (get_or texts k [] ≡ text)
