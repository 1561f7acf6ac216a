-- Whose VEVENTs are, and which instances they are for.
use Rattle.std.specs.Prelude.{ℕ, List, [], ◌∷◌, get_or, Option, ℤ}
use Rattle.cal_events.specs.declared.entries.ComponentName.{ComponentName}

-- a meeting: its organiser and its UID
abbrev pub MeetingName : Type 0
MeetingName = List ℕ × List ℕ

-- a VEVENT's meeting, and which instance it is for
abbrev pub Name : Type 0
Name = MeetingName × Option ℤ

-- that of an entry and a UID, where the organisers are these
abbrev pub name_of : List (List ℕ) → List ℕ → ComponentName → Name
name_of organisers uid e = ((get_or organisers e.organiser [], uid), e.recurrence)

-- those of entries and their UIDs
abbrev pub names_of : List (List ℕ) → List (List ℕ) → List ComponentName → List Name
names_of organisers uids [] = []
names_of organisers [] (e ∷ entries) = []
names_of organisers (uid ∷ uids) (e ∷ entries) = name_of organisers uid e ∷ names_of organisers uids entries
