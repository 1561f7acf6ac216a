-- What a VEVENT says beside an object it says beside another one whose VTIMEZONEs have the same names.
-- Cited by zone_named_keeps of with_zone.
use Rattle.std.proofs.Common.{◌≡◌, inl, inr, ℕ, ℤ, Bool, true, false, List, [], ◌∷◌, Option, Some, None, length, subst, codes}
use Rattle.std.specs.List.{AllZip}
use Rattle.profile.specs.text.Trees.{Tree}
use Rattle.profile.specs.series.Zones.{Zone}
use Rattle.profile.specs.events.Properties.{Form, Fixed, Floating, WholeDay, Length, Says, BothOrNeither}
use Rattle.profile.specs.events.ZonedTimes.{zone_named, SaysZoneOf, SpellsZoned, SpellsForm, SaysZonedText, SaysInDates, EventTimes, LastsSo, LastsAlone, SaysEventTimes, SaysNoStart, SaysTimes}
use Rattle.profile.specs.events.Occurrences.{Time, WrittenTimes, ListedTime, IsRecurrenceLine, IsListed, IsInside, Lists, SaysOccurrences}
use Rattle.profile.specs.events.EventComponents.{Method, EventComponent, SaysEventComponent}

-- each name means the same VTIMEZONE in both, or none
abbrev pub SameZones : Tree → Tree → Type 0
SameZones a b = (name : List ℕ) → zone_named name a ≡ zone_named name b

zoned : (a b : Tree) → SameZones a b → (name : Option (List ℕ)) (text : List ℕ) (zone : Option Zone) (local : ℤ) → SpellsZoned a name text zone local → SpellsZoned b name text zone local
zoned a b same None text None local h = h
zoned a b same (Some name) text (Some zone) local (spells, says) = (spells, subst (λ (o : Option Tree). SaysZoneOf o zone) (same name) says)
zoned a b same None text (Some zone) local h = h
zoned a b same (Some name) text None local h = h

formed : (a b : Tree) → SameZones a b → (name : Option (List ℕ)) (text : List ℕ) (form : Form) (zone : Option Zone) (local : ℤ) → SpellsForm a name text form zone local → SpellsForm b name text form zone local
formed a b same name text Fixed zone local h = zoned a b same name text zone local h
formed a b same name text Floating _ local h = h
formed a b same name text WholeDay _ local h = h

text_there : (a b : Tree) → SameZones a b → (line text : List ℕ) (form : Form) (zone : Option Zone) (local : ℤ) → SaysZonedText a line text form zone local → SaysZonedText b line text form zone local
text_there a b same line text form zone local (kind, h) = (kind, formed a b same _ text form zone local h)

dated : (a b : Tree) → SameZones a b → (is_end : Bool) (line : List ℕ) (form : Form) (instant : ℤ) → SaysInDates is_end a line form instant → SaysInDates is_end b line form instant
dated a b same is_end line form instant (zone, local, says, means, dates) = (zone, local, text_there a b same line _ form zone local says, means, dates)

-- ---- the times of a VEVENT

lasts_there : (a b : Tree) → SameZones a b → (form : Form) (start : ℤ) (end duration : Option (List ℕ)) (length : Length) → LastsSo a form start end duration length → LastsSo b form start end duration length
lasts_there a b same form start None None length h = h
lasts_there a b same form start (Some line) None length (counted, says) = (counted, dated a b same true line form _ says)
lasts_there a b same form start None (Some line) length h = h
lasts_there a b same form start (Some line) (Some other) length h = h

alone_there : (a b : Tree) → SameZones a b → (end duration : Option (List ℕ)) (length : Length) → LastsAlone a end duration length → LastsAlone b end duration length
alone_there a b same None None length h = h
alone_there a b same (Some line) None length (none, (form, end, says)) = (none, (form, end, dated a b same true line form end says))
alone_there a b same None (Some line) length h = h
alone_there a b same (Some line) (Some other) length h = h

start_there : (a b : Tree) → SameZones a b → (lines : List (List ℕ)) (times : EventTimes) → SaysEventTimes a lines times → SaysEventTimes b lines times
start_there a b same lines times t = record {
  line = t.line;
  once = t.once;
  says = text_there a b same t.line _ times.form times.zone times.local t.says;
  means = t.means;
  end_line = t.end_line;
  duration_line = t.duration_line;
  end_once = t.end_once;
  duration_once = t.duration_once;
  lasts = lasts_there a b same times.form times.start t.end_line t.duration_line times.length t.lasts;
  most = t.most;
  in_dates = t.in_dates;
}

no_start_there : (a b : Tree) → SameZones a b → (lines : List (List ℕ)) (times : EventTimes) → SaysNoStart a lines times → SaysNoStart b lines times
no_start_there a b same lines times t = record {
  missing = t.missing;
  end_line = t.end_line;
  duration_line = t.duration_line;
  end_once = t.end_once;
  duration_once = t.duration_once;
  lasts = alone_there a b same t.end_line t.duration_line times.length t.lasts;
  most = t.most;
  form = t.form;
  zone = t.zone;
  local = t.local;
  start = t.start;
}

times_there : (a b : Tree) → SameZones a b → (may_lack : Bool) (lines : List (List ℕ)) (times : EventTimes) → SaysTimes may_lack a lines times → SaysTimes may_lack b lines times
times_there a b same may_lack lines times (inl t) = inl (start_there a b same lines times t)
times_there a b same may_lack lines times (inr (may, t)) = inr (may, no_start_there a b same lines times t)

-- ---- its occurrences

both_there : (a b : Tree) → SameZones a b → (line : Option (List ℕ)) (time : Option Time) → BothOrNeither (IsRecurrenceLine a) line time → BothOrNeither (IsRecurrenceLine b) line time
both_there a b same None None h = h
both_there a b same (Some line) (Some time) (ranged, says) = (ranged, dated a b same false line time.form time.instant says)
both_there a b same None (Some time) h = h
both_there a b same (Some line) None h = h

instance_there : (a b : Tree) → SameZones a b → (lines : List (List ℕ)) (time : Option Time) → Says (codes "RECURRENCE-ID") false (IsRecurrenceLine a) lines time → Says (codes "RECURRENCE-ID") false (IsRecurrenceLine b) lines time
instance_there a b same lines time s = record { line = s.line; once = s.once; present = s.present; is = both_there a b same s.line time s.is }

listed_there : (a b : Tree) → SameZones a b → (name : List ℕ) (entries : List ListedTime) (times : List Time) → AllZip (IsListed a name) entries times → AllZip (IsListed b name) entries times
listed_there a b same name [] [] h = h
listed_there a b same name [] (time ∷ times) h = h
listed_there a b same name (entry ∷ entries) [] h = h
listed_there a b same name ((line, text) ∷ entries) (time ∷ times) ((period, (zone, local, says, means)), rest) =
    ((period, (zone, local, text_there a b same line text time.form zone local says, means)), listed_there a b same name entries times rest)

lists_there : (a b : Tree) → SameZones a b → (name : List ℕ) (entries : List ListedTime) (times : List Time) → Lists a name entries times → Lists b name entries times
lists_there a b same name entries times (each, most) = (listed_there a b same name entries times each, most)

inside_there : (a b : Tree) → SameZones a b → (entries : List ListedTime) (times : List Time) → AllZip (IsInside a) entries times → AllZip (IsInside b) entries times
inside_there a b same [] [] h = h
inside_there a b same [] (time ∷ times) h = h
inside_there a b same (entry ∷ entries) [] h = h
inside_there a b same ((line, text) ∷ entries) (time ∷ times) ((zone, local, says, means, dates), rest) =
    ((zone, local, text_there a b same line text time.form zone local says, means, dates), inside_there a b same entries times rest)

occurrences_there : (a b : Tree) → SameZones a b → (added fixed : Bool) (lines : List (List ℕ)) (written : WrittenTimes) → SaysOccurrences added fixed a lines written → SaysOccurrences added fixed b lines written
occurrences_there a b same added fixed lines written o = record {
  is = instance_there a b same lines written.recurrence o.is;
  fixed_recurrence = o.fixed_recurrence;
  adds = lists_there a b same (codes "RDATE") _ written.additions o.adds;
  inside = inside_there a b same _ written.additions o.inside;
  takes = lists_there a b same (codes "EXDATE") _ written.exceptions o.takes;
  alone = o.alone;
}

-- ---- all that it says

pub event_there : (a b : Tree) → SameZones a b → (method : Option Method) (lines : List (List ℕ)) (event : EventComponent) → SaysEventComponent a method lines event → SaysEventComponent b method lines event
event_there a b same method lines event e = record {
  uid = e.uid;
  organiser = e.organiser;
  stamp = e.stamp;
  sequence = e.sequence;
  status = e.status;
  times = times_there a b same _ lines event.times e.times;
  rule = e.rule;
  occurrences = occurrences_there a b same _ _ lines event.written e.occurrences;
  instants = e.instants;
  summary = e.summary;
  attendees = e.attendees;
}
