-- The numbers of the faults of a VEVENT, and which of them are left where no time names a zone.
-- Cited by read_event.
use Rattle.std.proofs.Common.{eqb, ◌≡◌, ◌∙◌, ap, refl, inl, inr, ℕ, Bool, true, false, cond, ◌||◌, List, codes}
use Rattle.std.specs.Prelude.{Option, Some, None}
use Rattle.ical_lines.specs.Fault.{RefusesOnly, RefusesBy}
use Rattle.ical_lines.specs.declared.fault.Fault.{Fault}
use Rattle.ical_lines.specs.declared.fault.Fault.TheVariants.{Refused, Memory}
use Rattle.profile.specs.faults.Faults.{is_event_fault, is_zoned_event_fault, is_zone_fault, is_rule_fault, is_series_event_fault, is_meeting_event_fault}
use Rattle.profile.specs.text.Lines.{line_param, line_value}
use Rattle.profile.specs.text.Trees.{Tree}
use Rattle.profile.specs.series.ZoneTexts.{PartsFault, no_part, in_part, ruled, other_parts, unruled, unmatched, close, TimesFault, dates, missing as part_missing, twice as part_twice, fixed, bad_start as bad_part, bad_from, bad_to}
use Rattle.profile.specs.events.Properties.{TimeKind, Unsaid, DateTime, Date, Period, Other, time_kind, NoTimeFault, KindFault, ends_in_z}
use Rattle.profile.specs.events.ZonedTimes.{zone_named, LocalFault, NamedFault, FaultIn, ZonedTimeFault, EventTimesFault, bad_start, bad_end, bad_duration, ends_early, ends_late, lasts_long, starts_out, ends_out, other_form, part_of_day, end_and_duration}
use Rattle.profile.specs.series.RuleTexts.{RuleFault, unknown, bad_value, no_frequency, two_frequencies, twice as rule_twice, apart, two_ends}
use Rattle.profile.specs.events.EventRules.{EventRuleFault, bad_rule, starts_outside}
use Rattle.profile.specs.events.Occurrences.{ListedTime, EntryFault, entries_named, EntriesFault, in_entry, too_many, OccurrenceFault, bad_recurrence, bad_additions, bad_exceptions, recurrence_out, additions_out, unfixed, ranged, recurs}
use Rattle.profile.specs.events.EventComponents.{EventComponentFault, in_times, in_rule, in_occurrences, bad_stamp, bad_uid, bad_organiser, bad_attendee, bad_sequence, in_presence, PresenceFault, twice, missing, missing_number, Property, UID, ORGANIZER, DTSTAMP, SEQUENCE, STATUS, RECURRENCE-ID, DTSTART, DTEND, DURATION, RRULE, RDATE, EXDATE, ATTENDEE, SUMMARY, Method}

abbrev Lines : Type 0
Lines = List (List ℕ)

-- ---- one line

malformed_is : (b : Bool) → is_event_fault (cond b 10 11) ≡ true
malformed_is true = refl
malformed_is false = refl

no_time_number : (text : List ℕ) (n : ℕ) → NoTimeFault text n → is_event_fault n ≡ true
no_time_number text n f = ap is_event_fault f.2 ∙ malformed_is (ends_in_z text)

kind_number : (kind : TimeKind) (text : List ℕ) (n : ℕ) → KindFault kind text n → is_event_fault n ≡ true
kind_number Unsaid text n f = no_time_number text n f.1
kind_number DateTime text n f = no_time_number text n f
kind_number Date text n f = ap is_event_fault f.1
kind_number Period text n f = ap is_event_fault f
kind_number Other text n f = ap is_event_fault f

local_number : (kind : TimeKind) (text : List ℕ) (n : ℕ) → LocalFault kind text n → is_event_fault n ≡ true
local_number Unsaid text n f = ap is_event_fault f.1
local_number DateTime text n f = ap is_event_fault f.1
local_number Date text n f = ap is_event_fault f
local_number Period text n f = ap is_event_fault f
local_number Other text n f = ap is_event_fault f

wider : (n : ℕ) → is_event_fault n ≡ true → is_zoned_event_fault n ≡ true
wider n h = ap (λ b. b || is_zone_fault n) h

part_number : (lines : Lines) (n : ℕ) → TimesFault lines n → is_zoned_event_fault n ≡ true
part_number lines n (dates h) = refl
part_number lines n (part_missing name c h) = refl
part_number lines n (part_twice name c h) = refl
part_number lines n (fixed h) = refl
part_number lines n (bad_part h) = refl
part_number lines n (bad_from h) = refl
part_number lines n (bad_to h) = refl

parts_number : (parts standards daylights : List Lines) (n : ℕ) → PartsFault parts standards daylights n → is_zoned_event_fault n ≡ true
parts_number parts standards daylights n (no_part h) = refl
parts_number parts standards daylights n (in_part part c h) = part_number part n h
parts_number parts standards daylights n (ruled part d o h) = refl
parts_number parts standards daylights n (other_parts d o h) = refl
parts_number parts standards daylights n (unruled s l d o p h) = refl
parts_number parts standards daylights n (unmatched z f h) = refl
parts_number parts standards daylights n (close z f h) = refl

named_number : (o : Option Tree) (n : ℕ) → NamedFault o n → is_zoned_event_fault n ≡ true
named_number None n f = ap is_zoned_event_fault f
named_number (Some part) n f = parts_number _ _ _ n f

text_number : (object : Tree) (o : Option (List ℕ)) (kind : TimeKind) (text : List ℕ) (n : ℕ) → FaultIn object o kind text n → is_zoned_event_fault n ≡ true
text_number object None kind text n f = wider n (kind_number kind text n f)
text_number object (Some name) kind text n (inl f) = wider n (local_number kind text n f)
text_number object (Some name) kind text n (inr (_, _, f)) = named_number (zone_named name object) n f

line_number : (object : Tree) (line : List ℕ) (n : ℕ) → ZonedTimeFault object line n → is_zoned_event_fault n ≡ true
line_number object line n f = text_number object (line_param (codes "TZID") line) (time_kind line) (line_value line) n f

-- ---- the times, and the event

pub times_number : (object : Tree) (lines : Lines) (n : ℕ) → EventTimesFault object lines n → is_zoned_event_fault n ≡ true
times_number object lines n (bad_start l) = line_number object l.0 n l.2
times_number object lines n (bad_end l) = line_number object l.0 n l.2
times_number object lines n (bad_duration l) = refl
times_number object lines n (ends_early x) = refl
times_number object lines n (ends_late x) = refl
times_number object lines n (lasts_long l) = refl
times_number object lines n (starts_out l) = refl
times_number object lines n (ends_out l) = refl
times_number object lines n (other_form x) = refl
times_number object lines n (part_of_day x) = refl
times_number object lines n (end_and_duration e d) = refl

-- ---- a series

series_wider : (n : ℕ) → is_zoned_event_fault n ≡ true → is_series_event_fault n ≡ true
series_wider n h = ap (λ b. b || is_rule_fault n) h

rule_text_number : (text : List ℕ) (n : ℕ) → RuleFault text n → is_series_event_fault n ≡ true
rule_text_number text n (unknown part c h) = refl
rule_text_number text n (bad_value key value c h) = refl
rule_text_number text n (no_frequency h) = refl
rule_text_number text n (two_frequencies h) = refl
rule_text_number text n (rule_twice key h) = refl
rule_text_number text n (apart rule s h) = refl
rule_text_number text n (two_ends rule s h) = refl

rule_number : (object : Tree) (lines : Lines) (n : ℕ) → EventRuleFault object lines n → is_series_event_fault n ≡ true
rule_number object lines n (bad_rule l) = rule_text_number (line_value l.0) n l.2.fault
rule_number object lines n (starts_outside l) = refl

-- ---- an event with its instances

meeting_wider : (n : ℕ) → is_series_event_fault n ≡ true → is_meeting_event_fault n ≡ true
meeting_wider n h = ap (λ b. b || eqb n 65 || eqb n 67) h

entry_number : (object : Tree) (name : List ℕ) (e : ListedTime) (n : ℕ) → EntryFault object name e n → is_meeting_event_fault n ≡ true
entry_number object name (line, text) n (inl (_, e)) = ap is_meeting_event_fault e
entry_number object name (line, text) n (inr (_, f)) = meeting_wider n (series_wider n (text_number object (line_param (codes "TZID") line) (time_kind line) text n f))

entries_number : (object : Tree) (name : List ℕ) (es : List ListedTime) (n : ℕ) → EntriesFault object name es n → is_meeting_event_fault n ≡ true
entries_number object name es n (in_entry e c f) = entry_number object name e n f
entries_number object name es n (too_many more) = refl

occurrence_number : {added by_fixed : Bool} (object : Tree) (lines : Lines) (n : ℕ) → OccurrenceFault added by_fixed object lines n → is_meeting_event_fault n ≡ true
occurrence_number object lines n (bad_recurrence l) = meeting_wider n (series_wider n (line_number object l.0 n l.2))
occurrence_number object lines n (bad_additions f) = entries_number object (codes "RDATE") (entries_named (codes "RDATE") lines) n f
occurrence_number object lines n (bad_exceptions f) = entries_number object (codes "EXDATE") (entries_named (codes "EXDATE") lines) n f
occurrence_number object lines n (recurrence_out l) = refl
occurrence_number object lines n (additions_out e c out) = refl
occurrence_number object lines n (unfixed u l) = refl
occurrence_number object lines n (ranged l) = refl
occurrence_number object lines n (recurs t) = refl

missing_is : (property : Property) → is_meeting_event_fault (missing_number property) ≡ true
missing_is UID = refl
missing_is ORGANIZER = refl
missing_is DTSTAMP = refl
missing_is SEQUENCE = refl
missing_is STATUS = refl
missing_is RECURRENCE-ID = refl
missing_is DTSTART = refl
missing_is DTEND = refl
missing_is DURATION = refl
missing_is RRULE = refl
missing_is RDATE = refl
missing_is EXDATE = refl
missing_is ATTENDEE = refl
missing_is SUMMARY = refl

presence_number : (m : Option Method) (lines : Lines) (n : ℕ) → PresenceFault m lines n → is_meeting_event_fault n ≡ true
presence_number m lines n (twice property once h) = refl
presence_number m lines n (missing property asked h) = missing_is property

component_number : (object : Tree) (m : Option Method) (lines : Lines) (n : ℕ) → EventComponentFault object m lines n → is_meeting_event_fault n ≡ true
component_number object m lines n (in_presence f) = presence_number m lines n f
component_number object m lines n (in_times f) = meeting_wider n (series_wider n (times_number object lines n f))
component_number object m lines n (in_rule f) = meeting_wider n (rule_number object lines n f)
component_number object m lines n (in_occurrences f) = occurrence_number object lines n f
component_number object m lines n (bad_stamp l) = refl
component_number object m lines n (bad_uid l) = refl
component_number object m lines n (bad_organiser l) = refl
component_number object m lines n (bad_attendee l) = refl
component_number object m lines n (bad_sequence l) = refl

-- ---- what a VEVENT is refused for

pub refused_for : (object : Tree) (m : Option Method) (lines : Lines) → (f : Fault) → RefusesBy (EventComponentFault object m lines) f → RefusesOnly is_meeting_event_fault f
refused_for object m lines Memory s = tt
refused_for object m lines (Refused r) s = component_number object m lines r.number s
