-- Which numbers are explained, those of refusals and those of the checker's no; and what each means.
use Rattle.std.specs.Prelude.{ℕ, Bool, ◌||◌, ◌==◌, List, [], ◌∷◌, codes, if◌then◌else◌}
use Rattle.profile.specs.faults.Faults.{is_between, is_calendar_fault, is_message_fault, is_organiser_fault, is_preamble_fault}

-- a refusal of a message or a calendar, by an organiser, of a preamble, or of a checker
abbrev pub is_explained : ℕ → Bool
is_explained n = is_message_fault n || is_calendar_fault n || is_organiser_fault n || is_preamble_fault n || is_between 80 84 n

-- what a number means, in words
abbrev pub meanings : List (ℕ × List ℕ)
meanings =
    (1, codes "a line without a colon, as of a preamble or a mail's text before BEGIN:VCALENDAR.")
    ∷ (2, codes "a name that isn't letters, digits and `-`, or a parameter without `=`.")
    ∷ (3, codes "a quoted parameter value that isn't closed, or a stray quote.")
    ∷ (4, codes "a control octet, or a CR that ends no line.")
    ∷ (5, codes "not UTF-8.")
    ∷ (6, codes "more than 1048576 octets or 65536 lines.")
    ∷ (10, codes "not a UTC date-time (expected something like 20250310T090000Z).")
    ∷ (11, codes "not a date-time, or with TZID a UTC time.")
    ∷ (12, codes "not a duration (expected something like PT1H30M).")
    ∷ (13, codes "not a UTC offset, in a VTIMEZONE.")
    ∷ (14, codes "UID empty or past 1024 octets.")
    ∷ (15, codes "not an address of at most 1024 octets (expected something like mailto:ann@example.com).")
    ∷ (16, codes "SEQUENCE not from 0 to 2147483647.")
    ∷ (20, codes "an END of another component than the one that was begun last.")
    ∷ (21, codes "BEGIN without its END.")
    ∷ (22, codes "components more than 8 deep.")
    ∷ (23, codes "no VCALENDAR, something outside it, or one inside it.")
    ∷ (24, codes "VERSION missing, twice or not 2.0.")
    ∷ (25, codes "more than 200 VEVENTs.")
    ∷ (30, codes "a part of RRULE that is unknown, left out here (BYHOUR, RSCALE, ..) or empty, as behind a last `;`, or a FREQ other than DAILY, WEEKLY, MONTHLY and YEARLY.")
    ∷ (31, codes "a value of RRULE that is none, out of its range, or a list of more than 366.")
    ∷ (32, codes "parts of RRULE that don't go together, one twice, or no FREQ.")
    ∷ (33, codes "COUNT beside UNTIL.")
    ∷ (34, codes "DTSTART isn't a day of its own rule.")
    ∷ (40, codes "a VTIMEZONE of a shape that isn't read.")
    ∷ (41, codes "offsets of a VTIMEZONE that don't match, or lie more than 12 hours apart.")
    ∷ (42, codes "STANDARD and DAYLIGHT begin less than two days apart.")
    ∷ (43, codes "no VTIMEZONE has the name that TZID gives.")
    ∷ (44, codes "X-ROOM-ZONE twice, or words that mean no zone.")
    ∷ (50, codes "DTEND before DTSTART.")
    ∷ (51, codes "more than 366 days, or a negative duration.")
    ∷ (52, codes "a time outside of the local years 1970 to 9999, or not before 10000-01-01T00:00:00Z.")
    ∷ (53, codes "two VEVENTs of one meeting without RECURRENCE-ID.")
    ∷ (54, codes "two VEVENTs of one meeting for one instance, or two of an ADD that start together.")
    ∷ (56, codes "a period, or more than 366 times of RDATE or of EXDATE in a VEVENT.")
    ∷ (57, codes "DTEND of another form than DTSTART, a DURATION of hours beside a date, or a date or a time without zone as the RECURRENCE-ID of a store or a REPLY.")
    ∷ (60, codes "METHOD twice, or another word than REQUEST, CANCEL, ADD, REPLY and REFRESH, such as PUBLISH.")
    ∷ (61, codes "UID, DTSTAMP or DTSTART missing, a property twice, or DTEND beside DURATION.")
    ∷ (62, codes "two UIDs or ORGANIZERs in one message.")
    ∷ (63, codes "no ORGANIZER.")
    ∷ (64, codes "a VEVENT of a REPLY or a REFRESH that doesn't have one attendee.")
    ∷ (65, codes "RANGE on RECURRENCE-ID.")
    ∷ (66, codes "no VEVENT.")
    ∷ (67, codes "RRULE or RDATE beside RECURRENCE-ID, or in an ADD.")
    ∷ (70, codes "a store, a REPLY or a REFRESH whose ORGANIZER isn't hosted.")
    ∷ (71, codes "a REPLY to a SEQUENCE past the last that was sent, or a REPLY or a REFRESH for a meeting that isn't known.")
    ∷ (72, codes "a store for which no greater SEQUENCE up to 2147483647 is left.")
    ∷ (73, codes "a REPLY or a REFRESH of one who isn't an attendee of the last store.")
    ∷ (80, codes "the calendar is refused: it isn't one that roombox reads.")
    ∷ (81, codes "the certificate's line of the number behind it is wrong or missing.")
    ∷ (82, codes "the certificate counts other singles or series than the calendar has for this room.")
    ∷ (83, codes "the two series behind it, or those of the group that begins with them, have instances that overlap, or arcs of their residues meet, or SPAN, RES or GROUP isn't allowed of them.")
    ∷ (84, codes "a single overlaps with another, or with a series.")
    ∷ (90, codes "the preamble can't be read, as where words mean no zone, or a zone is of no room or the second of one; for `keep`, also a room that it doesn't name.")
    ∷ []

abbrev pub meaning_among : List (ℕ × List ℕ) → ℕ → List ℕ
meaning_among [] n = []
meaning_among ((number, meaning) ∷ others) n = if n == number then meaning else meaning_among others n

unfoldable pub meaning_of : ℕ → List ℕ
meaning_of n = meaning_among meanings n
