-- A page for the door of a room, as HTML: what is taken and what is free of each day that a span of time touches.
use Rattle.std.specs.Prelude.{◌≡◌, ℕ, ◌<◌, ℤ, pos, negsuc, ◌-ℤ◌, ◌≤ℤ◌, ◌<ℤ◌, List, [], ◌∷◌, AllPairs, Contains, Option, Some, None, codes}
use Rattle.std.specs.Int.{int_max, int_min}
use Rattle.profile.specs.series.Days.{weekday_of}
use Rattle.profile.specs.series.Zones.{Zone, Constant}
use Rattle.profile.specs.checker.Instances.{Instance, IsWithin}
use Rattle.profile.specs.checker.Agendas.{Block, Taken, Free, AreBlocks, IsLocalDay}
use Rattle.profile.specs.checker.Publishing.{plain_address}
use Rattle.cal_agenda.specs.Html.{joined, html, weekday_name, date_text, IsClockText, IsEndText, IsTimeElement}
use Rattle.cal_agenda.specs.PageStyle.{page_style}
use Rattle.cal_agenda.specs.Printing.{LinesOf}

-- ---- days

-- a day: its index, and the instants with which it and the next one begin
pub record PageDay : Type 0 where
  pub index : ℕ
  pub start : ℤ
  pub end : ℤ

-- it shares an instant with a span
abbrev pub IsTouched : ℤ → ℤ → PageDay → Type 0
IsTouched from until day = (t : ℤ) × IsWithin from until t × IsWithin day.start day.end t

-- these are days of a zone's clocks that a span touches, in order, and each instant of the span is in one of them
pub record AreDays (zone : Zone) (from until : ℤ) (days : List PageDay) : Type 0 where
  pub each : (day : PageDay) → Contains days day → IsLocalDay zone day.index day.start day.end × IsTouched from until day
  pub all : (t : ℤ) → IsWithin from until t → (day : PageDay) × Contains days day × IsWithin day.start day.end t
  pub ordered : AllPairs (λ a b. a.index < b.index) days

-- ---- a day

-- an instant of a day, or where it isn't in it the nearer end of the day
abbrev pub in_day : PageDay → ℤ → ℤ
in_day day instant = int_max day.start (int_min instant day.end)

-- when something begins and ends on a day; what began before it begins with it, and what goes on behind it ends with it
pub record AreTimesOfDay (zone : Zone) (day : PageDay) (start end : ℤ) (text : List ℕ) : Type 0 where
  pub begins : List ℕ
  pub ends : List ℕ
  pub first : List ℕ
  pub last : List ℕ
  pub shows_begin : IsClockText zone (in_day day start) begins
  pub shows_end : IsEndText zone day.end (in_day day end) ends
  pub first_is : IsTimeElement (in_day day start) begins first
  pub last_is : IsTimeElement (in_day day end) ends last
  pub is : text ≡ joined (first ∷ codes "&ndash;" ∷ last ∷ [])

-- the line of what is taken, by whom, and of what is free; the state stands there in words
abbrev pub taken_line : List ℕ → List ℕ → List ℕ
taken_line times who = joined (codes "<li class=\"taken\"><span class=\"when\">" ∷ times ∷ codes "</span> <b>taken</b> <span class=\"who\">" ∷ who ∷ codes "</span></li>\n" ∷ [])

abbrev pub free_line : List ℕ → List ℕ
free_line times = joined (codes "<li class=\"free\"><span class=\"when\">" ∷ times ∷ codes "</span> <b>free</b></li>\n" ∷ [])

-- the line of a block; who booked an instance is its organiser
abbrev pub IsBlockLine : Zone → PageDay → Block → List ℕ → Type 0
IsBlockLine zone day (Taken a) line =
    (times : List ℕ) × AreTimesOfDay zone day a.start a.end times × (line ≡ taken_line times (html (plain_address a.key.organiser)))
IsBlockLine zone day (Free start end) line = (times : List ℕ) × AreTimesOfDay zone day start end times × (line ≡ free_line times)

-- the heading of a day: its weekday and its date
abbrev pub day_heading : ℕ → List ℕ
day_heading day =
    joined (codes "<section>\n<h2>" ∷ weekday_name (weekday_of day) ∷ codes " <time datetime=\"" ∷ date_text day ∷ codes "\">" ∷ date_text day ∷ codes "</time></h2>\n<ol role=\"list\">\n" ∷ [])

-- a day: its heading, and the lines of what is taken and what is free, by start
pub record IsSection (zone : Zone) (Is : Instance → Type 0) (day : PageDay) (text : List ℕ) : Type 0 where
  pub blocks : List Block
  pub are : AreBlocks Is day.start day.end blocks
  pub lines : List ℕ
  pub each : LinesOf (IsBlockLine zone day) blocks lines
  pub is : text ≡ joined (day_heading day.index ∷ lines ∷ codes "</ol>\n</section>\n" ∷ [])

-- ---- the page

-- whose clocks the days and times go by: a zone's, or UTC
abbrev pub page_clocks : Option Zone → Zone
page_clocks None = Constant (pos 0)
page_clocks (Some zone) = zone

abbrev pub clock_words : Option Zone → List ℕ
clock_words None = codes "All times are UTC."
clock_words (Some zone) = codes "All times are local."

-- what comes before the days: the style, the room's name, and whose clocks these are
abbrev pub page_opening : List ℕ → Option Zone → List ℕ
page_opening name zone =
    joined (codes "<!doctype html>\n<html lang=\"en\">\n<head>\n<meta charset=\"utf-8\">\n<meta name=\"viewport\" content=\"width=device-width\">\n<title>" ∷ html name
    ∷ codes "</title>\n<style>\n" ∷ page_style ∷ codes "</style>\n</head>\n<body>\n<header>\n<h1>" ∷ html name ∷ codes "</h1>\n<p>" ∷ clock_words zone ∷ codes "</p>\n</header>\n<main>\n" ∷ [])

abbrev pub page_closing : List ℕ
page_closing = codes "</main>\n</body>\n</html>\n"

-- the octets are the page of a room with this name and instances of this kind, for the days that a span touches
pub record IsPage (name : List ℕ) (zone : Option Zone) (Is : Instance → Type 0) (from until : ℤ) (octets : List ℕ) : Type 0 where
  pub days : List PageDay
  pub are : AreDays (page_clocks zone) from until days
  pub sections : List ℕ
  pub each : LinesOf (IsSection (page_clocks zone) Is) days sections
  pub is : octets ≡ joined (page_opening name zone ∷ sections ∷ page_closing ∷ [])

-- ---- which spans have a page

-- from the year 2 on and before the year 9999, and at most 62 days of 24 hours long; this profile's choice
pub record IsPageSpan (from until : ℤ) : Type 0 where
  pub early : negsuc 62_104_060_799 ≤ℤ from
  pub some : from <ℤ until
  pub late : until ≤ℤ pos 253_370_764_800
  pub long : (until -ℤ from) ≤ℤ pos 5_356_800

-- far enough from the ends of the years 1 to 9999 that the clocks of each zone show one of them; so is each instant of a page's days
abbrev pub IsWellWithin : ℤ → Type 0
IsWellWithin t = (negsuc 62_135_510_399 ≤ℤ t) × (t ≤ℤ pos 253_402_214_399)
