use Rattle.std.proofs.Common.{◌≡◌, ◌++◌, ℕ, List, [], map, take}
use Rattle.profile.specs.events.Confirmed.{IsOneOf}
use Rattle.cal_zones.specs.Kinds.{zone_of}
use Rattle.cal_agenda.specs.PageDays.{day_said}
use Rattle.cal_agenda.specs.Pages.{IsSection}
use Rattle.cal_agenda.specs.Printing.{LinesOf}
use Rattle.cal_agenda.proofs.page.sections_text.Given as goal

-- the days before
abbrev pub invariant-loop-day : goal.invariant-loop-day
invariant-loop-day l = (text : List ℕ) × LinesOf (IsSection (zone_of l.zone) (IsOneOf l.calendar)) (map day_said (take l.day-index l.days)) text × (l.text.items ≡ [] ++ text)
