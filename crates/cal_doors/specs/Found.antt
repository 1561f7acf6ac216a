-- What is found of a zone in general.
use Rattle.std.specs.Prelude.{List}
use Rattle.profile.specs.series.GeneralZones.{Run}
use Rattle.cal_doors.specs.Runs.{runs_in}
use Rattle.cal_doors.specs.declared.zone.GeneralZone.{GeneralZone}

-- what a zone in general represents
abbrev pub general_of : GeneralZone → List Run
general_of zone = runs_in zone.runs.items
