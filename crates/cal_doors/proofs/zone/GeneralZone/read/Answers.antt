use Rattle.std.proofs.Common.{sym, subst}
use Rattle.ical_tree.specs.Tree.{tree_of}
use Rattle.profile.specs.series.ZoneTexts.{is_part}
use Rattle.profile.specs.series.GeneralZoneTexts.{PartsSayRuns, GeneralPartsFault, GeneralZoneFault}
use Rattle.cal_zones.specs.Read.{zone_parts}
use Rattle.cal_zones.proofs.PartLemmas.{parts_tree}
use Rattle.cal_zones.proofs.Reading.{fault_exit}
use Rattle.cal_doors.specs.Runs.{runs_in}
use Rattle.cal_doors.proofs.zone.GeneralZone.read.Goals as goal

pub returns-in_err-runs-clause-fault : goal.returns-in_err-runs-clause-fault
returns-in_err-runs-clause-fault c =
    let zone = c.args.zone.now in
    fault_exit _ (GeneralZoneFault (tree_of zone)) (GeneralPartsFault (zone_parts zone)) _ (λ n h. subst (λ ps. GeneralPartsFault ps n) (sym (parts_tree is_part zone)) h)
    c.from_residual.ensures.1 c.in_err-runs.ensures.fault

pub returns-clause-says : goal.returns-clause-says
returns-clause-says c =
    subst (λ ps. PartsSayRuns ps (runs_in c.in_ok-runs.runs.items)) (sym (parts_tree is_part c.args.zone.now)) c.in_ok-runs.ensures.says
