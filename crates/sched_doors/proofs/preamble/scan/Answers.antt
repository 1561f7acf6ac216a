use Rattle.std.proofs.Common.{◌∙◌, sym}
use Rattle.sched_doors.specs.Pieces.{scans_none}
use Rattle.sched_doors.proofs.Scanning.{scans_on, scans_up_to}
use Rattle.sched_doors.proofs.preamble.scan.Goals as goal

pub loop-place-init : goal.loop-place-init
loop-place-init c = scans_none

pub returns-in-None-clause-scans : goal.returns-in-None-clause-scans
returns-in-None-clause-scans c = scans_up_to _ c.loop-place.line c.args.lent.now c.loop-place.place _ c.loop-place-test.true c.loop-place.invariant (sym c.after.ensures ∙ c.in-None.is)

pub loop-place-preserved : goal.loop-place-preserved
loop-place-preserved c = scans_on _ c.loop-place.line _ c.args.lent.now c.loop-place.place _ c.loop-place-test.true c.loop-place.invariant (sym c.after.ensures ∙ c.in-Some.is)
