use Rattle.std.proofs.Common.{rules, ◌≡◌, arith, pos, to_z, of_z, w64, to_z-of_z}
use Rattle.jiff_core.proofs.SignedLemmas.{signed_arith}
use Rattle.cal_doors.specs.Runs.{run_of}
use Rattle.cal_doors.proofs.Stated.{stated_late, not_stated_late, nothing_stated_late}
use Rattle.cal_doors.proofs.run.Run.is_stated_late.Goals as goal

pub returns-in-None-clause-no : goal.returns-in-None-clause-no
returns-in-None-clause-no c = λ _ late.
    nothing_stated_late (run_of c.args.self.now) (pos 2_147_483_646) c.last_stated.result c.in-None.is c.last_stated.ensures (omega arith, omega arith) late

pub returns-in-Some-clause-yes : goal.returns-in-Some-clause-yes
returns-in-Some-clause-yes c = λ h.
    let stated : to_z w64 (of_z w64 c.in-Some.stated) ≡ c.in-Some.stated = to_z-of_z {w = w64} (search rules) in
    stated_late (run_of c.args.self.now) (pos 2_147_483_646) c.in-Some.stated c.last_stated.result c.in-Some.is c.last_stated.ensures (omega arith, omega arith)
    (c.is_counted.ensures.no c.if-is_counted.false) (omega (arith, signed_arith, stated, h))

pub returns-in-Some-clause-no : goal.returns-in-Some-clause-no
returns-in-Some-clause-no c = λ h late.
    let stated : to_z w64 (of_z w64 c.in-Some.stated) ≡ c.in-Some.stated = to_z-of_z {w = w64} (search rules) in
    not_stated_late (run_of c.args.self.now) (pos 2_147_483_646) c.in-Some.stated c.last_stated.result c.in-Some.is c.last_stated.ensures (omega arith, omega arith)
    (omega (arith, signed_arith, stated, h)) late
