use Rattle.std.proofs.Common.{rules, ◌≡◌, refl, inl, inr, arith, pos, to_z, of_z, w64, to_z-of_z}
use Rattle.jiff_core.proofs.SignedLemmas.{signed_arith}
use Rattle.cal_doors.specs.Runs.{run_of}
use Rattle.cal_doors.proofs.Stated.{later_stated, no_later_stated}
use Rattle.cal_doors.proofs.run.Run.later_stated.Goals as goal

pub returns-in_default : goal.returns-in_default
returns-in_default c =
    rw (to_z-of_z c.ranges.last) (no_later_stated (run_of c.args.self.now) (pos 2_147_483_646) c.args.last c.last_stated.result c.in_default.is c.last_stated.ensures (omega arith, omega arith))

pub returns-then-stated-last : goal.returns-then-stated-last
returns-then-stated-last c =
    let stated : to_z w64 (of_z w64 c.in-Some.stated) ≡ c.in-Some.stated = to_z-of_z {w = w64} (search rules) in
    let last = to_z-of_z c.ranges.last in
    rw last (later_stated (run_of c.args.self.now) (pos 2_147_483_646) c.args.last c.in-Some.stated c.args.last c.last_stated.result c.in-Some.is c.last_stated.ensures (omega arith, omega arith)
    (omega (arith, signed_arith)) (omega (arith, signed_arith, stated, last, c.if-stated-last.true)) (inl refl))

pub returns : goal.returns
returns c =
    let stated : to_z w64 (of_z w64 c.in-Some.stated) ≡ c.in-Some.stated = to_z-of_z {w = w64} (search rules) in
    let last = to_z-of_z c.ranges.last in
    rw stated (later_stated (run_of c.args.self.now) (pos 2_147_483_646) c.args.last c.in-Some.stated c.in-Some.stated c.last_stated.result c.in-Some.is c.last_stated.ensures (omega arith, omega arith)
    (omega (arith, signed_arith, stated, last, c.if-stated-last.false)) (omega (arith, signed_arith)) (inr refl))
