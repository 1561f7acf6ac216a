use Rattle.std.proofs.lemmas.Int.{ints}
use Rattle.std.proofs.Common.{rules, ◌≡◌, sym, subst, ap, arith, pos, ◌-ℤ◌, to_z, of_z, w64, to_z-of_z}
use Rattle.jiff_core.proofs.SignedLemmas.{signed_arith}
use Rattle.profile.specs.series.GeneralZones.{IsRunOnset}
use Rattle.cal_zones.specs.Onsets.{observance_of}
use Rattle.cal_doors.specs.Ends.{end_of}
use Rattle.cal_doors.specs.Runs.{run_of}
use Rattle.cal_doors.proofs.Reaches.{reach_all, reach_until}
use Rattle.cal_doors.proofs.run.Run.reach.Goals as goal

pub returns-in-Never : goal.returns-in-Never
returns-in-Never c =
    let e = c.first_bound.ensures in
    let first = c.first_bound.result in
    let whole = c.args.whole.now in
    let cast : to_z w64 (of_z w64 first) ≡ first = to_z-of_z {w = w64} (record { sfits = c.first_bound.type_inv }) in
    let back : to_z w64 (of_z w64 (first -ℤ pos 1)) ≡ first -ℤ pos 1 = omega (arith, signed_arith, e.low, e.high) in
    let quiet = rw (cast, back, to_z-of_z c.ranges.from) at (c.is_quiet.ensures c.if-not-is_quiet.false) in
    reach_all (run_of c.args.self.now) (observance_of whole.observance) first c.args.from (c.is_alike.ensures c.if-not-is_alike.false) e.first
    (λ x is l. quiet x (subst (λ end. IsRunOnset (record { observance = observance_of whole.observance; end = end_of end }) x) (sym c.requires) is) l)
    (ap end_of c.in-Never.is)

pub returns-in-At : goal.returns-in-At
returns-in-At c =
    let e = c.first_bound.ensures in
    let first = c.first_bound.result in
    let whole = c.args.whole.now in
    let cast : to_z w64 (of_z w64 first) ≡ first = to_z-of_z {w = w64} (record { sfits = c.first_bound.type_inv }) in
    let back : to_z w64 (of_z w64 (first -ℤ pos 1)) ≡ first -ℤ pos 1 = omega (arith, signed_arith, e.low, e.high) in
    let quiet = rw (cast, back, to_z-of_z c.ranges.from) at (c.is_quiet.ensures c.if-not-is_quiet.false) in
    let there : to_z w64 (of_z w64 c.in-At.until) ≡ c.in-At.until = to_z-of_z {w = w64} (search rules) in
    rw there (reach_until (run_of c.args.self.now) (observance_of whole.observance) first c.args.from (c.is_alike.ensures c.if-not-is_alike.false) e.first
    (λ x is l. quiet x (subst (λ end. IsRunOnset (record { observance = observance_of whole.observance; end = end_of end }) x) (sym c.requires) is) l)
    c.in-At.until c.in-At.until (ap end_of c.in-At.is) (λ _. omega (arith, ints)))
