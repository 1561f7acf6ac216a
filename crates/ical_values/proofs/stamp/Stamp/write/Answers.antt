use Rattle.std.proofs.Common.{◌≡◌, arith, to_z, of_z, w64}
use Rattle.std.proofs.lemmas.Int.{ints}
use Rattle.ical_values.proofs.stamp.Stamp.write.Goals as goal

pub returns-clause-ok : goal.returns-clause-ok
returns-clause-ok c =
    let same : to_z w64 (of_z w64 c.self.inside.instant) ≡ c.self.inside.instant = omega (arith, ints, c.self.invariant) in
    rw (← c.self.view_is) (rw same at c.write.ensures.ok)
