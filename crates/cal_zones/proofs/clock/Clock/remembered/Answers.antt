use Rattle.std.proofs.Common.{◌≡◌, ◌∙◌, ap, arith, ◌-ℤ◌, ◌≤ℤ◌, to_z-of_z}
use Rattle.std.specs.Int.Signed.{◌<ℤ◌}
use Rattle.jiff_core.proofs.SignedLemmas.{signed_arith}
use Rattle.ical_values.proofs.Facts.{wide_clock}
use Rattle.cal_zones.proofs.Casts.{read_with}
use Rattle.cal_zones.proofs.Meant.{meant_alone}
use Rattle.cal_zones.proofs.clock.Clock.remembered.Goals as goal

pub returns-clause-meaning : goal.returns-clause-meaning
returns-clause-meaning c =
    let clock = c.args.self.now in
    let s = c.seconds-seconds in
    let same : s.result ≡ c.args.local = s.ensures.value in
    let seconds = wide_clock s.result s.ensures.range in
    let from : clock.from ≤ℤ c.args.local = omega (arith, signed_arith, to_z-of_z clock.width.0, c.if-seconds-self.false) in
    let to : c.args.local <ℤ clock.to = omega (arith, signed_arith, to_z-of_z clock.width.1, c.if-seconds-self-2.false) in
    let cast = read_with s.result clock.offset s.ensures.range clock.range ∙ ap (λ x. x -ℤ clock.offset) same in
    rw cast (meant_alone clock.zone c.args.local (c.args.local -ℤ clock.offset) (λ t m. clock.span c.args.local t from to m))
