use Rattle.std.proofs.Common.{◌≡◌, arith}
use Rattle.jiff_core.proofs.SignedLemmas.{signed_arith}
use Rattle.profile.specs.series.Days.{number_of_day}
use Rattle.cal_days.proofs.Dates.{civil_parts}
use Rattle.cal_days.proofs.Day.civil.Goals as goal

pub returns-clause-parts : goal.returns-clause-parts
returns-clause-parts c =
    let e = c.civil_of.ensures in
    let r = c.civil_of.result in
    let same : number_of_day r.year r.month r.day ≡ c.args.self = omega (arith, signed_arith, e.number, c.self.view_is) in
    civil_parts r.year c.args.self r.month r.day e.date same
