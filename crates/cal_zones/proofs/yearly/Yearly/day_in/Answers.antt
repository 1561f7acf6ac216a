use Rattle.std.proofs.Common.{◌≡◌, arith, pos, to_z, w32}
use Rattle.std.proofs.lemmas.Int.{ints}
use Rattle.cal_zones.proofs.OneDay.{placed}
use Rattle.cal_zones.proofs.yearly.Yearly.day_in.Goals as goal

pub returns : goal.returns
returns c =
    let year : to_z w32 c.args.year ≡ pos c.args.year = omega (arith, ints, c.requires) in
    let found = rw (c.unwrap-first.ensures, year) at c.of.ensures.value in
    placed c.args.self c.args.year c.index-index.result c.days_in_month.result c.place.result c.unwrap-first.result found c.index-index.ensures.value (rw c.index-index.ensures.value c.days_in_month.ensures.value) c.place.ensures
