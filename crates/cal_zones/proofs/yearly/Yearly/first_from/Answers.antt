use Rattle.std.proofs.Common.{◌≡◌, ◌∙◌, ap, arith}
use Rattle.profile.specs.series.Days.{year_of}
use Rattle.cal_zones.proofs.OneDay.{first_same_year, first_year_after, year_range, day_range}
use Rattle.cal_zones.proofs.yearly.Yearly.first_from.Goals as goal

pub returns-then-day-n-clause-first : goal.returns-then-day-n-clause-first
returns-then-day-n-clause-first c =
    let there = rw c.unwrap.ensures at c.at_index.ensures.value in
    let year : c.year-year.result ≡ year_of c.args.n = c.year-year.ensures.value ∙ ap year_of there in
    first_same_year c.args.self c.args.n c.day_in-day.result (rw year at c.day_in-day.ensures) c.if-day-n.true

pub returns-then-day-n-clause-range : goal.returns-then-day-n-clause-range
returns-then-day-n-clause-range c =
    let there = rw c.unwrap.ensures at c.at_index.ensures.value in
    let year : c.year-year.result ≡ year_of c.args.n = c.year-year.ensures.value ∙ ap year_of there in
    day_range c.day_in-day.result (omega (arith, year_range c.args.n c.requires.range.1, c.day_in-day.ensures.in_year))

pub day_in-requires : goal.day_in-requires
day_in-requires c =
    let there = rw c.unwrap.ensures at c.at_index.ensures.value in
    let year : c.year-year.result ≡ year_of c.args.n = c.year-year.ensures.value ∙ ap year_of there in
    (omega arith, omega (arith, year_range c.args.n c.requires.range.1))

pub returns-clause-first : goal.returns-clause-first
returns-clause-first c =
    let there = rw c.unwrap.ensures at c.at_index.ensures.value in
    let year : c.year-year.result ≡ year_of c.args.n = c.year-year.ensures.value ∙ ap year_of there in
    first_year_after c.args.self c.args.n c.day_in-day.result c.day_in.result (rw year at c.day_in-day.ensures) c.if-day-n.false (rw year at c.day_in.ensures)

pub returns-clause-range : goal.returns-clause-range
returns-clause-range c =
    let there = rw c.unwrap.ensures at c.at_index.ensures.value in
    let year : c.year-year.result ≡ year_of c.args.n = c.year-year.ensures.value ∙ ap year_of there in
    day_range c.day_in.result (omega (arith, year_range c.args.n c.requires.range.1, c.day_in.ensures.in_year))
