use Rattle.std.proofs.Common.{◌≡◌, ◌∙◌, ◌-◌, ap, arith}
use Rattle.profile.specs.series.Days.{year_of}
use Rattle.cal_zones.proofs.OneDay.{day_near, second_year, latest_same_year, latest_year_before}
use Rattle.cal_zones.proofs.yearly.Yearly.latest_early.Goals as goal

pub returns-then-day-n-clause-latest : goal.returns-then-day-n-clause-latest
returns-then-day-n-clause-latest c =
    let there = rw c.unwrap.ensures at c.at_index.ensures.value in
    let year : c.year-year.result ≡ year_of c.args.n = c.year-year.ensures.value ∙ ap year_of there in
    latest_same_year c.args.self c.args.n c.day_in-day.result (rw year at c.day_in-day.ensures) c.if-day-n.true

pub returns-then-day-n-clause-near : goal.returns-then-day-n-clause-near
returns-then-day-n-clause-near c =
    let there = rw c.unwrap.ensures at c.at_index.ensures.value in
    let year : c.year-year.result ≡ year_of c.args.n = c.year-year.ensures.value ∙ ap year_of there in
    day_near c.args.self c.args.n c.year-year.result c.day_in-day.result c.day_in-day.ensures (omega arith)

pub day_in-requires : goal.day_in-requires
day_in-requires c =
    let there = rw c.unwrap.ensures at c.at_index.ensures.value in
    let year : c.year-year.result ≡ year_of c.args.n = c.year-year.ensures.value ∙ ap year_of there in
    let later = second_year c.args.self c.args.n c.day_in-day.result c.requires.earlier (rw year at c.day_in-day.ensures) c.if-day-n.false in
    (omega arith, omega (arith, c.year-year.ensures.range))

pub returns-clause-latest : goal.returns-clause-latest
returns-clause-latest c =
    let there = rw c.unwrap.ensures at c.at_index.ensures.value in
    let year : c.year-year.result ≡ year_of c.args.n = c.year-year.ensures.value ∙ ap year_of there in
    latest_year_before c.args.self c.args.n c.day_in-day.result c.day_in.result (rw year at c.day_in-day.ensures) c.if-day-n.false (rw year at c.day_in.ensures) (omega (arith, c.year-year.ensures.range))

pub returns-clause-near : goal.returns-clause-near
returns-clause-near c =
    let there = rw c.unwrap.ensures at c.at_index.ensures.value in
    let year : c.year-year.result ≡ year_of c.args.n = c.year-year.ensures.value ∙ ap year_of there in
    day_near c.args.self c.args.n (c.year-year.result - 1) c.day_in.result c.day_in.ensures (omega arith)
