use Rattle.std.proofs.Common.{rules}
use Rattle.ical_values.proofs.Exits.{if_none}
use Rattle.ical_values.proofs.Spelled.{date_high, date_none, date_read, no_day, no_month, no_year, small_32}
use Rattle.ical_values.proofs.date.read_date.Goals as goal

pub returns-in_err-year-clause-none : goal.returns-in_err-year-clause-none
returns-in_err-year-clause-none c = if_none c.from_residual.result (no_year c.args.text.now c.in_err-year.ensures.none)

pub returns-in_err-month-clause-none : goal.returns-in_err-month-clause-none
returns-in_err-month-clause-none c = if_none c.from_residual-in_err-month.result (no_month c.args.text.now c.in_err-month.ensures.none)

pub returns-in_err-day-clause-none : goal.returns-in_err-day-clause-none
returns-in_err-day-clause-none c = if_none c.from_residual-in_err-day.result (no_day c.args.text.now c.in_err-day.ensures.none)

pub returns-clause-found : goal.returns-clause-found
returns-clause-found c =
    let year = small_32 c.in_ok-year.year c.in_ok-year.ensures.found.0 in
    let of = rw year at c.of.ensures in
    date_read c.args.text.now c.in_ok-year.year c.in_ok-month.month c.in_ok-day.day c.of.result (search rules) c.in_ok-year.ensures.found.0
    (record { years = c.in_ok-year.ensures.found.1; months = c.in_ok-month.ensures.found.1; days = c.in_ok-day.ensures.found.1 }) of.found of.value

pub returns-clause-high : goal.returns-clause-high
returns-clause-high c =
    let year = small_32 c.in_ok-year.year c.in_ok-year.ensures.found.0 in
    date_high c.in_ok-year.year c.of.result c.in_ok-year.ensures.found.0 (rw year at (c.of.ensures.early))

pub returns-clause-none : goal.returns-clause-none
returns-clause-none c =
    let year = small_32 c.in_ok-year.year c.in_ok-year.ensures.found.0 in
    date_none c.args.text.now c.in_ok-year.year c.in_ok-month.month c.in_ok-day.day c.of.result c.in_ok-year.ensures.found.0 c.in_ok-month.ensures.found.0 c.in_ok-day.ensures.found.0
    (record { years = c.in_ok-year.ensures.found.1; months = c.in_ok-month.ensures.found.1; days = c.in_ok-day.ensures.found.1 }) (rw year at (c.of.ensures.found))
