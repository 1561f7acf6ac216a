use Rattle.std.proofs.lemmas.Grind.{common_steps}
use Rattle.std.proofs.lemmas.Int.{ints}
use Rattle.std.proofs.Common.{◌∙◌, pos, true, false, map, rules, arith}
use Rattle.profile.specs.series.ZoneTexts.{is_weekday}
use Rattle.cal_rules.specs.Views.{weekday_number_of}
use Rattle.ical_values.proofs.Exits.{if_none}
use Rattle.cal_zones.specs.Shapes.{days_of}
use Rattle.cal_zones.proofs.Named.{missing_map, only_map, none_on_day, none_unlike, some_alone, none_alone}
use Rattle.cal_zones.proofs.one_day.days_named.Goals as goal

pub returns-in_err-only-clause-none : goal.returns-in_err-only-clause-none
returns-in_err-only-clause-none c =
    let entries = c.args.entries.now in
    let empty = missing_map weekday_number_of entries c.is_empty.result c.is_empty.ensures ∙ c.if-is_empty.true in
    if_none c.from_residual.result (none_on_day c.args.numbers.now (map weekday_number_of entries) empty (λ day low high. c.in_err-only.ensures.none (pos day)))

pub returns-in_err-entry-clause-none : goal.returns-in_err-entry-clause-none
returns-in_err-entry-clause-none c =
    let entries = c.args.entries.now in
    let filled = missing_map weekday_number_of entries c.is_empty.result c.is_empty.ensures ∙ c.if-is_empty.false in
    if_none c.from_residual-in_err-entry.result
    (none_unlike c.args.numbers.now (map weekday_number_of entries) filled (λ number weekday. only_map (is_weekday number weekday) weekday_number_of entries false (c.in_err-entry.ensures.none (record { number = number; weekday = weekday }))))

pub returns-clause-found : goal.returns-clause-found
returns-clause-found c =
    let entries = c.args.entries.now in
    let entry = weekday_number_of c.in_ok-entry.entry in
    some_alone days_of c.weekday_named.result c.args.numbers.now entry (map weekday_number_of entries) (only_map (is_weekday entry.number entry.weekday) weekday_number_of entries true c.in_ok-entry.ensures.found) c.weekday_named.ensures.found

pub returns-clause-none : goal.returns-clause-none
returns-clause-none c =
    let entries = c.args.entries.now in
    let entry = weekday_number_of c.in_ok-entry.entry in
    none_alone c.weekday_named.result c.args.numbers.now entry (map weekday_number_of entries) (only_map (is_weekday entry.number entry.weekday) weekday_number_of entries true c.in_ok-entry.ensures.found) c.weekday_named.ensures.none

pub returns-then-is_empty-clause-found : goal.returns-then-is_empty-clause-found
returns-then-is_empty-clause-found c = grind (arith, common_steps)

pub returns-then-is_empty-clause-none : goal.returns-then-is_empty-clause-none
returns-then-is_empty-clause-none c = search (ints, rules)
