use Rattle.std.proofs.Common.{◌≡◌, ◌∙◌, sym, true, false, rules, arith}
use Rattle.profile.specs.series.Rules.{is_missing}
use Rattle.cal_rules.specs.Views.{pattern_of}
use Rattle.cal_rules.proofs.Positions.{chosen_passes, chosen_plain}
use Rattle.cal_rules.proofs.Cursors.{on_flat, on_plain, on_passed, later_is, earlier_few, placed_is}
use Rattle.cal_rules.proofs.listing.pass.Goals as goal

-- a day that doesn't pass each part

pub returns-then-not-passes-clause-chosen : goal.returns-then-not-passes-clause-chosen
returns-then-not-passes-clause-chosen c =
    sym (chosen_passes (pattern_of c.args.written.now c.args.start.index) c.args.cursor.day.index (sym c.passes.ensures ∙ c.if-not-passes.true))

pub returns-then-not-passes-clause-is_cursor : goal.returns-then-not-passes-clause-is_cursor
returns-then-not-passes-clause-is_cursor c =
    let next = c.tomorrow-day.ensures in
    on_flat (pattern_of c.args.written.now c.args.start.index) c.args.cursor c.tomorrow-day.result c.requires.is_cursor c.requires.inside next.index next.facts (sym c.passes.ensures ∙ c.if-not-passes.true)

-- no set position

pub returns-then-is_empty-clause-chosen : goal.returns-then-is_empty-clause-chosen
returns-then-is_empty-clause-chosen c =
    let none : is_missing c.args.written.now.positions.items ≡ true = search rules in
    sym (chosen_plain (pattern_of c.args.written.now c.args.start.index) c.args.cursor.day.index (c.requires.is_cursor.inside c.requires.inside).in_step none (sym c.passes.ensures ∙ c.if-not-passes.false))

pub returns-then-is_empty-clause-is_cursor : goal.returns-then-is_empty-clause-is_cursor
returns-then-is_empty-clause-is_cursor c =
    let none : is_missing c.args.written.now.positions.items ≡ true = search rules in
    let next = c.tomorrow-day.ensures in
    on_plain (pattern_of c.args.written.now c.args.start.index) c.args.cursor c.tomorrow-day.result c.requires.is_cursor c.requires.inside next.index next.facts none

-- set positions

pub overflow_sub-later : goal.overflow_sub-later
overflow_sub-later c =
    let some : is_missing c.args.written.now.positions.items ≡ false = search rules in
    omega (arith, later_is (pattern_of c.args.written.now c.args.start.index) c.args.cursor c.requires.is_cursor c.requires.inside some (sym c.passes.ensures ∙ c.if-not-passes.false))

pub overflow_add-after : goal.overflow_add-after
overflow_add-after c =
    let some : is_missing c.args.written.now.positions.items ≡ false = search rules in
    omega (arith, earlier_few (pattern_of c.args.written.now c.args.start.index) c.args.cursor c.requires.is_cursor c.requires.inside some)

pub returns-clause-chosen : goal.returns-clause-chosen
returns-clause-chosen c =
    let some : is_missing c.args.written.now.positions.items ≡ false = search rules in
    c.allows_nth-placed.ensures ∙ rw c.deref.ensures.value (sym (placed_is (pattern_of c.args.written.now c.args.start.index) c.args.cursor c.requires.is_cursor c.requires.inside some (sym c.passes.ensures ∙ c.if-not-passes.false)))

pub returns-clause-is_cursor : goal.returns-clause-is_cursor
returns-clause-is_cursor c =
    let some : is_missing c.args.written.now.positions.items ≡ false = search rules in
    let next = c.tomorrow-day.ensures in
    on_passed (pattern_of c.args.written.now c.args.start.index) c.args.cursor c.tomorrow-day.result c.requires.is_cursor c.requires.inside next.index next.facts some (sym c.passes.ensures ∙ c.if-not-passes.false)

pub returns-clause-index : goal.returns-clause-index
returns-clause-index c = search rules

pub returns-clause-span : goal.returns-clause-span
returns-clause-span c = search rules
