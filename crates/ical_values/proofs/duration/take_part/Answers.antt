use Rattle.ical_values.proofs.Parts.{no_digits, no_letter_left, no_such_letter, part_taken}
use Rattle.ical_values.proofs.duration.take_part.Goals as goal

pub returns-then-count-text-clause-none : goal.returns-then-count-text-clause-none
returns-then-count-text-clause-none c =
    let f = c.leading_number-number.ensures in
    no_letter_left c.args.letter c.args.text.now c.leading_number-number.result.1 c.requires f.digits f.end c.if-count-text.true

pub returns-then-text-count-clause-none : goal.returns-then-text-count-clause-none
returns-then-text-count-clause-none c =
    let f = c.leading_number-number.ensures in
    no_such_letter c.args.letter c.args.text.now c.leading_number-number.result.1 c.requires f.digits f.end c.if-text-count.true

pub returns-then-count-eq0-clause-none : goal.returns-then-count-eq0-clause-none
returns-then-count-eq0-clause-none c =
    let f = c.leading_number-number.ensures in
    no_digits c.args.letter c.args.text.now c.leading_number-number.result.1 c.requires f.digits f.end c.if-count-eq0.true

pub returns-clause-found : goal.returns-clause-found
returns-clause-found c =
    let f = c.leading_number-number.ensures in
    part_taken c.args.letter c.args.text.now c.leading_number-number.result.1 _ c.if-count-eq0.false c.if-count-text.false f.digits f.value c.if-text-count.false
