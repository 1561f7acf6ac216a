use Rattle.std.proofs.Common.{rules, ◌≢◌, get_or, sym}
use Rattle.ical_lines.proofs.OutsideLemmas.{no_stop, plain_stop}
use Rattle.ical_lines.proofs.pieces.outside.Goals as goal

pub returns-in-Some-clause-value : goal.returns-in-Some-clause-value
returns-in-Some-clause-value c =
    let differs : get_or c.args.text.now c.in-Some.place 0 ≢ 34 = search rules in
    sym (plain_stop c.args.stop c.args.text.now c.in-Some.place c.in-Some.ensures differs)

pub returns-in-None-clause-value : goal.returns-in-None-clause-value
returns-in-None-clause-value c = sym (no_stop c.args.stop c.args.text.now c.in-None.ensures)
