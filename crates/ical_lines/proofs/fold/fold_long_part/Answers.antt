use Rattle.std.proofs.lemmas.Grind.{common_steps}
use Rattle.std.proofs.Common.{length, arith}
use Rattle.std.specs.Str.{chars}
use Rattle.std.proofs.lemmas.Iterator.{YieldsList-from_chars}
use Rattle.std.proofs.lemmas.Iterator.Consumers.{YieldsList-turn, YieldsList-end}
use Rattle.ical_lines.proofs.FoldLemmas.{chars_left, add_character, add_column, fold_ends, column_ends, keeps_on}
use Rattle.ical_lines.proofs.fold.fold_long_part.Goals as goal

pub loop-character-preserved : goal.loop-character-preserved
loop-character-preserved c =
    let t = YieldsList-turn (YieldsList-from_chars c.args.text.now c.utf8.text cc) c.loop-character.yielded _ c.loop-character.yielded_by _ _ c.in-Some.character c.in-Some.is c.next.ensures.steps in
    let g = chars_left (chars c.args.text.now) c.loop-character.yielded c.in-Some.character t in record {
      small = c.in_ok-at.ensures.small;
      at_is = add_column _ _ _ _ _ _ c.in_ok-at.ensures.column g c.loop-character.invariant.at_is;
      written = add_character _ _ _ _ _ _ _ _ c.in_ok-at.ensures.written c.in_ok-at.ensures.column g c.loop-character.invariant.written;
      keeps = keeps_on _ c.loop-character.out.items _ c.loop-character.invariant.keeps c.fold_character.ensures.keeps;
    }

pub returns-clause-written : goal.returns-clause-written
returns-clause-written c =
    let t = YieldsList-end (YieldsList-from_chars c.args.text.now c.utf8.text cc) c.loop-character.yielded _ c.loop-character.yielded_by _ _ c.in-None.is c.next.ensures.steps in
    fold_ends _ _ (chars c.args.text.now) c.loop-character.at (length c.loop-character.yielded) (omega (arith, t.1)) c.loop-character.invariant.written

pub returns-clause-column : goal.returns-clause-column
returns-clause-column c =
    let t = YieldsList-end (YieldsList-from_chars c.args.text.now c.utf8.text cc) c.loop-character.yielded _ c.loop-character.yielded_by _ _ c.in-None.is c.next.ensures.steps in
    column_ends _ (chars c.args.text.now) c.loop-character.at (length c.loop-character.yielded) (omega (arith, t.1)) c.loop-character.invariant.at_is

pub returns-in_err-at-clause-keeps : goal.returns-in_err-at-clause-keeps
returns-in_err-at-clause-keeps c = keeps_on _ c.loop-character.out.items _ c.loop-character.invariant.keeps c.fold_character.ensures.keeps

pub loop-character-init : goal.loop-character-init
loop-character-init c = grind (arith, common_steps)
