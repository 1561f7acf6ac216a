use Rattle.std.proofs.lemmas.Grind.{common_steps}
use Rattle.std.proofs.Common.{◌∙◌, ◌++◌, ap, arith}
use Rattle.ical_lines.proofs.FoldLemmas.{column_written, keeps_appended, keeps_itself, part_written}
use Rattle.ical_lines.proofs.fold.fold_part.Goals as goal

pub returns-clause-written : goal.returns-clause-written
returns-clause-written c =
    let whole = c.in_ok-extend_from_slice.ensures.items ∙ ap (λ z. c.args.out.now.items ++ z) c.as_bytes.ensures.value in
    part_written c.args.out.now.items _ c.args.text.now c.args.column c.utf8.text (omega (arith, c.requires, c.if-text-column.false)) whole

pub returns-clause-column : goal.returns-clause-column
returns-clause-column c = column_written c.args.text.now c.args.column c.utf8.text (omega (arith, c.requires, c.if-text-column.false))

pub returns-clause-keeps : goal.returns-clause-keeps
returns-clause-keeps c = keeps_appended _ _ _ _ _ (keeps_itself c.args.out.now.items) c.extend_from_slice.ensures.items

pub returns-in_err-extend_from_slice-clause-keeps : goal.returns-in_err-extend_from_slice-clause-keeps
returns-in_err-extend_from_slice-clause-keeps c = grind (arith, common_steps)
