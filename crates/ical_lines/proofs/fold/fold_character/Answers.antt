use Rattle.std.proofs.Common.{◌∙◌}
use Rattle.ical_lines.proofs.FoldLemmas.{far_column, far_written, keeps_appended, keeps_itself, near_column, near_written}
use Rattle.ical_lines.proofs.fold.fold_character.Goals as goal

pub returns-in_err-extend_from_slice-clause-keeps : goal.returns-in_err-extend_from_slice-clause-keeps
returns-in_err-extend_from_slice-clause-keeps c = keeps_appended _ _ _ _ _ (keeps_itself c.args.out.now.items) c.extend_from_slice.ensures.items

pub returns-in_err-extend_from_slice-2-clause-keeps : goal.returns-in_err-extend_from_slice-2-clause-keeps
returns-in_err-extend_from_slice-2-clause-keeps c =
    let first = keeps_appended _ _ _ _ _ (keeps_itself c.args.out.now.items) c.extend_from_slice.ensures.items in
    keeps_appended _ c.extend_from_slice.new.self.items _ _ _ first c.extend_from_slice-then-column-size-gt-MAX_COLUMN.ensures.items

pub returns-in_err-extend_from_slice-3-clause-keeps : goal.returns-in_err-extend_from_slice-3-clause-keeps
returns-in_err-extend_from_slice-3-clause-keeps c = keeps_appended _ _ _ _ _ (keeps_itself c.args.out.now.items) c.extend_from_slice-else-column-size-gt-MAX_COLUMN.ensures.items

pub returns-in_ok-extend_from_slice-2-clause-keeps : goal.returns-in_ok-extend_from_slice-2-clause-keeps
returns-in_ok-extend_from_slice-2-clause-keeps c =
    let first = keeps_appended _ _ _ _ _ (keeps_itself c.args.out.now.items) c.extend_from_slice.ensures.items in
    keeps_appended _ c.extend_from_slice.new.self.items _ _ _ first c.extend_from_slice-then-column-size-gt-MAX_COLUMN.ensures.items

pub returns-in_ok-extend_from_slice-3-clause-keeps : goal.returns-in_ok-extend_from_slice-3-clause-keeps
returns-in_ok-extend_from_slice-3-clause-keeps c = keeps_appended _ _ _ _ _ (keeps_itself c.args.out.now.items) c.extend_from_slice-else-column-size-gt-MAX_COLUMN.ensures.items

pub returns-in_ok-extend_from_slice-2-clause-written : goal.returns-in_ok-extend_from_slice-2-clause-written
returns-in_ok-extend_from_slice-2-clause-written c =
    far_written c.args.out.now.items _ _ _ c.args.column c.args.character (c.as_bytes-octets.ensures.value ∙ c.encode_utf8.ensures.value) c.if-column-size-gt-MAX_COLUMN.true
    c.in_ok-extend_from_slice.ensures.items c.in_ok-extend_from_slice-2.ensures.items

pub returns-in_ok-extend_from_slice-2-clause-column : goal.returns-in_ok-extend_from_slice-2-clause-column
returns-in_ok-extend_from_slice-2-clause-column c = far_column c.args.column c.args.character _ (c.as_bytes-octets.ensures.value ∙ c.encode_utf8.ensures.value) c.if-column-size-gt-MAX_COLUMN.true

pub returns-in_ok-extend_from_slice-3-clause-written : goal.returns-in_ok-extend_from_slice-3-clause-written
returns-in_ok-extend_from_slice-3-clause-written c =
    near_written c.args.out.now.items _ _ c.args.column c.args.character (c.as_bytes-octets.ensures.value ∙ c.encode_utf8.ensures.value) c.if-column-size-gt-MAX_COLUMN.false
    c.in_ok-extend_from_slice-3.ensures.items

pub returns-in_ok-extend_from_slice-3-clause-column : goal.returns-in_ok-extend_from_slice-3-clause-column
returns-in_ok-extend_from_slice-3-clause-column c = near_column c.args.column c.args.character _ (c.as_bytes-octets.ensures.value ∙ c.encode_utf8.ensures.value) c.if-column-size-gt-MAX_COLUMN.false
