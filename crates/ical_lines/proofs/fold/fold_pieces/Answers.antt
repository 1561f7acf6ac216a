use Rattle.ical_lines.proofs.FoldLemmas.{keeps_appended, keeps_on, pieces_written}
use Rattle.ical_lines.proofs.fold.fold_pieces.Goals as goal

pub returns-clause-written : goal.returns-clause-written
returns-clause-written c =
    pieces_written c.extend_from_slice.result c.args.out.now.items c.fold_part.new.out.items c.fold_part-2.new.out.items c.fold_part-3.new.out.items c.extend_from_slice.new.self.items c.args.first.now c.args.second.now c.args.third.now c.in_ok-after_first.after_first c.in_ok-after_second.after_second c.utf8.first c.utf8.second c.in_ok-after_first.ensures.written c.in_ok-after_first.ensures.column c.in_ok-after_second.ensures.written c.in_ok-after_second.ensures.column c.in_ok-fold_part.ensures.written c.extend_from_slice.ensures.items

pub returns-in_err-after_second-clause-keeps : goal.returns-in_err-after_second-clause-keeps
returns-in_err-after_second-clause-keeps c = keeps_on _ c.fold_part.new.out.items _ c.in_ok-after_first.ensures.keeps c.fold_part-2.ensures.keeps

pub returns-in_err-fold_part-clause-keeps : goal.returns-in_err-fold_part-clause-keeps
returns-in_err-fold_part-clause-keeps c =
    keeps_on _ c.fold_part-2.new.out.items _ (keeps_on _ c.fold_part.new.out.items _ c.in_ok-after_first.ensures.keeps c.in_ok-after_second.ensures.keeps) c.fold_part-3.ensures.keeps

pub returns-clause-keeps : goal.returns-clause-keeps
returns-clause-keeps c =
    let two = keeps_on _ c.fold_part.new.out.items _ c.in_ok-after_first.ensures.keeps c.in_ok-after_second.ensures.keeps in
    let three = keeps_on _ c.fold_part-2.new.out.items _ two c.in_ok-fold_part.ensures.keeps in
    keeps_appended _ c.fold_part-3.new.out.items _ _ _ three c.extend_from_slice.ensures.items
