use Rattle.std.proofs.Common.{arith}
use Rattle.ical_lines.proofs.UnfoldLemmas.{end_filled}
use Rattle.ical_lines.proofs.unfold.end_line.Goals as goal

pub returns-in_ok-extend_from_slice : goal.returns-in_ok-extend_from_slice
returns-in_ok-extend_from_slice c =
    end_filled c.args.begun c.args.text.now.items _ (omega (arith, c.if-len-begun.true, c.len.ensures)) c.in_ok-extend_from_slice.ensures.items
