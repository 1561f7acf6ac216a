use Rattle.ical_lines.specs.Text.{line_text}
use Rattle.ical_tree.specs.Runs.{lines_left}
use Rattle.cal_doors.proofs.ToldWords.{zip_first}
use Rattle.profile.specs.doors.Returning.{TellsSame}
use Rattle.cal_doors.proofs.told.are_told_lines.Goals as goal

pub loop-line-preserved : goal.loop-line-preserved
loop-line-preserved c = λ read answer are rest. c.loop-line.invariant read answer are
    (zip_first (TellsSame read answer) (lines_left c.loop-line.line-iterator) (lines_left c.next.new.self) (lines_left c.loop-line.others) (lines_left c.next-in-loop-line.new.self)
    (line_text c.in-Some.line) (line_text c.in-Some-next.other) c.in-Some.ensures.steps c.in-Some-next.ensures.steps
    (c.is_told_line.ensures c.if-not-is_told_line.false read answer are) rest)
