use Rattle.std.proofs.Common.{◌∙◌, sym}
use Rattle.std.proofs.lemmas.Slice.Eq.{bytes_eq-Decides}
use Rattle.ical_lines.specs.Text.{line_text}
use Rattle.cal_doors.proofs.ToldWords.{told_instance}
use Rattle.cal_doors.proofs.told.is_its_instance.Goals as goal

pub returns-in-Some : goal.returns-in-Some
returns-in-Some c = λ same read answer are.
    let text = c.in-Some.text.now in
    told_instance read answer (line_text c.args.line) (line_text c.args.other) text
    ((bytes_eq-Decides text c.text.result.now).0 (sym c.eq.ensures ∙ same) ∙ c.text.ensures.value) (c.in-Some.ensures read answer are)
