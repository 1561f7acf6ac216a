use Rattle.std.proofs.Common.{◌∙◌, ap, sym}
use Rattle.std.specs.Prelude.{option_map}
use Rattle.ical_lines.specs.Text.{line_text}
use Rattle.cal_doors.proofs.ToldWords.{told_in_zone}
use Rattle.cal_doors.proofs.told.is_in_zone.Goals as goal

pub returns : goal.returns
returns c = λ same read answer are.
    let here = sym (ap (option_map (λ x. x.now)) c.in-Some.is) ∙ c.param.ensures in
    let there = sym (ap (option_map (λ x. x.now)) c.in-Some-param.is) ∙ c.param-2.ensures in
    told_in_zone read answer (line_text c.args.line) (line_text c.args.other) c.in-Some.name.now c.in-Some-param.new.now
    (sym c.is_time_line.ensures ∙ c.if-not-is_time_line.false) (c.has_same_parts.ensures.name c.if-not-has_same_parts.false) (c.has_same_parts.ensures.value c.if-not-has_same_parts.false)
    (c.has_same_parts.ensures.kind c.if-not-has_same_parts.false) here there (c.is_same_zone.ensures same read answer are)
