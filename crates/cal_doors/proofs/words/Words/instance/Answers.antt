use Rattle.std.proofs.Common.{◌∙◌, ap, sym, get_or, [], pos, rules, to_z, w64, FitsSigned, to_z-of_z}
use Rattle.ical_lines.specs.Text.{line_text}
use Rattle.cal_doors.specs.declared.words.Instance.{Instance}
use Rattle.cal_doors.proofs.ToldWords.{instance_at}
use Rattle.cal_doors.proofs.words.Words.instance.Goals as goal

pub returns-then-instance-instant : goal.returns-then-instance-instant
returns-then-instance-instant c = λ read answer are.
    let items = c.deref-instance-items.result.now in
    let i = c.loop-instance.instance-index in
    let none : Instance = record { text = record { ref_ptr = (0, 0); now = [] }; instant = pos 0 } in
    let one = (get_or items i none).instant in
    let instant = c.in_ok-instant.instant in
    let one_fits : FitsSigned w64 one = search rules in
    let fits : FitsSigned w64 instant = search rules in
    instance_at read answer c.args.self.now items (line_text c.args.line) i none instant
    c.deref-instance-items.ensures.value c.loop-instance-test.true (sym (to_z-of_z one_fits) ∙ ap (to_z w64) c.if-instance-instant.true ∙ to_z-of_z fits)
    c.in_ok-instant.ensures.named (c.in_ok-instant.ensures.says answer are.told_zones) are
