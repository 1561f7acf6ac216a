use Rattle.std.proofs.Common.{IfSome, ◌++◌, ◌∙◌, ap, codes, subst}
use Rattle.sched_cli.specs.Blaming.{IsUidLine}
use Rattle.sched_cli.proofs.CheckSaid.{refused_more}
use Rattle.sched_cli.proofs.blamed.refused_lines.Goals as goal

pub returns : goal.returns
returns c =
    let octets = c.args.calendar.now in
    let n = c.args.number in
    let one = c.extend_from_slice.new.self.items in
    let three = c.extend_from_slice-3.new.self.items in
    refused_more octets n one c.extend_from_slice-2.new.self.items three _ c.in-Some.line.items
    (c.in_ok-extend_from_slice.ensures.items ∙ ap (λ z. z ++ codes "roombox: refused ") c.new-text.ensures.items)
    (c.in_ok-extend_from_slice-2.ensures.items ∙ ap (λ z. one ++ z) (c.as_bytes.ensures.value ∙ c.format.ensures.text))
    c.in_ok-extend_from_slice-3.ensures.items
    (c.in_ok-extend_from_slice-4.ensures.items ∙ ap (λ z. three ++ z) c.as_slice.ensures.value)
    (subst (λ o. IfSome o (λ line. IsUidLine octets n line.items)) c.in-Some.is c.in_ok-line.ensures)
