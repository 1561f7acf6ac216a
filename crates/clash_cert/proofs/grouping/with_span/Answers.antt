use Rattle.std.proofs.Common.{◌∙◌, ap, subst, sym}
use Rattle.clash_cert.specs.Grouped.{HaveSpan, marked_from}
use Rattle.clash_cert.proofs.KeptLemmas.{if_ok_then}
use Rattle.clash_cert.proofs.MarkLemmas.{have_span}
use Rattle.clash_cert.proofs.grouping.with_span.Goals as goal

pub returns : goal.returns
returns c =
    let said = c.args.certificate.now in
    let marks = c.in_ok-marks.marks.items in
    let have : HaveSpan said (marked_from 1 marks) = have_span said c.requires.claims marks c.in_ok-marks.ensures.count c.in_ok-marks.ensures.are in
    if_ok_then c.numbers_marked.result _ _ (λ numbers is. subst (HaveSpan said) (sym (is ∙ ap (marked_from 1) c.deref.ensures.value)) have) c.numbers_marked.ensures
