use Rattle.std.proofs.Common.{◌≡◌, ◌∙◌, List, [], ap, map, subst, sym}
use Rattle.std.specs.Prelude.{None}
use Rattle.profile.specs.checker.Certificates.{Claims, IsCertificateMade}
use Rattle.profile.proofs.MadeCertificates.{made_holds}
use Rattle.clash_cert.specs.declared.certificate.Pair.{Pair as Kept}
use Rattle.clash_cert.specs.Chosen.{AreKeptFrom}
use Rattle.clash_cert.specs.Texts.{pair_said}
use Rattle.clash_cert.proofs.KeptLemmas.{if_ok_then, nothing_kept}
use Rattle.clash_cert.proofs.choosing.certificate_of.Goals as goal

pub returns-clause-made : goal.returns-clause-made
returns-clause-made c =
    let all = c.args.calendar.now in
    let old : c.of-nothing.result ≡ record { singles = 0; series = 0; groups = None; pairs = [] } =
    c.of-nothing.ensures ∙ ap (λ (pairs : List Kept). record { singles = 0; series = 0; groups = None; pairs = map pair_said pairs }) c.new.ensures.items in
    let kept : AreKeptFrom c.of-nothing.result [] all.series = subst (λ (claims : Claims). AreKeptFrom claims [] all.series) (sym old) (nothing_kept all.series) in
    if_ok_then c.certificate_from.result _ (IsCertificateMade all) (λ made is. is all c.single_count-singles.ensures c.series.ensures.are kept) c.certificate_from.ensures

pub returns-clause-holds : goal.returns-clause-holds
returns-clause-holds c =
    let all = c.args.calendar.now in
    if_ok_then c.certificate_from.result (IsCertificateMade all) _ (λ made is clear text. made_holds all clear made text is) (returns-clause-made c)
