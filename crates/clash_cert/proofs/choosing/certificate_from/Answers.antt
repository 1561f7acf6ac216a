use Rattle.std.proofs.Common.{◌<◌, ◌^◌, length, map, subst, sym, rules}
use Rattle.std.proofs.lemmas.List.{length-map}
use Rattle.profile.specs.checker.Certificates.{Claims, IsCertificateMade}
use Rattle.cal_events.specs.Series.{series_said}
use Rattle.clash_cert.specs.Chosen.{AreKeptFrom}
use Rattle.clash_cert.specs.Texts.{pair_said}
use Rattle.clash_cert.proofs.ChosenLemmas.{claims_kept, certificate_kept}
use Rattle.clash_cert.proofs.choosing.certificate_from.Goals as goal

pub of-requires : goal.of-requires
of-requires c =
    let xs = c.args.series.now in
    let all = map series_said xs in
    let few : length xs < 2 ^ 64 = search rules in
    claims_kept (AreKeptFrom c.args.old.now c.args.kept.now all) all c.args.singles (length xs) (map pair_said c.in_ok-pairs.pairs.items) c.ranges.singles.fits few (sym (length-map xs series_said))
    c.in_ok-pairs.ensures

pub returns : goal.returns
returns c confirmed singles are kept =
    let xs = c.args.series.now in
    let all = map series_said xs in
    let few : length xs < 2 ^ 64 = search rules in
    subst (λ (claims : Claims). IsCertificateMade confirmed claims) (sym c.of.ensures)
    (certificate_kept (AreKeptFrom c.args.old.now c.args.kept.now all) all c.args.singles (length xs) (map pair_said c.in_ok-pairs.pairs.items) c.ranges.singles.fits few (sym (length-map xs series_said))
    c.in_ok-pairs.ensures (subst (AreKeptFrom c.args.old.now c.args.kept.now) (sym are) kept) confirmed singles are)
