use Rattle.std.proofs.Common.{◌∙◌, ap, sym, codes}
use Rattle.std.specs.Str.{bytes_eq}
use Rattle.std.proofs.lemmas.Result.{err_from_is_err_and}
use Rattle.std.proofs.lemmas.Bool.{not-true}
use Rattle.ical_tree.proofs.OneLine.{version_refused, version_other}
use Rattle.ical_tree.proofs.read.check_version.Goals as goal

pub returns-in_err-version-clause-at : goal.returns-in_err-version-clause-at
returns-in_err-version-clause-at c =
    let p = err_from_is_err_and c.from_residual.result c.from_residual.ensures.1 in
    rw (p.1, p.2) (λ bounded events. version_refused bounded events c.args.properties.now c.in_err-version.field-0.0.line c.in_err-version.ensures.faulty)

pub returns-then-ne-clause-at : goal.returns-then-ne-clause-at
returns-then-ne-clause-at c = λ bounded events.
    let other = not-true _ (sym c.ne.ensures ∙ c.if-ne.true) in
    rw (c.at.ensures, c.number.ensures) (version_other bounded events c.args.properties.now c.in_ok-version.version c.in_ok-version.ensures.found c.in_ok-version.ensures.among (ap (λ v. bytes_eq v (codes "2.0")) (sym c.value.ensures) ∙ other))
