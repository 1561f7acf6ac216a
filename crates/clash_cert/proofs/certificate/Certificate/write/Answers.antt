use Rattle.std.proofs.Common.{List, ap, subst, sym, ◌∙◌}
use Rattle.std.specs.Prelude.{OnOk}
use Rattle.profile.specs.checker.Certificates.{Claims, IsClaims, SpellsCertificate}
use Rattle.ical_values.specs.Written.{Appends}
use Rattle.clash_cert.specs.declared.certificate.Pair.{Pair}
use Rattle.clash_cert.specs.Texts.{claims_of_text}
use Rattle.clash_cert.proofs.certificate.Certificate.write.Goals as goal

pub write_text-written-requires : goal.write_text-written-requires
write_text-written-requires c =
    let s = c.self.inside in
    subst (λ (pairs : List Pair). IsClaims (claims_of_text s.singles s.series s.groups pairs)) (sym c.deref.ensures.value) c.self.invariant

pub returns-else-is_err-clause-ok : goal.returns-else-is_err-clause-ok
returns-else-is_err-clause-ok c =
    let s = c.self.inside in
    subst (λ (claims : Claims). OnOk c.write_text-written.result (Appends c.args.out.now.items c.write_text-written.new.out.items (λ text. SpellsCertificate text claims)))
    (ap (claims_of_text s.singles s.series s.groups) c.deref.ensures.value ∙ c.self.view_is) c.write_text-written.ensures.ok
