use Rattle.std.proofs.Common.{◌≡◌, ◌∙◌, sym, ap, subst, FitsSigned, to_z, of_z, w64, to_z-of_z, rules}
use Rattle.std.proofs.lemmas.Result.{on_ok_weaker}
use Rattle.profile.specs.events.Properties.{Form}
use Rattle.profile.specs.text.Values.{WritesLocal}
use Rattle.cal_events.specs.Component.{form_of}
use Rattle.itip_messages.specs.Body.{writes_as}
use Rattle.itip_messages.proofs.body.write_time.Goals as goal

pub returns-in-Floating : goal.returns-in-Floating
returns-in-Floating c =
    let fits : FitsSigned w64 c.args.instant = search rules in
    let cast : to_z w64 (of_z w64 c.args.instant) ≡ c.args.instant = to_z-of_z fits in
    on_ok_weaker c.write.result
    (λ h. (h.0, subst (λ (form : Form). writes_as form h.0 c.args.instant) (sym (ap form_of c.in-Floating.is)) (subst (λ local. WritesLocal h.0 local) (c.in-Some.ensures.value ∙ cast) h.1), h.2))
    c.write.ensures.ok
