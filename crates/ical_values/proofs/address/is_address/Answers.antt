use Rattle.std.proofs.lemmas.Grind.{common_steps}
use Rattle.std.proofs.Common.{◌∙◌, arith, Some, None, ap}
use Rattle.std.proofs.lemmas.Str.Pattern.{split_after}
use Rattle.profile.specs.text.Values.{is_scheme, is_path}
use Rattle.ical_values.proofs.Addresses.{scheme_no_colon}
use Rattle.ical_values.proofs.address.is_address.Goals as goal

pub returns-in_default-clause-complete : goal.returns-in_default-clause-complete
returns-in_default-clause-complete c = λ h.
    absurd (split_after 58 c.args.text.now h.0 h.1 None c.in_default.ensures.cases (omega arith) h.2 (scheme_no_colon h.0 h.3))

pub returns-then-is_scheme-clause-complete : goal.returns-then-is_scheme-clause-complete
returns-then-is_scheme-clause-complete c = λ h.
    let both = split_after 58 c.args.text.now h.0 h.1 (Some (c.in-Some.scheme, c.in-Some.path)) c.in-Some.ensures.cases (omega arith) h.2 (scheme_no_colon h.0 h.3) in
    c.is_path.ensures ∙ ap is_path (c.as_bytes-then-is_scheme.ensures.value ∙ both.1) ∙ h.4

pub returns-else-is_scheme-clause-complete : goal.returns-else-is_scheme-clause-complete
returns-else-is_scheme-clause-complete c = λ h.
    let both = split_after 58 c.args.text.now h.0 h.1 (Some (c.in-Some.scheme, c.in-Some.path)) c.in-Some.ensures.cases (omega arith) h.2 (scheme_no_colon h.0 h.3) in
    c.is_scheme.ensures ∙ ap is_scheme (c.as_bytes.ensures.value ∙ both.0) ∙ h.3

pub returns-then-is_scheme-clause-sound : goal.returns-then-is_scheme-clause-sound
returns-then-is_scheme-clause-sound c = grind (arith, common_steps)
