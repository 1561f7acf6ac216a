use Rattle.std.proofs.Common.{◌≡◌, ◌∙◌, ap, sym, subst, refl, arith, rules, ℤ, ◌≤ℤ◌, to_z, of_z, w64, FitsSigned, to_z-of_z}
use Rattle.std.specs.Prelude.{Option, IfSome, option_map}
use Rattle.ical_lines.specs.Text.{line_text}
use Rattle.profile.specs.doors.Uses.{SaysLocal}
use Rattle.jiff_core.proofs.SignedLemmas.{signed_arith}
use Rattle.cal_doors.specs.Used.AddsUsesOf.{names_none, names_one}
use Rattle.cal_doors.proofs.uses.add_line.Goals as goal

pub returns-in_default : goal.returns-in_default
returns-in_default c = λ _. names_none (sym c.param.ensures ∙ ap (option_map (λ x. x.now)) c.in_default.is) refl

pub returns : goal.returns
returns c = λ _.
    let first = c.in-Some-first_local.first in
    let said = subst (λ (o : Option ℤ). IfSome o (λ n. (local : ℤ) → SaysLocal (line_text c.args.line) local → n ≤ℤ local)) c.in-Some-first_local.is c.first_local.ensures in
    let fits : FitsSigned w64 first = search rules in
    let cast : to_z w64 (of_z w64 first) ≡ first = to_z-of_z fits in
    let fits_whole : FitsSigned w64 c.args.whole.first = search rules in
    let cast_whole : to_z w64 (of_z w64 c.args.whole.first) ≡ c.args.whole.first = to_z-of_z fits_whole in
    let new : to_z w64 (of_z w64 c.min.result) ≡ c.min.result = to_z-of_z {w = w64} (record { sfits = c.min.type_inv }) in
    names_one c.in-Some.name.now _ (sym c.param.ensures ∙ ap (option_map (λ x. x.now)) c.in-Some.is)
    (record { first = omega (arith, signed_arith, new, cast_whole, c.min.ensures.other_bound); last = λ end is. (end, is, omega (arith, signed_arith)) })
    (λ local s. let k = said local s in omega (arith, signed_arith, new, cast, c.min.ensures.self_bound, k)) c.in_ok-widen.ensures
