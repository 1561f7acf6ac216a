use Rattle.std.proofs.Common.{◌≡◌, ◌∙◌, ap, sym, subst, arith, rules, ℤ, to_z, of_z, w64, FitsSigned, to_z-of_z}
use Rattle.std.specs.Prelude.{Option, IfSome, option_copied}
use Rattle.std.proofs.lemmas.Option.{none-some, same_Some}
use Rattle.jiff_core.proofs.SignedLemmas.{signed_arith}
use Rattle.cal_doors.specs.declared.uses.Use.{Use}
use Rattle.cal_doors.specs.Used.{EndsEarlier}
use Rattle.cal_doors.proofs.uses.wider.Goals as goal

pub returns-in_default-clause-more : goal.returns-in_default-clause-more
returns-in_default-clause-more c =
    let fits : FitsSigned w64 c.args.more.first = search rules in
    let cast : to_z w64 (of_z w64 c.args.more.first) ≡ c.args.more.first = to_z-of_z fits in
    record { first = omega (arith, signed_arith, cast); last = λ end is. (end, is, omega (arith, signed_arith)) }

pub returns-in_default-clause-earlier : goal.returns-in_default-clause-earlier
returns-in_default-clause-earlier c = λ u h. absurd (none-some u (sym (ap option_copied c.in_default.is) ∙ h))

pub returns-clause-more : goal.returns-clause-more
returns-clause-more c =
    let fits : FitsSigned w64 c.args.more.first = search rules in
    let cast : to_z w64 (of_z w64 c.args.more.first) ≡ c.args.more.first = to_z-of_z fits in
    let new : to_z w64 (of_z w64 c.min.result) ≡ c.min.result = to_z-of_z {w = w64} (record { sfits = c.min.type_inv }) in
    record {
      first = omega (arith, signed_arith, cast, new, c.min.ensures.other_bound);
      last = λ end is. (subst (λ (o : Option ℤ). IfSome o (λ e. EndsEarlier c.in-Some.earlier.now.last e × EndsEarlier c.args.more.last e)) is c.later.ensures).1;
    }

pub returns-clause-earlier : goal.returns-clause-earlier
returns-clause-earlier c = λ u h.
    let fits : FitsSigned w64 c.in-Some.earlier.now.first = search rules in
    let cast : to_z w64 (of_z w64 c.in-Some.earlier.now.first) ≡ c.in-Some.earlier.now.first = to_z-of_z fits in
    let new : to_z w64 (of_z w64 c.min.result) ≡ c.min.result = to_z-of_z {w = w64} (record { sfits = c.min.type_inv }) in
    let same = same_Some c.in-Some.earlier.now u (sym (ap option_copied c.in-Some.is) ∙ h) in
    let same_first = ap (λ (x : Use). x.first) same in
    record {
      first = omega (arith, signed_arith, cast, new, same_first, c.min.ensures.self_bound);
      last = λ end is.
          let ends = (subst (λ (o : Option ℤ). IfSome o (λ e. EndsEarlier c.in-Some.earlier.now.last e × EndsEarlier c.args.more.last e)) is c.later.ensures).0 in
          subst (λ (x : Use). EndsEarlier x.last end) same ends;
    }
