use Rattle.std.proofs.Common.{true, false, refl, sym, subst, ℤ, rules, to_z, of_z, w64, FitsSigned}
use Rattle.std.proofs.lemmas.Int.{to_z-of_z}
use Rattle.cal_events.specs.Calendar.{instance_of}
use Rattle.clash_cert.specs.Makings.{IsLaterStart}
use Rattle.clash_cert.proofs.MakingLemmas.{named_first}
use Rattle.clash_cert.proofs.making.clash_of.Goals as goal

pub returns-then-is_before : goal.returns-then-is_before
returns-then-is_before c = λ of_a of_b.
    let a = instance_of c.args.a.now in
    let b = instance_of c.args.b.now in
    let t = c.later_start-instant.result in
    let fits : FitsSigned w64 t = search rules in (
      named_first a b (to_z w64 (of_z w64 t)) _ true (sym c.if-is_before.ensures) (record { first = of_b; second = of_a; instant = refl }),
      subst (λ (u : ℤ). IsLaterStart a b u) (sym (to_z-of_z w64 t fits)) c.later_start-instant.ensures,
    )

pub returns-else-is_before : goal.returns-else-is_before
returns-else-is_before c = λ of_a of_b.
    let a = instance_of c.args.a.now in
    let b = instance_of c.args.b.now in
    let t = c.later_start-instant.result in
    let fits : FitsSigned w64 t = search rules in (
      named_first a b (to_z w64 (of_z w64 t)) _ false (sym c.if-is_before.ensures) (record { first = of_a; second = of_b; instant = refl }),
      subst (λ (u : ℤ). IsLaterStart a b u) (sym (to_z-of_z w64 t fits)) c.later_start-instant.ensures,
    )
