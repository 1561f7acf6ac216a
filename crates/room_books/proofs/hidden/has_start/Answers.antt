use Rattle.std.proofs.Common.{◌≡◌, ◌≢◌, ◌∙◌, true, ℤ, inl, sym, ap, subst, nat_eq, FitsSigned, to_z, of_z, to_z-of_z, w64, rules, arith}
use Rattle.std.specs.Prelude.{nat_eq}
use Rattle.std.proofs.lemmas.Bool.{both_ways, eqb-true}
use Rattle.std.proofs.lemmas.Cmp.{nat_eq_equiv}
use Rattle.std.proofs.lemmas.Int.{ints}
use Rattle.cal_events.specs.Calendar.{instance_of}
use Rattle.room_books.proofs.hidden.has_start.Goals as goal

pub returns-in-Some-clause-none : goal.returns-in-Some-clause-none
returns-in-Some-clause-none c = λ other booked inside same.
    let first = c.in-Some.instance in
    let start = c.args.start in
    let gives = c.in-Some.ensures.steps in
    let differ : first.start ≢ start = λ e. both_ways _ other (subst (λ (t : ℤ). nat_eq (of_z w64 first.start) (of_z w64 t) ≡ true) e (nat_eq_equiv.refl (of_z w64 first.start))) in
    let from = ((c.starts.ensures.left (instance_of first)).0 gives.1.0).1 in
    let left = (c.starts.ensures.left booked).1 (inside, omega (arith, ints, same)) in
    gives.1.1 booked left (inl (omega (arith, ints, from, differ, same)))

pub returns-in-None-clause-none : goal.returns-in-None-clause-none
returns-in-None-clause-none c = λ none booked inside same. c.in-None.ensures.steps.1.0 booked ((c.starts.ensures.left booked).1 (inside, omega (arith, ints, same)))

pub returns-in-Some-clause-one : goal.returns-in-Some-clause-one
returns-in-Some-clause-one c = λ is.
    let first = c.in-Some.instance in
    let start = c.args.start in
    let fits : FitsSigned w64 start = search rules in
    let fits_first : FitsSigned w64 first.start = search rules in
    let e : of_z w64 first.start ≡ of_z w64 start = eqb-true (of_z w64 first.start) (of_z w64 start) is in
    let same : first.start ≡ start = sym (to_z-of_z fits_first) ∙ ap (to_z w64) e ∙ to_z-of_z fits in
    (instance_of first, ((c.starts.ensures.left (instance_of first)).0 c.in-Some.ensures.steps.1.0).0, same)
