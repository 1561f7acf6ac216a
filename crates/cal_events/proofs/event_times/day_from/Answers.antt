use Rattle.std.proofs.Common.{◌≡◌, ◌∙◌, arith, refl, inl, inr, subst, sym, ap, pos, negsuc, ◌-ℤ◌, ◌≤ℤ◌, to_z, of_z, w64, FitsSigned, to_z-of_z, rules}
use Rattle.std.specs.Int.{int_rem_euclid}
use Rattle.std.proofs.lemmas.Int.{ints}
use Rattle.profile.specs.series.Zones.{Means}
use Rattle.cal_zones.specs.Kinds.{zone_of}
use Rattle.cal_events.proofs.shared_lemmas.CountedFrom.{midnight_by}
use Rattle.cal_events.proofs.event_times.day_from.Goals as goal

pub returns-then-meant-instant-clause-counted : goal.returns-then-meant-instant-clause-counted
returns-then-meant-instant-clause-counted c =
    let z = zone_of c.args.clock.now in
    let t = c.args.instant in
    let u = c.resolve-meant.result in
    let fits : FitsSigned w64 u = search rules in
    let kept_meant : to_z w64 (of_z w64 u) ≡ u = to_z-of_z fits in
    let fits_start : FitsSigned w64 t = search rules in
    let kept_start : to_z w64 (of_z w64 t) ≡ t = to_z-of_z fits_start in
    let shown = c.args.shown in
    let start = c.requires.start in
    let near = c.requires.near in
    let kept : to_z w64 (of_z w64 shown) ≡ shown = omega (arith, ints, start, near) in
    let rest : c.rem_euclid.result ≡ int_rem_euclid shown (pos 86_400) = rw kept at c.rem_euclid.ensures.value in
    let from : negsuc 62_167_219_199 ≤ℤ shown = omega (arith, ints, start, near) in
    let by = midnight_by shown from in
    let second = by.1 in
    let cast : to_z w64 (of_z w64 (to_z w64 (of_z w64 shown) -ℤ to_z w64 (of_z w64 c.rem_euclid.result))) ≡ shown -ℤ int_rem_euclid shown (pos 86_400) = omega (arith, ints, start, near, rest, second) in
    let same : u ≡ t = sym kept_meant ∙ ap (to_z w64) c.if-meant-instant.true ∙ kept_start in
    let means = rw cast at c.resolve-meant.ensures.meaning in
    rw cast (shown, shown -ℤ int_rem_euclid shown (pos 86_400), c.requires.shown, by.0, inl (subst (Means z (shown -ℤ int_rem_euclid shown (pos 86_400))) same means, refl))

pub returns-clause-counted : goal.returns-clause-counted
returns-clause-counted c =
    let z = zone_of c.args.clock.now in
    let t = c.args.instant in
    let shown = c.args.shown in
    let start = c.requires.start in
    let near = c.requires.near in
    let kept : to_z w64 (of_z w64 shown) ≡ shown = omega (arith, ints, start, near) in
    let rest : c.rem_euclid.result ≡ int_rem_euclid shown (pos 86_400) = rw kept at c.rem_euclid.ensures.value in
    let from : negsuc 62_167_219_199 ≤ℤ shown = omega (arith, ints, start, near) in
    let by = midnight_by shown from in
    let second = by.1 in
    let midnight = shown -ℤ int_rem_euclid shown (pos 86_400) in
    let cast : to_z w64 (of_z w64 (to_z w64 (of_z w64 shown) -ℤ to_z w64 (of_z w64 c.rem_euclid.result))) ≡ shown -ℤ int_rem_euclid shown (pos 86_400) = omega (arith, ints, start, near, rest, second) in
    let means = rw cast at c.resolve-meant.ensures.meaning in
    let one = c.one_meaning.ensures.meaning in
    rw kept (shown, midnight, c.requires.shown, by.0, inr ((λ (m : Means z midnight t). c.if-meant-instant.false (ap (of_z w64) (one midnight c.resolve-meant.result t means m))), refl))
