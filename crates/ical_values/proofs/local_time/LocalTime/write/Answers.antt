use Rattle.std.proofs.Common.{◌≡◌, ◌∙◌, ◌++◌, ℕ, List, [], arith, to_z, of_z, w64}
use Rattle.std.proofs.lemmas.Int.{ints}
use Rattle.std.proofs.lemmas.Result.{on_ok_weaker}
use Rattle.std.proofs.lemmas.List.{append-nil}
use Rattle.profile.specs.text.Values.{SpellsClock}
use Rattle.ical_values.specs.Written.{Appends}
use Rattle.ical_values.proofs.local_time.LocalTime.write.Goals as goal

pub returns-clause-ok : goal.returns-clause-ok
returns-clause-ok c =
    let same : to_z w64 (of_z w64 c.self.inside.seconds) ≡ c.self.inside.seconds = omega (arith, ints, c.self.invariant) in
    rw (← c.self.view_is) (on_ok_weaker {P = Appends c.args.out.now.items c.write.new.out.items (λ text. (clock : List ℕ) × SpellsClock 59 clock c.self.inside.seconds × (text ≡ clock ++ []))} c.write.result (λ a. (a.0, rw (a.1.2 ∙ append-nil a.1.0) a.1.1, a.2)) (rw same at c.write.ensures.ok))
