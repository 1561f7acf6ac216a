use Rattle.std.proofs.Common.{◌≡◌, ap, ◌∙◌, ◌+◌, sym, subst, arith}
use Rattle.std.specs.Prelude.{IfNone, None}
use Rattle.cal_events.proofs.shared_lemmas.PlaceLemmas.{AreFound, found_more, found_past, places_found}
use Rattle.cal_events.proofs.places.Places.of.Goals as goal
use Rattle.cal_events.proofs.places.Places.of.Goals.{in-Some+in_ok-push, in_default}

pub loop-which-preserved : goal.loop-which-preserved
loop-which-preserved c =
    let os = c.args.overrides.now in
    let n = c.loop-which.which in
    let o = c.index-overrides-which.result in
    let ms = c.loop-which.sorted.items in
    elim c.match-of.branch [
      | in-Some+in_ok-push w ↦ found_more os n o (omega arith) c.index-overrides-which.is ms c.loop-which.invariant w.in-Some.moved c.match-of.sorted.items w.in-Some.ensures.found.0 w.in-Some.ensures.found.1 (ap (λ v. v.items) w.sorted-is ∙ w.in_ok-push.ensures.items)
      | in_default w ↦ subst (AreFound os (n + 1)) (sym (ap (λ v. v.items) w.sorted-is)) (found_past os n o (omega arith) c.index-overrides-which.is ms c.loop-which.invariant (subst (λ r. IfNone r (o.recurrence ≡ None)) w.in_default.is c.of.ensures.none))
    ]

pub returns : goal.returns
returns c = places_found c.args.overrides.now c.loop-which.which c.loop-which.sorted.items c.sort_unstable.new.self.items (omega (arith, c.loop-which-test.false)) c.loop-which.invariant c.sort_unstable.ensures.permutation
