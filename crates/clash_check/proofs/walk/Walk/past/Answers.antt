use Rattle.clash_check.proofs.WalkLemmas.{below_one, gone_past}
use Rattle.clash_check.specs.Walks.{IsBelow}
use Rattle.clash_check.proofs.walk.Walk.past.Goals as goal

pub returns-clause-past : goal.returns-clause-past
returns-clause-past g c = λ a bound known is.
    gone_past (IsBelow a bound) _ _ bound (λ s e b. b.1) (below_one a bound known) c.args.self is c.args.next c.requires.next c.draw_span-after.result c.draw_span-after.ensures.drawn
    c.draw_span-after.ensures.coming c.later_end.result c.later_end.ensures c.args.self.series
