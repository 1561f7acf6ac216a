use Rattle.std.proofs.Common.{◌≡◌, subst, List, ℤ, pos, get_or, FitsSigned, to_z, of_z, w64, to_z-of_z, rules}
use Rattle.std.specs.List.{AllZip}
use Rattle.std.proofs.lemmas.List.{take_all}
use Rattle.cal_events.specs.Component.{component_of}
use Rattle.cal_events.specs.OwnInstances.{IsInstanceAt}
use Rattle.cal_events.proofs.component_lemmas.OwnInstances.{made_more}
use Rattle.cal_events.proofs.component.EventComponent.singles_at.Goals as goal

pub loop-start-preserved : goal.loop-start-preserved
loop-start-preserved c =
    let xs = c.args.starts.now in
    let k = c.loop-start.start-index in
    let x = get_or xs k (pos 0) in
    let fits : FitsSigned w64 x = search rules in
    let cast : to_z w64 (of_z w64 x) ≡ x = to_z-of_z fits in
    made_more (component_of c.args.self.now) xs k c.loop-start.singles.items c.push.new.self.items c.single_at.result c.loop-start-test.true c.loop-start.invariant c.in_ok-push.ensures.items
    (rw cast at c.single_at.ensures)

pub returns : goal.returns
returns c =
    let event = component_of c.args.self.now in
    subst (λ (l : List ℤ). AllZip (λ start single. IsInstanceAt event start start single) l c.loop-start.singles.items) (take_all c.loop-start.start-index c.args.starts.now c.loop-start-test.false) c.loop-start.invariant
