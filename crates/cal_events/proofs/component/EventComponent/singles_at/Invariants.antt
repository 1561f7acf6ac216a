use Rattle.std.proofs.Common.{take}
use Rattle.std.specs.List.{AllZip}
use Rattle.cal_events.specs.Component.{component_of}
use Rattle.cal_events.specs.OwnInstances.{IsInstanceAt}
use Rattle.cal_events.proofs.component.EventComponent.singles_at.Given as goal

-- those so far, of the starts so far
abbrev pub invariant-loop-start : goal.invariant-loop-start
invariant-loop-start l = AllZip (λ start single. IsInstanceAt (component_of l.self) start start single) (take l.start-index l.starts) l.singles.items
