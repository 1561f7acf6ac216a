use Rattle.std.proofs.Common.{◌≡◌, ◌++◌, List, take}
use Rattle.std.specs.List.{AllZip}
use Rattle.cal_events.specs.Component.{component_of}
use Rattle.cal_events.specs.Draft.{IsMadeAt}
use Rattle.cal_events.specs.declared.calendar.PlacedSingle.{PlacedSingle as Single}
use Rattle.cal_events.proofs.draft.add_singles.Given as goal

-- those so far, of the starts so far
abbrev pub invariant-loop-start : goal.invariant-loop-start
invariant-loop-start l = (own : List Single) × (l.singles.items ≡ l.fn.singles.items ++ own) × AllZip (IsMadeAt l.entry (component_of l.event)) (take l.start-index l.start-items) own
