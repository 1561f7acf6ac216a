use Rattle.std.proofs.Common.{◌≡◌, map, take}
use Rattle.std.specs.List.{filter}
use Rattle.cal_events.specs.Calendar.{key_of}
use Rattle.cal_events.specs.Draft.{is_shown_in}
use Rattle.cal_events.proofs.draft.without_hidden.Given as goal

-- of those so far the ones that are shown
abbrev pub invariant-loop-single : goal.invariant-loop-single
invariant-loop-single l = l.left.items ≡ filter (is_shown_in l.entries (map key_of l.overrides)) (take l.single-index l.single-items)
