use Rattle.std.proofs.Common.{◌≡◌, map, take}
use Rattle.cal_events.specs.Calendar.{key_of}
use Rattle.cal_events.specs.Draft.{override_keys}
use Rattle.cal_events.proofs.draft.keys_of_overrides.Given as goal

-- the keys of those so far
abbrev pub invariant-loop-place : goal.invariant-loop-place
invariant-loop-place l = map key_of l.keys.items ≡ override_keys (take l.place l.entries)
