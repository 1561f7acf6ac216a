use Rattle.std.proofs.Common.{◌≡◌, ◌++◌, take, map, string_bytes}
use Rattle.std.specs.List.{flat_map}
use Rattle.sched_cli.specs.Adapting.{goes_on_text}
use Rattle.sched_cli.proofs.adapt.append_going_on.Given as goal

abbrev pub invariant-loop-name : goal.invariant-loop-name
invariant-loop-name l = l.text.items ≡ l.fn.text.items ++ flat_map (goes_on_text l.number) (map string_bytes (take l.name-index l.going_on))
