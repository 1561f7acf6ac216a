use Rattle.std.proofs.Common.{Global, String, take, string_bytes}
use Rattle.std.specs.Io.KnownBytes.{Appends}
use Rattle.std.specs.List.{flat_map}
use Rattle.sched_cli.specs.Running.{differs_text}
use Rattle.sched_cli.proofs.status.say_comparison.Given as goal

-- the lines of the names so far
abbrev pub invariant-loop-name : goal.invariant-loop-name
invariant-loop-name g l =
    Appends (g.E.Output.contents l.fn.errors) (g.E.Output.contents l.errors) (flat_map (λ (name : String Global). differs_text (string_bytes name)) (take l.name-index l.found.differing.items))
