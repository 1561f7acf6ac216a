use Rattle.std.proofs.Common.{◌≡◌, ◌++◌, take}
use Rattle.std.specs.List.{flat_map}
use Rattle.sched_cli.specs.Logging.{shown_octet}
use Rattle.sched_cli.proofs.shown.append_shown.Given as goal

abbrev pub invariant-loop-octet : goal.invariant-loop-octet
invariant-loop-octet l = l.line.items ≡ l.fn.line.items ++ flat_map shown_octet (take l.octet-index l.octets)
