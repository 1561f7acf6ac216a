use Rattle.std.proofs.Common.{◌≡◌, map, drop}
use Rattle.std.specs.List.{find}
use Rattle.profile.specs.events.Messages.{is_word_of, named_methods}
use Rattle.cal_events.specs.Component.{method_said}
use Rattle.cal_events.proofs.method.Method.named.Given as goal

-- the methods that are left decide it
abbrev pub invariant-loop-method : goal.invariant-loop-method
invariant-loop-method l =
    find (is_word_of l.word) named_methods ≡ find (is_word_of l.word) (map method_said (drop l.method-index l.method-items))
