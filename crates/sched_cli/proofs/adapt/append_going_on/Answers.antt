use Rattle.std.proofs.Common.{◌++◌, ◌∙◌, ℕ, List, ap, string_bytes}
use Rattle.sched_cli.specs.Adapting.{goes_on_text}
use Rattle.sched_cli.proofs.Adapted.{one_name}
use Rattle.sched_cli.proofs.adapt.append_going_on.Goals as goal

pub loop-name-preserved : goal.loop-name-preserved
loop-name-preserved c =
    let number = c.args.number in
    let name = c.name-item.result in
    let so_far = c.loop-name.text.items in
    one_name (goes_on_text number) string_bytes c.args.going_on.now c.loop-name.name-index name c.args.text.now.items so_far _ c.loop-name-test.true c.loop-name.invariant
    (c.in_ok-append_goes_on.ensures ∙ ap (λ (n : List ℕ). so_far ++ goes_on_text number n) (c.as_str.ensures.value ∙ ap string_bytes c.name-item.is))
