use Rattle.std.proofs.Common.{◌≡◌, List, ℕ, [], codes, decimal, ◌++◌, ◌∙◌, ap, sym, refl}
use Rattle.std.proofs.KnownBytes.{Appends-nil, Appends-trans}
use Rattle.sched_cli.specs.Commands.{refused_text}
use Rattle.sched_cli.proofs.Saying.{put_says, stopped_says}
use Rattle.sched_cli.proofs.status.say_refused.Goals as goal

pub returns-in_err-put : goal.returns-in_err-put
returns-in_err-put g c =
    stopped_says _ _ _ _ _ (refused_text c.args.number) [] (codes "roombox: refused ") (decimal c.args.number ++ codes "\n") _ refl (Appends-nil _) c.in_err-put.ensures.stops c.in_err-put.ensures.lost

pub returns-in_err-put-2 : goal.returns-in_err-put-2
returns-in_err-put-2 g c =
    let digits = c.as_bytes.result.now in
    let same : decimal c.args.number ≡ digits = sym (c.as_bytes.ensures.value ∙ c.format.ensures.text) in
    stopped_says _ _ _ _ _ (refused_text c.args.number) (codes "roombox: refused ") digits (codes "\n") _ (ap (λ (d : List ℕ). codes "roombox: refused " ++ (d ++ codes "\n")) same)
    c.in_ok-put.ensures.written c.in_err-put-2.ensures.stops c.in_err-put-2.ensures.lost

pub returns : goal.returns
returns g c =
    let digits = c.as_bytes.result.now in
    let same : decimal c.args.number ≡ digits = sym (c.as_bytes.ensures.value ∙ c.format.ensures.text) in
    let split : refused_text c.args.number ≡ (codes "roombox: refused " ++ digits) ++ codes "\n" = ap (λ (d : List ℕ). codes "roombox: refused " ++ (d ++ codes "\n")) same in
    put_says _ _ _ _ _ (refused_text c.args.number) (codes "roombox: refused " ++ digits) (codes "\n") c.put-3.result split
    (Appends-trans _ _ _ _ _ c.in_ok-put.ensures.written c.in_ok-put-2.ensures.written) c.put-3.ensures.written c.put-3.ensures.stops c.put-3.ensures.lost
