use Rattle.std.proofs.Common.{◌≡◌, ◌++◌, [], codes, ap, sym, refl}
use Rattle.std.proofs.KnownBytes.{Appends-nil, Appends-trans}
use Rattle.std.proofs.lemmas.Result.{err_from_is_err_and}
use Rattle.sched_cli.specs.Running.{differs_text}
use Rattle.sched_cli.proofs.Saying.{put_writes, stopped_writes}
use Rattle.sched_cli.proofs.status.say_differs.Goals as goal

pub returns-in_err-put : goal.returns-in_err-put
returns-in_err-put g c =
    let p = err_from_is_err_and c.from_residual.result c.from_residual.ensures.1 in
    let name = c.args.name.now in
    stopped_writes _ _ _ _ _ (differs_text name) [] (codes "roombox: differs ") (name ++ codes "\n") _ _ c.from_residual.result p.1 refl (Appends-nil _) c.in_err-put.ensures.stops c.in_err-put.ensures.lost

pub returns-in_err-put-2 : goal.returns-in_err-put-2
returns-in_err-put-2 g c =
    let p = err_from_is_err_and c.from_residual-in_err-put-2.result c.from_residual-in_err-put-2.ensures.1 in
    let octets = c.as_bytes.result.now in
    let same : differs_text c.args.name.now ≡ differs_text octets = ap differs_text (sym c.as_bytes.ensures.value) in
    stopped_writes _ _ _ _ _ (differs_text c.args.name.now) (codes "roombox: differs ") octets (codes "\n") _ _ c.from_residual-in_err-put-2.result p.1 same c.in_ok-put.ensures.written c.in_err-put-2.ensures.stops
    c.in_err-put-2.ensures.lost

pub returns : goal.returns
returns g c =
    let octets = c.as_bytes.result.now in
    let same : differs_text c.args.name.now ≡ differs_text octets = ap differs_text (sym c.as_bytes.ensures.value) in
    put_writes _ _ _ _ _ (differs_text c.args.name.now) (codes "roombox: differs " ++ octets) (codes "\n") c.put-3.result same
    (Appends-trans _ _ _ _ _ c.in_ok-put.ensures.written c.in_ok-put-2.ensures.written) c.put-3.ensures.written c.put-3.ensures.stops c.put-3.ensures.lost
