use Rattle.std.proofs.Common.{◌≡◌, ◌∙◌, ◌++◌, List, ℕ, [], decimal, ap, refl, sym}
use Rattle.std.proofs.KnownBytes.{Appends-nil}
use Rattle.std.proofs.lemmas.Result.{err_from_is_err_and}
use Rattle.sched_cli.proofs.Saying.{put_writes, stopped_writes}
use Rattle.sched_cli.proofs.status.say_number.Goals as goal

pub returns-in_err-put : goal.returns-in_err-put
returns-in_err-put g c =
    let p = err_from_is_err_and c.from_residual.result c.from_residual.ensures.1 in
    stopped_writes _ _ _ _ _ (c.args.words.now ++ decimal c.args.number) [] c.args.words.now (decimal c.args.number) _ _ c.from_residual.result p.1 refl (Appends-nil _) c.in_err-put.ensures.stops c.in_err-put.ensures.lost

pub returns : goal.returns
returns g c =
    let digits = c.as_bytes.result.now in
    let same : decimal c.args.number ≡ digits = sym (c.as_bytes.ensures.value ∙ c.format.ensures.text) in
    put_writes _ _ _ _ _ (c.args.words.now ++ decimal c.args.number) c.args.words.now digits c.put-2.result (ap (λ (d : List ℕ). c.args.words.now ++ d) same) c.in_ok-put.ensures.written c.put-2.ensures.written c.put-2.ensures.stops c.put-2.ensures.lost
