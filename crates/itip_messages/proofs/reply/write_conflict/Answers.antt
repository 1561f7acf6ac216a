use Rattle.std.proofs.Common.{◌≡◌, string_bytes}
use Rattle.std.proofs.lemmas.Result.{on_ok_weaker}
use Rattle.itip_messages.proofs.shared_lemmas.LineLemmas.{one_line}
use Rattle.itip_messages.proofs.reply.write_conflict.Goals as goal

pub returns-clause-ok : goal.returns-clause-ok
returns-clause-ok c =
    let is : c.as_str.result.now ≡ string_bytes c.put_conflict.new.line = cc in
    on_ok_weaker c.line.result (λ e. (_, c.in_ok-put_conflict.ensures, one_line _ _ _ e)) (rw is at c.line.ensures.ok)
