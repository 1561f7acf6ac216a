use Rattle.std.proofs.Common.{refl}
use Rattle.std.proofs.lemmas.Result.{on_ok_weaker}
use Rattle.itip_messages.proofs.shared_lemmas.LineLemmas.{key_put}
use Rattle.itip_messages.proofs.reply.put_key.Goals as goal

pub returns : goal.returns
returns c =
    let stamp = c.in_ok-put_stamp.ensures in
    on_ok_weaker c.put_word-2.result
    (λ last. (_, record { slot = stamp.0; written = stamp.1; is = refl }, key_put _ _ _ _ _ _ _ _ _ _ stamp.2 c.in_ok-push_str.ensures.bytes c.in_ok-put_word.ensures c.in_ok-push_str-2.ensures.bytes last))
    c.put_word-2.ensures
