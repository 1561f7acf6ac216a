use Rattle.std.proofs.Common.{[], ◌∷◌, ap, string_bytes}
use Rattle.std.proofs.lemmas.Result.{on_ok_weaker}
use Rattle.itip_messages.proofs.shared_lemmas.LineLemmas.{put_together}
use Rattle.itip_messages.proofs.reply.put_conflict.Goals as goal

pub returns : goal.returns
returns c =
    let instant = c.in_ok-put_stamp.ensures in
    let first = c.in_ok-put_key.ensures in
    on_ok_weaker c.put_key-2.result
    (λ second. (
      instant.0,
      first.0,
      second.0,
      instant.1,
      first.1,
      second.1,
      ap (λ x. x ∷ []) (put_together (string_bytes c.args.line.now) (string_bytes c.push_str.new.self) (string_bytes c.put_stamp.new.line) (string_bytes c.push_str-2.new.self) (string_bytes c.put_key.new.line) (string_bytes c.push_str-3.new.self) (string_bytes c.put_key-2.new.line)
          _ instant.0 _ first.0 second.0 c.requires c.in_ok-push_str.ensures.bytes instant.2 c.in_ok-push_str-2.ensures.bytes first.2 c.in_ok-push_str-3.ensures.bytes second.2),
    ))
    c.put_key-2.ensures
