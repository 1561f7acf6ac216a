use Rattle.std.proofs.Common.{◌∙◌, ◌++◌, ap, List, ℕ, take, drop, codes}
use Rattle.std.proofs.lemmas.List.{take_rest}
use Rattle.cal_events.proofs.with_zone_lemmas.Places.{put_together}
use Rattle.cal_events.proofs.with_zone.put_words.Goals as goal

pub returns : goal.returns
returns c =
    put_together _ _ _ _ _ _ (take c.args.end c.args.bytes.now) (codes "X-ROOM-ZONE:") c.args.words.now (codes "\r\n") (drop c.args.end c.args.bytes.now)
    c.new-octets.ensures.items c.in_ok-extend_from_slice.ensures.items c.in_ok-extend_from_slice-2.ensures.items
    (c.in_ok-extend_from_slice-3.ensures.items ∙ ap (λ (z : List ℕ). c.extend_from_slice-2.new.self.items ++ z) c.as_bytes.ensures.value)
    c.in_ok-extend_from_slice-4.ensures.items
    (c.in_ok-extend_from_slice-5.ensures.items ∙ ap (λ (z : List ℕ). c.extend_from_slice-4.new.self.items ++ z) (take_rest c.args.bytes.now c.args.end))
