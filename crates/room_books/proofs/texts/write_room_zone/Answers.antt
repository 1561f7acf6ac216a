use Rattle.std.proofs.Common.{◌∙◌}
use Rattle.std.proofs.lemmas.Result.{on_ok_weaker}
use Rattle.room_books.proofs.texts_lemmas.RoomLines.{utc_unnamed, zone_named}
use Rattle.room_books.proofs.texts.write_room_zone.Goals as goal

pub returns : goal.returns
returns c =
    let zone = c.args.zone.now in
    let old = c.args.object.now in
    let new = c.named.new.self in
    let text = c.as_str.result.now in
    on_ok_weaker c.named.result
    (zone_named zone old new text c.is_utc.result c.is_utc.ensures c.if-is_utc.false (c.as_str.ensures.value ∙ c.in_ok-words.ensures)) c.named.ensures.ok

pub returns-then-is_utc : goal.returns-then-is_utc
returns-then-is_utc c = utc_unnamed c.args.zone.now c.args.object.now c.is_utc.result c.is_utc.ensures c.if-is_utc.true
