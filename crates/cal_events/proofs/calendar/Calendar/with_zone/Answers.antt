use Rattle.std.proofs.Common.{◌∙◌, ◌++◌, ap, List, ℕ, take, drop, codes}
use Rattle.cal_zones.specs.RoomZones.{words_of, room_of}
use Rattle.cal_events.proofs.with_zone_lemmas.Places.{with_zone_by}
use Rattle.cal_events.proofs.calendar.Calendar.with_zone.Goals as goal

pub returns-clause-named : goal.returns-clause-named
returns-clause-named c =
    let bytes = c.args.bytes.now in
    let end = c.in_ok-end.end in
    with_zone_by (words_of c.args.room.now) bytes c.in_ok-octets.octets.items (room_of c.args.room.now) end c.words_mean.ensures c.in_ok-end.ensures.place
    (c.in_ok-octets.ensures ∙ ap (λ (z : List ℕ). take end bytes ++ (codes "X-ROOM-ZONE:" ++ z ++ codes "\r\n") ++ drop end bytes) (c.as_str.ensures.value ∙ c.in_ok-words.ensures))
