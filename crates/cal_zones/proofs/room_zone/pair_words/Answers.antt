use Rattle.std.proofs.Common.{◌∙◌, ap, codes, string_bytes}
use Rattle.cal_zones.specs.RoomWords.{offset_octets}
use Rattle.cal_zones.proofs.Casts.{narrow}
use Rattle.cal_zones.proofs.RoomZoneLemmas.{four, gathered}
use Rattle.cal_zones.proofs.room_zone.pair_words.Goals as goal

pub returns : goal.returns
returns c =
    c.in_ok-format.ensures.ok ∙ four (string_bytes c.in_ok-standard.standard) (string_bytes c.in_ok-daylight.daylight) (string_bytes c.in_ok-first.first) (string_bytes c.in_ok-second.second) (codes " ")
    ∙ gathered (codes " ") _ _ _ _ _ _ _ _ (c.in_ok-standard.ensures ∙ ap offset_octets (narrow c.args.pair.now.standard.offset_to c.args.pair.now.standard.to))
    (c.in_ok-daylight.ensures ∙ ap offset_octets (narrow c.args.pair.now.daylight.offset_to c.args.pair.now.daylight.to)) c.in_ok-first.ensures c.in_ok-second.ensures
