use Rattle.std.proofs.Common.{◌∙◌, ap, sym}
use Rattle.cal_zones.specs.RoomWords.{offset_octets}
use Rattle.cal_zones.proofs.Casts.{narrow}
use Rattle.cal_zones.proofs.RoomReads.{offset_is}
use Rattle.cal_zones.proofs.room_zone.read_one.Goals as goal

pub returns-clause-words : goal.returns-clause-words
returns-clause-words c = λ offset w.
    c.constant.ensures.words ∙ ap offset_octets (narrow c.seconds.result c.seconds.ensures.range ∙ c.seconds.ensures.value ∙ c.in_ok-offset.ensures.reads offset w) ∙ sym (offset_is c.args.words.now offset w)
