use Rattle.std.proofs.Common.{◌∙◌, ◌/◌, ◌%◌, arith}
use Rattle.cal_zones.proofs.RoomZoneLemmas.{four_digits}
use Rattle.cal_zones.proofs.room_zone.time_words.Goals as goal

pub returns : goal.returns
returns c =
    let s = c.args.second in
    let h = c.requires in
    c.in_ok-format.ensures.ok ∙ four_digits (s / 3600 / 10) (s / 3600 % 10) (s / 60 % 60 / 10) (s / 60 % 60 % 10) (omega (arith, h)) (omega arith) (omega arith) (omega arith)
