use Rattle.std.proofs.Common.{◌∙◌, sym, subst, ℕ, List}
use Rattle.std.proofs.lemmas.Bool.{not-false}
use Rattle.std.proofs.lemmas.Slice.Eq.{bytes_eq-Decides}
use Rattle.profile.specs.series.RoomZones.{IsRoomZone}
use Rattle.cal_zones.specs.RoomZones.{room_of}
use Rattle.cal_zones.proofs.RoomZoneLemmas.{room_means}
use Rattle.cal_zones.proofs.room_zone.RoomZone.read.Goals as goal

pub returns-clause-words : goal.returns-clause-words
returns-clause-words c =
    sym c.in_ok-again.ensures ∙ sym c.as_str.ensures.value ∙ (bytes_eq-Decides c.as_str.result.now c.args.words.now).0 (not-false _ (sym c.ne.ensures ∙ c.if-ne.false))

pub returns-clause-means : goal.returns-clause-means
returns-clause-means c =
    let same = sym c.in_ok-again.ensures ∙ sym c.as_str.ensures.value ∙ (bytes_eq-Decides c.as_str.result.now c.args.words.now).0 (not-false _ (sym c.ne.ensures ∙ c.if-ne.false)) in
    subst (λ (w : List ℕ). IsRoomZone w (room_of c.in_ok-zone.zone)) same (room_means c.in_ok-zone.zone)
