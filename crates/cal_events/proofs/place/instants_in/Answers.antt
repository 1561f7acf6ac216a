use Rattle.std.proofs.Common.{◌≡◌, ◌∙◌, ◌++◌, ◌∷◌, [], ap, subst, ℤ, FitsSigned, to_z, of_z, w64, to_z-of_z, rules}
use Rattle.profile.specs.events.Placed.{IsAt}
use Rattle.cal_zones.specs.RoomZones.{room_of}
use Rattle.cal_events.specs.Component.{time_of}
use Rattle.cal_events.specs.declared.time.Time.{Time}
use Rattle.cal_events.proofs.shared_lemmas.Placing.{zip_more}
use Rattle.cal_events.proofs.place.instants_in.Goals as goal

pub loop-time-preserved : goal.loop-time-preserved
loop-time-preserved c =
    let R = IsAt (room_of c.args.room.now) in
    let x = c.time-item.result in
    let y = c.instant_in.result in
    let old = c.loop-time.instants.items in
    let fits : FitsSigned w64 y = search rules in
    let cast : to_z w64 (of_z w64 y) ≡ y = to_z-of_z fits in
    zip_more R time_of c.args.times.now c.loop-time.time-index x old c.push.new.self.items y c.loop-time-test.true c.loop-time.invariant
    (c.in_ok-push.ensures.items ∙ ap (λ (v : ℤ). old ++ v ∷ []) cast)
    (subst (λ (t : Time). R (time_of t) y) c.time-item.is c.instant_in.ensures)
