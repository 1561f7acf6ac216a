use Rattle.std.proofs.Common.{◌≡◌, ◌∙◌, true, sym, ap, arith, rules, FitsSigned, to_z, of_z, w64, to_z-of_z}
use Rattle.std.proofs.lemmas.Bool.{true≢false}
use Rattle.std.proofs.lemmas.Int.{ints}
use Rattle.std.specs.Prelude.{is_some}
use Rattle.cal_events.specs.Component.{component_of, form_of}
use Rattle.cal_zones.specs.RoomZones.{words_of, room_of}
use Rattle.cal_events.proofs.component_lemmas.PlacedTimes.{start_there}
use Rattle.cal_events.proofs.shared_lemmas.Placing.{started}
use Rattle.cal_events.proofs.component.EventComponent.times_in.Goals as goal

pub unreachable-requires : goal.unreachable-requires
unreachable-requires c =
    let event = component_of c.args.self.now in
    let room = room_of c.args.room.now in
    let y = c.instant_in.result in
    let fits : FitsSigned w64 y = search rules in
    let cast : to_z w64 (of_z w64 y) ≡ y = to_z-of_z fits in
    let fit : FitsSigned w64 c.instant.result = search rules in
    let given : to_z w64 (of_z w64 c.instant.result) ≡ c.instant.result = to_z-of_z fit in
    let starts = started room (form_of c.form.result) event.times.form (to_z w64 (of_z w64 c.instant.result)) event.times.start y c.form.ensures (given ∙ c.instant.ensures.value) c.instant_in.ensures in
    let dates = start_there (words_of c.args.room.now) room c.words_mean.ensures event c.requires y starts in
    let some : is_some c.of_instant.result ≡ true = c.of_instant.ensures.found.1 (omega (arith, ints, cast, dates.0, dates.1), omega (arith, ints, cast, dates.0, dates.1)) in
    true≢false (sym some ∙ ap (λ o. is_some o) c.in_default.is)
