use Rattle.std.proofs.Common.{◌≡◌, ◌∙◌, [], map, sym, ap, subst, rules}
use Rattle.std.specs.Prelude.{Option, is_some, option_map}
use Rattle.profile.specs.series.Rules.{Rule}
use Rattle.cal_events.specs.Component.{attendee_of, component_of, times_of}
use Rattle.ical_values.specs.Octets.{address_octets, text_octets}
use Rattle.cal_events.specs.Said.{AreSaidWith}
use Rattle.cal_zones.specs.RoomZones.{words_of, room_of}
use Rattle.cal_events.proofs.component_lemmas.PlacedTimes.{event_at, times_placed, times_steady, times_named, times_said}
use Rattle.cal_events.proofs.component.EventComponent.placed_copy.Goals as goal

pub invariant_of-result : goal.invariant_of-result
invariant_of-result c =
    let event = component_of c.args.self.now in
    let words = words_of c.args.room.now in
    let room = room_of c.args.room.now in
    let t = c.in_ok-times.field-0 in
    let rule : c.in_ok-rule.rule ≡ event.rule = search rules in
    record {
      steady = times_steady words room c.words_mean.ensures event t c.in_ok-times.ensures c.args.self.now.steady;
      named = times_named words room c.words_mean.ensures event t c.in_ok-times.ensures c.requires;
      said = λ recurs.
          subst (λ (r : Option Rule). ∥ AreSaidWith (times_of t.times) r ∥₁) (sym rule)
          (times_said words room c.words_mean.ensures event t c.in_ok-times.ensures c.requires (sym (ap (λ (r : Option Rule). is_some r) rule) ∙ recurs));
    }

pub returns : goal.returns
returns c =
    let event = component_of c.args.self.now in
    let room = room_of c.args.room.now in
    let t = c.in_ok-times.field-0 in
    let uid : text_octets c.in_ok-uid.uid ≡ event.uid = search rules in
    let organiser : option_map address_octets c.in_ok-organiser.organiser ≡ event.organiser = search rules in
    let rule : c.in_ok-rule.rule ≡ event.rule = search rules in
    let summary : text_octets c.in_ok-summary.summary ≡ [] = search rules in
    let attendees : map attendee_of c.new-2.result.items ≡ [] = ap (map attendee_of) c.new-2.ensures.items in
    record {
      placed = event_at event t;
      is_placed = times_placed room event t c.in_ok-times.ensures;
      is = λ i. record (event_at event t) {
        uid = uid i;
        organiser = organiser i;
        rule = rule i;
        written = c.new.ensures i;
        summary = summary i;
        attendees = attendees i;
      };
    }
