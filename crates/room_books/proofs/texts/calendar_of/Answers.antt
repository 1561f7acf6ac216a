-- What the meetings keep is what the book does, and its zones are those that came up.
use Rattle.std.proofs.Common.{◌≡◌, ◌∙◌, ◌++◌, ◌<◌, ◌^◌, List, ℕ, length, sym, ap, subst}
use Rattle.std.specs.List.{flat_map, AllZip}
use Rattle.indexmap.specs.IndexMap.{values}
use Rattle.ical_values.specs.Octets.{address_octets}
use Rattle.cal_zones.specs.RoomZones.{words_of}
use Rattle.profile.specs.rooms.Kept.{IsKeptEvent, each_once, room_zone_lines, zone_texts, zones_kept}
use Rattle.profile.specs.text.Lines.{written}
use Rattle.room_books.specs.Texts.{all_kept, zone_of_entry}
use Rattle.itip_messages.specs.Zones.{with_zones}
use Rattle.room_books.proofs.texts_lemmas.Keeping.{all_are_kept}
use Rattle.room_books.proofs.texts_lemmas.Writing.{calendar_written}
use Rattle.itip_messages.proofs.shared_lemmas.ZonesOnce.{zones_once}
use Rattle.room_books.proofs.texts.calendar_of.Goals as goal

pub returns : goal.returns
returns c = λ book st.
    let w = c.in_ok-write_meetings.ensures in
    let room = address_octets c.args.room.now in
    let found = c.write_meetings.new.zones in
    let kept = all_are_kept room found c.args.meetings.now.entries book st c.keys_differ.ensures w.events w.each in
    let uses = flat_map zone_of_entry (all_kept (values c.args.meetings.now)) in
    let zones : found ≡ zones_kept kept.0 = w.zones ∙ ap (λ z. with_zones z uses) c.new-zones.ensures ∙ zones_once uses ∙ ap each_once (sym kept.3) in
    record {
      entries = kept.0;
      kept = kept.1;
      few = subst (λ z. length z < 2 ^ 64) zones c.in_ok-write.ensures.few;
      events = w.events;
      each = subst (λ (z : List (List ℕ)). AllZip (IsKeptEvent room z) kept.0 w.events) zones kept.2;
      is = c.finish.ensures
          ∙ calendar_written c.new-object.result (zone_texts 0 (zones_kept kept.0)) c.write_meetings.new.object c.begin_calendar.new.self c.write_room_zone.new.object c.write.new.object c.end_calendar.new.self c.octets.new.self
          (room_zone_lines (words_of c.args.zone.now)) (flat_map (λ l. l) w.events)
          c.new-object.ensures
          c.in_ok-begin_calendar.ensures.ok
          c.in_ok-write_room_zone.ensures
          (c.in_ok-write.ensures.texts ∙ ap (λ z. c.write_room_zone.new.object ++ zone_texts 0 z) zones)
          (w.is ∙ ap (λ o. o ++ written (flat_map (λ l. l) w.events)) c.new-events.ensures)
          c.in_ok-end_calendar.ensures.ok
          (c.in_ok-octets.ensures.ok ∙ ap (λ l. c.write.new.object ++ l) (c.as_slice.ensures.value ∙ c.finish-events.ensures));
    }
