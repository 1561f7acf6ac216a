-- Lines that are written one after another, and the VEVENTs of parts.
-- Cited by calendar_of, write_meeting, write_meetings.
use Rattle.std.proofs.Common.{◌≡◌, ℕ, Bool, true, false, List, [], ◌∷◌, ◌++◌, filter, None, codes, refl, sym, ap, ◌∙◌, subst, append-nil}
use Rattle.std.specs.List.{flat_map, AllZip}
use Rattle.std.proofs.lemmas.Grind.{flat_map-append}
use Rattle.profile.specs.text.Lines.{written, folded}
use Rattle.profile.specs.rooms.Messages.{opening_lines}
use Rattle.profile.specs.rooms.Kept.{each_once}
use Rattle.profile.specs.rooms.Revisions.{Part}
use Rattle.room_books.specs.Texts.{IsEntryEvent, WritesEntries, zone_of_entry}
use Rattle.itip_messages.specs.Zones.{is_new, with_zones}
use Rattle.itip_messages.proofs.shared_lemmas.WrittenLines.{flat_push, no_lines, push_line, push_lines}
use Rattle.itip_messages.proofs.shared_lemmas.ZonesOnce.{named_still, with_more, with_zones_are}
use Rattle.room_books.proofs.shared_lemmas.Loops.{zip_both}

lines_joined : (a b : List (List ℕ)) → written a ++ written b ≡ written (a ++ b)
lines_joined a b = sym (flat_map-append folded a b)

-- the octets of a kept calendar: the line for the zone of its room, if there is one, and then its zones come before its VEVENTs
pub calendar_written : (begin zones events opened named zoned closed whole : List ℕ) (room lines : List (List ℕ)) → begin ≡ [] → opened ≡ begin ++ written (opening_lines None) → named ≡ opened ++ written room
    → zoned ≡ named ++ zones
    → events ≡ written lines → closed ≡ events ++ folded (codes "END:VCALENDAR") → whole ≡ zoned ++ closed → whole ≡ written (opening_lines None ++ room) ++ zones ++ written (lines ++ codes "END:VCALENDAR" ∷ [])
calendar_written begin zones events opened named zoned closed whole room lines none first own_zone then own last all =
    let open_is : opened ≡ written (opening_lines None) = first ∙ ap (λ o. o ++ written (opening_lines None)) none in
    let closed_is : closed ≡ written (lines ++ codes "END:VCALENDAR" ∷ []) = push_line [] events closed (codes "END:VCALENDAR") lines own last in
    let named_is : named ≡ written (opening_lines None ++ room) = own_zone ∙ ap (λ o. o ++ written room) open_is ∙ lines_joined (opening_lines None) room in
    all ∙ (λ i. (then ∙ ap (λ o. o ++ zones) named_is) i ++ closed_is i)

-- ---- zones that come later

event_still : (room : List ℕ) (zones more : List (List ℕ)) (entry : Bool × Part) (lines : List (List ℕ)) → IsEntryEvent room zones entry lines → IsEntryEvent room (zones ++ more) entry lines
event_still room zones more (true, part) lines event = λ claim e f is text dated.
    let h = event claim e f is text dated in (h.0, named_still zones more claim.content.zone h.0 h.1, h.2)
event_still room zones more (false, part) lines event = event

events_still : (room : List ℕ) (zones more : List (List ℕ)) (entries : List (Bool × Part)) (events : List (List (List ℕ))) → AllZip (IsEntryEvent room zones) entries events → AllZip (IsEntryEvent room (zones ++ more)) entries events
events_still room zones more [] [] z = z
events_still room zones more [] (x ∷ xs) z = absurd z
events_still room zones more (e ∷ es) [] z = absurd z
events_still room zones more (e ∷ es) (x ∷ xs) z = (event_still room zones more e x z.0, events_still room zones more es xs z.1)

-- ---- the VEVENTs of what is kept

pub none_written : (room : List ℕ) (zones : List (List ℕ)) (old : List ℕ) → WritesEntries room [] zones zones old old
none_written room zones old = record { zones = refl; events = []; each = tt; is = no_lines old }

pub one_written_entry : (room : List ℕ) (entry : Bool × Part) (lines zones_old zones_new : List (List ℕ)) (old new : List ℕ) → zones_new ≡ with_zones zones_old (zone_of_entry entry) → IsEntryEvent room zones_new entry lines
    → new ≡ old ++ written lines → WritesEntries room (entry ∷ []) zones_old zones_new old new
one_written_entry room entry lines zones_old zones_new old new zones event is = record {
  zones = zones ∙ ap (with_zones zones_old) (sym (append-nil (zone_of_entry entry)));
  events = lines ∷ [];
  each = (event, tt);
  is = is ∙ ap (λ l. old ++ written l) (sym (append-nil lines));
}

pub both_written : (room : List ℕ) (first second : List (Bool × Part)) (zones_old zones_now zones_new : List (List ℕ)) (old now new : List ℕ) → WritesEntries room first zones_old zones_now old now
    → WritesEntries room second zones_now zones_new now new → WritesEntries room (first ++ second) zones_old zones_new old new
both_written room first second zones_old zones_now zones_new old now new a b =
    let uses = flat_map zone_of_entry second in
    let more = filter (is_new zones_now) (each_once uses) in
    let longer : zones_now ++ more ≡ zones_new = sym (with_zones_are zones_now uses) ∙ sym b.zones in
    let each : AllZip (IsEntryEvent room zones_new) first a.events =
    subst (λ (zones : List (List ℕ)). AllZip (IsEntryEvent room zones) first a.events) longer (events_still room zones_now more first a.events a.each) in
    record {
      zones = b.zones ∙ ap (λ zones. with_zones zones uses) a.zones ∙ sym (with_more zones_old (flat_map zone_of_entry first) uses) ∙ ap (with_zones zones_old) (sym (flat_map-append zone_of_entry first second));
      events = a.events ++ b.events;
      each = zip_both (IsEntryEvent room zones_new) first a.events second b.events each b.each;
      is = push_lines old now new (flat_map (λ l. l) a.events) (flat_map (λ l. l) b.events) a.is b.is ∙ ap (λ l. old ++ written l) (sym (flat_map-append (λ l. l) a.events b.events));
    }

-- one more part
pub part_written : (f : Part → List (Bool × Part)) (room : List ℕ) (done : List Part) (part : Part) (zones_old zones_now zones_new : List (List ℕ)) (old now new : List ℕ)
    → WritesEntries room (flat_map f done) zones_old zones_now old now → WritesEntries room (f part) zones_now zones_new now new → WritesEntries room (flat_map f (done ++ part ∷ [])) zones_old zones_new old new
part_written f room done part zones_old zones_now zones_new old now new before w =
    subst (λ (l : List (Bool × Part)). WritesEntries room l zones_old zones_new old new) (sym (flat_push f done part)) (both_written room (flat_map f done) (f part) zones_old zones_now zones_new old now new before w)
