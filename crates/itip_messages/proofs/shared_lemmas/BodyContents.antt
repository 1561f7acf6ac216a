-- The octets of an event's body read as its content, and are text.
-- Behind write_instance of event_lines, write_attendees of meeting_text, write_component of meeting_text, write_components of meeting_text, write_meeting of meeting_text.
use Rattle.std.proofs.Common.{◌≡◌, ◌∙◌, ℕ, List, take, drop, Option, None, Some, refl, ap}
use Rattle.std.specs.Str.{IsUtf8}
use Rattle.std.specs.Str.Lines.{lines}
use Rattle.profile.specs.events.EventComponents.{EventComponent}
use Rattle.profile.specs.rooms.Messages.{Content, IsContent, canonical}
use Rattle.itip_messages.specs.Body.{zone_octets, zone_place}
use Rattle.itip_messages.proofs.body_lemmas.ZonePlaces.{content_utf8, cut_at_zone, lines_body, zone_behind}
use Rattle.itip_messages.specs.BodyText.{content_in, zone_rest}

-- the zone's octets give it back
rest_back : (zone : Option (List ℕ)) → zone_rest (zone_octets zone) ≡ zone
rest_back None = refl
rest_back (Some rest) = ap zone_rest (zone_behind rest)

pub record IsBodyOf (content : Content) (octets : List ℕ) : Type 0 where
  pub read : content_in octets ≡ content
  pub utf8 : IsUtf8 octets

pub body_of : (content : Content) (event : EventComponent) → IsContent content event → IsBodyOf content (canonical content)
body_of content event c =
    let octets = canonical content in
    let cut = cut_at_zone content event c (zone_place octets) refl in
    let own : lines (take (zone_place octets) octets) ≡ content.lines = ap lines cut.before ∙ (lines_body content event c).read in
    let zone : zone_rest (drop (zone_place octets) octets) ≡ content.zone = ap zone_rest cut.after ∙ rest_back content.zone in
    record { read = (λ i. record { lines = own i; zone = zone i }); utf8 = content_utf8 content event c }
