-- Worked examples of the definitions of messages and replies, computed.
use Rattle.std.proofs.Common.{◌≡◌, ℕ, pos, true, false, List, [], ◌∷◌, Some, None, refl, codes}
use Rattle.profile.specs.events.Properties.{Fixed}
use Rattle.profile.specs.events.EventComponents.{EventComponent, NeedsAction}
use Rattle.profile.specs.events.Events.{is_same_meeting}
use Rattle.profile.specs.rooms.Messages.{word, object_lines, names_room}
use Rattle.profile.specs.events.Messages.{is_method}

-- ---- words of a status

an_address_is_written_as_itself : word (codes "mailto:ann@example.com") ≡ codes "mailto:ann@example.com"
an_address_is_written_as_itself = refl

a_space_is_written : word (codes "a b") ≡ codes "a%20b"
a_space_is_written = refl

digits_are_in_upper_case : word (codes "a/b;c") ≡ codes "a%2Fb%3Bc"
digits_are_in_upper_case = refl

-- the two octets of `ü` in UTF-8
an_octet_past_ascii_is_written : word (0xC3 ∷ 0xBC ∷ []) ≡ codes "%C3%BC"
an_octet_past_ascii_is_written = refl

a_percent_is_written : word (codes "100%") ≡ codes "100%25"
a_percent_is_written = refl

-- ---- the lines of an object

a_reply : object_lines (Some (codes "REPLY")) (codes "BEGIN:VEVENT" ∷ codes "END:VEVENT" ∷ [])
    ≡ codes "BEGIN:VCALENDAR" ∷ codes "VERSION:2.0" ∷ codes "PRODID:-//iTIP room box//EN" ∷ codes "METHOD:REPLY" ∷ codes "BEGIN:VEVENT" ∷ codes "END:VEVENT" ∷ codes "END:VCALENDAR" ∷ []
a_reply = refl

-- ---- methods

a_word_of_method_is_caseless : is_method (codes "request") ≡ true
a_word_of_method_is_caseless = refl

a_cancel_is_a_method : is_method (codes "Cancel") ≡ true
a_cancel_is_a_method = refl

an_addition_is_a_method : is_method (codes "Add") ≡ true
an_addition_is_a_method = refl

a_refresh_is_a_method : is_method (codes "Refresh") ≡ true
a_refresh_is_a_method = refl

a_reply_is_a_method : is_method (codes "REPLY") ≡ true
a_reply_is_a_method = refl

publish_asks_for_nothing : is_method (codes "PUBLISH") ≡ false
publish_asks_for_nothing = refl

-- ---- meetings

-- an hour on 2025-03-10 that Ann asks of one room
meeting : List ℕ → List ℕ → EventComponent
meeting uid organiser = record {
  uid = uid;
  organiser = Some organiser;
  stamp = Some (pos 1_740_830_400);
  sequence = 0;
  cancelled = false;
  recurrence = None;
  times = record { form = Fixed; zone = None; local = pos 1_741_597_200; start = pos 1_741_597_200; length = record { days = 0; seconds = 3600 } };
  rule = None;
  additions = [];
  exceptions = [];
  written = record { recurrence = None; additions = []; exceptions = [] };
  summary = [];
  attendees = record { address = codes "mailto:r1@example.com"; participation = NeedsAction; scheduled = true } ∷ [];
}

two_uids_are_two_meetings : is_same_meeting (meeting (codes "a") (codes "mailto:ann@example.com")) (meeting (codes "b") (codes "mailto:ann@example.com")) ≡ false
unfolding meeting
two_uids_are_two_meetings = refl

two_organisers_are_two_meetings : is_same_meeting (meeting (codes "a") (codes "mailto:ann@example.com")) (meeting (codes "a") (codes "mailto:bob@example.com")) ≡ false
unfolding meeting
two_organisers_are_two_meetings = refl

its_room_is_named : names_room (codes "mailto:r1@example.com") (meeting (codes "a") (codes "mailto:ann@example.com")) ≡ true
unfolding meeting
its_room_is_named = refl

another_room_is_not : names_room (codes "mailto:r2@example.com") (meeting (codes "a") (codes "mailto:ann@example.com")) ≡ false
unfolding meeting
another_room_is_not = refl
