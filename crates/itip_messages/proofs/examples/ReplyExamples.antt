-- Worked answers that meet the premises of the laws on replies: one accepts, one declines and names two instances.
use Rattle.std.proofs.Common.{ℕ, pos, List, [], ◌∷◌, codes, refl, arith}
use Rattle.std.specs.Fmt.{digits}
use Rattle.profile.specs.series.Days.{days_before_year, days_of_months}
use Rattle.profile.specs.checker.Instances.{Key}
use Rattle.profile.specs.rooms.Messages.{Accept, Busy}
use Rattle.profile.specs.rooms.Revisions.{Part, Whole, Absent}
use Rattle.profile.specs.text.Values.{WritesStamp, IsUid}
use Rattle.itip_messages.specs.Law.{IsTextAddress, IsReadAddress, IsAnswer}
use Rattle.ical_lines.proofs.CleanLines.{clean_shown}
use Rattle.itip_messages.proofs.shared_lemmas.ObjectTree.{Lines, vevent_lines}

pub stamp : WritesStamp (codes "20250301T120000Z") (pos 1_740_830_400)
unfolding days_before_year days_of_months
stamp = (
  codes "20250301T120000",
  record {
    date = codes "20250301";
    time = codes "120000";
    number = pos 20_148;
    second = 43_200;
    on = record { year = 2025; month = 3; day = 1; first = omega arith; last = omega arith; date = (omega arith, omega arith, omega arith, omega arith); spelled = refl; counted = refl };
    at_second = record { hour = 12; minute = 0; second = 0; hours = omega arith; minutes = omega arith; seconds = omega arith; spelled = refl; counted = refl };
    spelled = refl;
    counted = refl;
  },
  refl,
)

pub start : WritesStamp (codes "20250310T090000Z") (pos 1_741_597_200)
unfolding days_before_year days_of_months
start = (
  codes "20250310T090000",
  record {
    date = codes "20250310";
    time = codes "090000";
    number = pos 20_157;
    second = 32_400;
    on = record { year = 2025; month = 3; day = 10; first = omega arith; last = omega arith; date = (omega arith, omega arith, omega arith, omega arith); spelled = refl; counted = refl };
    at_second = record { hour = 9; minute = 0; second = 0; hours = omega arith; minutes = omega arith; seconds = omega arith; spelled = refl; counted = refl };
    spelled = refl;
    counted = refl;
  },
  refl,
)

-- ---- the meeting and the room

abbrev room : List ℕ
room = codes "mailto:r1@example.com"

abbrev part : Part
part = record { organiser = codes "mailto:ann@example.com"; uid = codes "a"; slot = Whole; revision = record { sequence = 0; stamp = pos 1_740_830_400 }; body = Absent }

the_room : IsTextAddress room
the_room = record { address = (codes "mailto", codes "r1@example.com", refl, refl, refl, omega arith); utf8 = (clean_shown room refl).utf8 }

ann : IsTextAddress part.organiser
ann = record { address = (codes "mailto", codes "ann@example.com", refl, refl, refl, omega arith); utf8 = (clean_shown part.organiser refl).utf8 }

read_room : IsReadAddress room
read_room = record { address = the_room.address; lower = refl }

read_ann : IsReadAddress part.organiser
read_ann = record { address = ann.address; lower = refl }

its_uid : IsUid part.uid
its_uid = (omega arith, omega arith)

-- ---- the answers

accepting : Lines
accepting = vevent_lines (codes "UID:a" ∷ codes "SEQUENCE:0" ∷ codes "DTSTAMP:20250301T120000Z" ∷ codes "ORGANIZER:mailto:ann@example.com" ∷ codes "ATTENDEE;PARTSTAT=ACCEPTED:mailto:r1@example.com" ∷ codes "REQUEST-STATUS:2.0;Success" ∷ [])

accepts : IsAnswer room accepting
unfolding accepting digits
accepts = record {
  part = part;
  moment = pos 1_740_830_400;
  outcome = Accept;
  shows = record { slot = []; stamp = codes "20250301T120000Z"; status = codes "REQUEST-STATUS:2.0;Success" ∷ []; tells_slot = refl; tells_moment = stamp; tells_outcome = refl; is = refl };
  writable = record { organiser = ann; uid = record { calm = refl; utf8 = (clean_shown part.uid refl).utf8 }; sequence = omega arith; keys = tt };
}

-- the meetings `a` and `b 1` are at the same hour
abbrev first : Key
first = record { organiser = codes "mailto:ann@example.com"; uid = codes "a"; slot = pos 1_741_597_200 }

abbrev second : Key
second = record { organiser = codes "mailto:ann@example.com"; uid = codes "b 1"; slot = pos 1_741_597_200 }

abbrev busy_line : List ℕ
busy_line = codes "REQUEST-STATUS:4.1;Event conflict.  Date-time is busy.;20250310T090000Z 20250310T090000Z mailto:ann@example.com a 20250310T090000Z mailto:ann@example.com b%201"

declining : Lines
declining = vevent_lines (codes "UID:a" ∷ codes "SEQUENCE:0" ∷ codes "DTSTAMP:20250301T120000Z" ∷ codes "ORGANIZER:mailto:ann@example.com" ∷ codes "ATTENDEE;PARTSTAT=DECLINED:mailto:r1@example.com" ∷ busy_line ∷ [])

declines : IsAnswer room declining
unfolding declining digits
declines = record {
  part = part;
  moment = pos 1_740_830_400;
  outcome = Busy first second (pos 1_741_597_200);
  shows = record {
    slot = [];
    stamp = codes "20250301T120000Z";
    status = busy_line ∷ [];
    tells_slot = refl;
    tells_moment = stamp;
    tells_outcome = (
      codes "20250310T090000Z",
      codes "20250310T090000Z mailto:ann@example.com a",
      codes "20250310T090000Z mailto:ann@example.com b%201",
      start,
      record { slot = codes "20250310T090000Z"; written = start; is = refl },
      record { slot = codes "20250310T090000Z"; written = start; is = refl },
      refl,
    );
    is = refl;
  };
  writable = record {
    organiser = ann;
    uid = record { calm = refl; utf8 = (clean_shown part.uid refl).utf8 };
    sequence = omega arith;
    keys = (record { organiser = ann.utf8; uid = (clean_shown first.uid refl).utf8 }, record { organiser = ann.utf8; uid = (clean_shown second.uid refl).utf8 });
  };
}
