-- Two texts that are the kept calendar of each book that a room represents are equal.
-- Cited by Room::certificate_text.
use Rattle.std.proofs.Common.{◌≡◌, ◌∙◌, ℕ, Option, Bool, true, false, List, refl, sym}
use Rattle.std.proofs.Math.Logic.{∥∥₁_elim}
use Rattle.std.specs.Str.{bytes_eq}
use Rattle.std.proofs.lemmas.Bool.{true≢false}
use Rattle.std.proofs.lemmas.Slice.Eq.{bytes_eq-Decides}
use Rattle.profile.specs.rooms.Kept.{IsKeptCalendar}
use Rattle.profile.specs.rooms.Rooms.{Book}
use Rattle.profile.specs.series.Zones.{Zone}
use Rattle.profile.specs.streams.Streams.{IsReached}
use Rattle.room_books.specs.Room.{HaveReached}
use Rattle.room_books.specs.Texts.{IsKeptBy}
use Rattle.room_books.specs.declared.kept.Meeting.{Meeting}
use Rattle.room_books.specs.declared.meeting.MeetingKey.{MeetingKey}

-- what one_kept_calendar says
abbrev pub OneKeptCalendar : Type 0
OneKeptCalendar =
    (room words : List ℕ) (zone : Option Zone) (book : Book) (x y : List ℕ) → IsReached room zone book → IsKeptCalendar room words book x → IsKeptCalendar room words book y → x ≡ y

pub one_text : OneKeptCalendar → (room words : List ℕ) (zone : Option Zone) (entries : List (MeetingKey × Meeting)) (x y : List ℕ) → ∥ HaveReached room zone entries ∥₁
    → IsKeptBy room words entries x → IsKeptBy room words entries y → x ≡ y
one_text law room words zone entries x y reached h k = by (bytes_eq x y) refl
  where
    by : (b : Bool) → bytes_eq x y ≡ b → x ≡ y
    by true e = (bytes_eq-Decides x y).0 e
    by false e =
        absurd (∥∥₁_elim reached (λ u v. absurd u) (λ was.
        true≢false (sym ((bytes_eq-Decides x y).1 (law room words zone was.book x y was.reached (h was.book was.represents) (k was.book was.represents))) ∙ e)))
