-- The headline, sentence by sentence. Each is what a clause of a call says: `passes` of `Room::kept` (room_books), `free` of `check`
-- (clash_check), `accepted` and `declined` of `Room::take` (room_books).
use Rattle.std.specs.Prelude.{◌≡◌, ◌↔◌, ◌++◌, ℕ, ℤ, ◌<ℤ◌, ◌<◌, List, length}
use Rattle.profile.specs.checker.Instances.{Key, Instance, IsClear, IsWithin, horizon}
use Rattle.profile.specs.checker.Calendars.{CertificateHolds, IsConfirmedIn}
use Rattle.profile.specs.rooms.Rooms.{Book, Claim, Kind, Accepted, Declined, NamesClash, Confirms, IsWithinLimits, asked, if_accepted, parts_of}

-- Whatever messages come, in any order and repeated, each room's kept calendar and certificate pass the checker: (∥ ∥₁ says that it is so,
-- and not from which messages that was seen)
abbrev pub KeptTextsPass : List ℕ → List ℕ → List ℕ → Type 0
KeptTextsPass room calendar certificate = ∥ CertificateHolds room calendar certificate ∥₁

-- a yes of the checker, on any octets, means that no two confirmed instances share an instant before year 10000;
abbrev pub IsFree : List ℕ → List ℕ → Type 0
IsFree room calendar =
    (a b : Instance) → IsConfirmedIn room calendar a → IsConfirmedIn room calendar b
    → (t : ℤ) → IsWithin a.start a.end t → IsWithin b.start b.end t → t <ℤ horizon → a ≡ b

-- how many parts of a message get an answer
abbrev pub count_asked : Book → List Claim → ℕ
count_asked before claims = length (asked before.taken (before.taken ++ parts_of claims) claims)

-- the book as it would be after a message, if each of its parts that is asked were accepted
abbrev pub would_be : Book → List Claim → ℤ → Book
would_be before claims moment = if_accepted before claims moment (before.taken ++ parts_of claims)

-- and a new revision is accepted exactly where that stays true, within the limits,
abbrev pub AcceptedWhereClear : Book → List Claim → ℤ → Kind → Type 0
AcceptedWhereClear before claims moment kind =
    (kind ≡ Accepted)
    ↔ ((0 < count_asked before claims) × IsWithinLimits (would_be before claims moment) × IsClear (Confirms (would_be before claims moment)))

-- each decline for a clash naming two instances and an instant in both.
abbrev pub DeclineNamesClash : Book → List Claim → ℤ → Kind → Type 0
DeclineNamesClash before claims moment kind =
    (first second : Key) (t : ℤ) → kind ≡ Declined first second t → NamesClash (Confirms (would_be before claims moment)) first second t
