-- What the checker's answers say.
use Rattle.std.specs.Prelude.{ℕ, ℤ, List, ◌≡◌, ◌+◌, ◌-◌, ◌^◌, ◌≤◌, ◌<ℤ◌, ◌⊎◌, length, min}
use Rattle.profile.specs.checker.Instances.{Instance as SaidInstance, horizon, IsWithin}
use Rattle.profile.specs.checker.Calendars.{SpellsCalendar, CalendarTextFault}
use Rattle.profile.specs.checker.Certificates.{Claims, Statement, statements, SpellsCertificate, CertificateHoldsFor, IsWrongText, IsWrongCount, IsFirstFailing, IsNamedBy, HasFailingStatement, HasClashes}
use Rattle.profile.specs.events.Confirmed.{Confirmed}
use Rattle.cal_events.specs.declared.instance.Instance.{Instance}
use Rattle.cal_events.specs.declared.instance.OwnedKey.{OwnedKey}
use Rattle.cal_events.specs.Calendar.{key_of, owned_key_of, HaveDifferentKeys, HaveOwnKeys}
use Rattle.clash_check.specs.Counted.{AreCounts, IsStatementCount, total}
use Rattle.clash_check.specs.Entries.{HasCompared}
use Rattle.clash_check.specs.Singles.{singles_count}
use Rattle.clash_check.specs.declared.verdict.Checked.{Checked}
use Rattle.clash_check.specs.declared.verdict.Verdict.{Verdict}
use Rattle.clash_check.specs.declared.verdict.Verdict.TheVariants.{Yes, No}

-- yes where the certificate holds; else the first number that applies, with the line of 81 or the names of 83
abbrev pub IsVerdict : Confirmed → List ℕ → Verdict → Type 0
IsVerdict all text Yes = CertificateHoldsFor all text
IsVerdict all text (No why) =
    ((why.second ≡ 0) × (IsWrongText text why.number why.first ⊎ IsWrongCount all text why.number why.first ⊎ HasClashes all text why.number why.first))
    ⊎ HasFailingStatement all text why.number why.first why.second

-- a no of that number, with what it names
abbrev pub IsNo : ℕ → ℕ → ℕ → Verdict → Type 0
IsNo number first second Yes = ⊥
IsNo number first second (No why) = (why.number ≡ number) × (why.first ≡ first) × (why.second ≡ second)

-- all instances that the statements of the certificate have compared were made, and those for the singles: each single, and at most three more
-- of each series
abbrev pub MakesAll : Confirmed → List ℕ → ℕ → Type 0
MakesAll all text made =
    (c : Claims) → SpellsCertificate text c → (counts : List ℕ) → AreCounts all (statements c) counts
    → (n : ℕ) × (length all.singles ≤ n) × (n ≤ singles_count all) × (made ≡ min (total counts + n) (2 ^ 64 - 1))

-- those were made that the statements before the first failing one have compared, and some of its own, at least one; none of its own where its span
-- is none of its series, or it says RES
pub record MakesSomeOf (all : Confirmed) (c : Claims) (first second made : ℕ) : Type 0 where
  pub failing : Statement
  pub stop : IsFirstFailing all (statements c) failing
  pub named : IsNamedBy failing first second
  pub made_for : (counts : List ℕ) (most : ℕ) → AreCounts all stop.before counts → IsStatementCount all failing most
      → (HasCompared all failing × ((n : ℕ) × (1 ≤ n) × (n ≤ most) × (made ≡ min (total counts + n) (2 ^ 64 - 1))))
      ⊎ ((HasCompared all failing → ⊥) × (made ≡ min (total counts) (2 ^ 64 - 1)))

abbrev pub MakesSome : Confirmed → List ℕ → ℕ → ℕ → ℕ → Type 0
MakesSome all text first second made = (c : Claims) → SpellsCertificate text c → MakesSomeOf all c first second made

-- as far as 64 bits go: on yes and where a single clashes (84) all of them, where a statement fails (83) some, and none where the text or a count
-- is wrong (81, 82)
abbrev pub MakesFewFor : Confirmed → List ℕ → ℕ → Verdict → Type 0
MakesFewFor all text made Yes = MakesAll all text made
MakesFewFor all text made (No why) =
    (why.number ≤ 82 → made ≡ 0) × (why.number ≡ 83 → MakesSome all text why.first why.second made) × (why.number ≡ 84 → MakesAll all text made)

abbrev pub MakesFew : Confirmed → List ℕ → Checked → Type 0
MakesFew all text checked = MakesFewFor all text checked.made checked.verdict

-- the calendar is refused: 80, and its octets have a fault
abbrev pub IsRefusedCalendar : List ℕ → Checked → Type 0
IsRefusedCalendar calendar checked = IsNo 80 0 0 checked.verdict × (checked.made ≡ 0) × ((n : ℕ) × CalendarTextFault calendar n)

-- the calendar's octets spell this for the room, and this is the judgement of the text for it
pub record IsJudgement (room calendar text : List ℕ) (checked : Checked) : Type 0 where
  pub all : Confirmed
  pub spells : SpellsCalendar room calendar all
  pub keys : HaveDifferentKeys all.singles
  pub own : HaveOwnKeys all
  pub verdict : IsVerdict all text checked.verdict
  pub made : MakesFew all text checked

-- the instance has the key
abbrev pub HasThatKey : OwnedKey → Instance → Type 0
HasThatKey key i = key_of i.key ≡ owned_key_of key

-- both hold the room in the second t, before the horizon
abbrev pub ShareInstant : SaidInstance → SaidInstance → ℤ → Type 0
ShareInstant a b t = (t <ℤ horizon) × IsWithin a.start a.end t × IsWithin b.start b.end t
