-- What making gives, and which clash a `Clash` names.
use Rattle.std.specs.Prelude.{ℕ, ℤ, List, Contains, MatchBool, ◌≡◌, ◌⊎◌, ◌≤ℤ◌}
use Rattle.std.specs.Ordering.{is_lt}
use Rattle.std.specs.declared.cmp.Ordering.TheVariants.{Less}
use Rattle.profile.specs.checker.Instances.{Instance, IsClear, AreClear, AreClashing, instance_cmp}
use Rattle.profile.specs.checker.Certificates.{SpellsCertificate, CertificateHoldsFor, IsCertificateMade}
use Rattle.profile.specs.events.Confirmed.{Confirmed, IsInSeries, IsOneOf}
use Rattle.cal_events.specs.Calendar.{owned_key_of}
use Rattle.clash_cert.specs.declared.making.Clash.{Clash}
use Rattle.clash_cert.specs.declared.making.Made.{Made}
use Rattle.clash_cert.specs.declared.making.Made.TheVariants as made

-- it has the keys of these instances, and this instant
pub record HasKeys (a b : Instance) (t : ℤ) (clash : Clash) : Type 0 where
  pub first : owned_key_of clash.first ≡ a.key
  pub second : owned_key_of clash.second ≡ b.key
  pub instant : clash.instant ≡ t

-- two instances of what is confirmed have its keys, and clash in its instant
pub record IsClashIn (all : Confirmed) (clash : Clash) : Type 0 where
  pub a : Instance
  pub b : Instance
  pub keys : HasKeys a b clash.instant clash
  pub first : IsOneOf all a
  pub second : IsOneOf all b
  pub is : AreClashing a b clash.instant

-- and it names them as a reply does: the lesser by start, organiser, UID and slot first, and the later start
pub record IsNamedClash (all : Confirmed) (clash : Clash) : Type 0 where
  pub a : Instance
  pub b : Instance
  pub keys : HasKeys a b clash.instant clash
  pub first : IsOneOf all a
  pub second : IsOneOf all b
  pub is : AreClashing a b clash.instant
  pub less : instance_cmp a b ≡ Less
  pub later : clash.instant ≡ b.start

-- it has the keys of one instance of these and one of those, in any order
pub record NamesOf (These Those : Instance → Type 0) (clash : Clash) : Type 0 where
  pub a : Instance
  pub b : Instance
  pub keys : HasKeys a b clash.instant clash
  pub of : (These a × Those b) ⊎ (Those a × These b)

-- it names two singles; or a single and an instance of a series, and no two singles clash; or two instances of series, and no single clashes
abbrev pub IsFirstClash : Confirmed → Clash → Type 0
IsFirstClash all clash =
    NamesOf (Contains all.singles) (Contains all.singles) clash
    ⊎ (IsClear (Contains all.singles) × NamesOf (Contains all.singles) (IsInSeries all.series) clash)
    ⊎ (AreClear (Contains all.singles) (IsOneOf all) × NamesOf (IsInSeries all.series) (IsInSeries all.series) clash)

-- each text of the certificate is one for what is confirmed; else a clash of two
abbrev pub IsMadeFor : Confirmed → Made → Type 0
IsMadeFor all (made.Clear c) = (text : List ℕ) → SpellsCertificate text c → CertificateHoldsFor all text
IsMadeFor all (made.Clash clash) = IsNamedClash all clash

-- a certificate was made, and no clash found
abbrev pub IsCertificate : Made → Type 0
IsCertificate (made.Clear c) = Unit {0}
IsCertificate (made.Clash clash) = ⊥

-- of the clashes there are it is of the first kind
abbrev pub IsFirstMade : Confirmed → Made → Type 0
IsFirstMade all (made.Clear c) = Unit {0}
IsFirstMade all (made.Clash clash) = IsFirstClash all clash

-- of all certificates it is the one that is made for what is confirmed
abbrev pub IsChosenFor : Confirmed → Made → Type 0
IsChosenFor all (made.Clear c) = IsCertificateMade all c
IsChosenFor all (made.Clash clash) = Unit {0}

-- it names the two, the lesser first
abbrev pub AreBothNamed : Instance → Instance → ℤ → Clash → Type 0
AreBothNamed a b t clash = MatchBool (is_lt (instance_cmp b a)) (HasKeys b a t clash) (HasKeys a b t clash)

-- an instant is the later start of two
abbrev pub IsLaterStart : Instance → Instance → ℤ → Type 0
IsLaterStart a b t = (a.start ≤ℤ t) × (b.start ≤ℤ t) × ((t ≡ a.start) ⊎ (t ≡ b.start))

-- so it names them, with that
abbrev pub IsNamedAs : Instance → Instance → Clash → Type 0
IsNamedAs a b clash = AreBothNamed a b clash.instant clash × IsLaterStart a b clash.instant
