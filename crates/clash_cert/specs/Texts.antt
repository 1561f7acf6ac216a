-- What the steps of the reader say.
use Rattle.std.specs.Prelude.{◌≡◌, ◌≢◌, ℕ, ◌==◌, ◌^◌, ◌<◌, List, ◌∷◌, ◌++◌, length, map, AllPairs, Contains, Option, Some, None, position, decimal, Vec}
use Rattle.std.specs.declared.alloc.Global.{Global}
use Rattle.profile.specs.checker.Certificates.{FirstWrong, IsPairBefore}
use Rattle.profile.specs.checker.Certificates as said
use Rattle.clash_cert.specs.declared.certificate.Entry.{Entry}
use Rattle.clash_cert.specs.declared.certificate.Entry.TheVariants
use Rattle.clash_cert.specs.declared.certificate.Pair.{Pair}
use Rattle.clash_cert.specs.declared.groups.Group.{Group}
use Rattle.clash_cert.specs.declared.certificate.CertFault.{CertFault}
use Rattle.clash_cert.specs.declared.certificate.CertFault.TheVariants.{Line, Memory}

-- out of memory, or the first wrong or missing line
abbrev pub IsCertFault : List ℕ → CertFault → Type 0
IsCertFault text Memory = Unit {0}
IsCertFault text (Line n) = FirstWrong text n

-- the octets don't begin so
abbrev pub Lacks : List ℕ → List ℕ → Type 0
Lacks front bytes = (rest : List ℕ) → bytes ≢ front ++ rest

-- they don't begin with this line, whole
abbrev pub LacksLine : List ℕ → List ℕ → Type 0
LacksLine line bytes = (rest : List ℕ) → bytes ≢ line ++ 10 ∷ rest

-- they don't begin with a line of this word and a number of 64 bits
abbrev pub LacksCount : List ℕ → List ℕ → Type 0
LacksCount word bytes = (n : ℕ) (rest : List ℕ) → n < 2 ^ 64 → bytes ≢ (word ++ decimal n) ++ 10 ∷ rest

-- they aren't a number of 64 bits
abbrev pub IsNoNumber : List ℕ → Type 0
IsNoNumber digits = (n : ℕ) → n < 2 ^ 64 → digits ≢ decimal n

-- there is no LF
abbrev pub LacksLf : List ℕ → Type 0
LacksLf bytes = position (λ octet. octet == 10) bytes ≡ None

-- the first LF is between the two parts
pub record IsCutAtLf (bytes line rest : List ℕ) : Type 0 where
  pub at : position (λ octet. octet == 10) bytes ≡ Some (length line)
  pub parts : bytes ≡ line ++ 10 ∷ rest

-- what an entry says
abbrev pub entry_said : Entry → said.Entry
entry_said TheVariants.End = said.End
entry_said (TheVariants.Span from days) = said.Span from days
entry_said (TheVariants.Res m) = said.Res m
entry_said (TheVariants.Group n) = said.InGroup n

abbrev pub pair_said : Pair → said.Pair
pair_said p = record { first = p.first; second = p.second; entry = entry_said p.entry }

abbrev pub group_said : Group → said.Group
group_said g = record { from = g.from; days = g.days; members = g.members.items }

abbrev pub groups_said : Option (Vec Group Global) → Option (List said.Group)
groups_said None = None
groups_said (Some groups) = Some (map group_said groups.items)

-- what a certificate with these parts says
abbrev pub claims_of_text : ℕ → ℕ → Option (Vec Group Global) → List Pair → said.Claims
claims_of_text singles series groups pairs = record { singles = singles; series = series; groups = groups_said groups; pairs = map pair_said pairs }

-- the pairs are in order
abbrev pub ArePairsSorted : List said.Pair → Type 0
ArePairsSorted = AllPairs (λ p q. IsPairBefore p.first p.second q.first q.second)

-- the entry of two series; END where no pair is theirs
pub data IsEntryAmong (pairs : List said.Pair) (i j : ℕ) : said.Entry → Type 0 where
  theirs : (entry : said.Entry) → Contains pairs (record { first = i; second = j; entry = entry }) → IsEntryAmong pairs i j entry
  none : ((p : said.Pair) → Contains pairs p → p.first ≡ i → p.second ≡ j → ⊥) → IsEntryAmong pairs i j said.End
