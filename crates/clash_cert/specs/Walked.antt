-- The walk through the lines of groups and of pairs: which pairs have a line, what was read of them, and where reading breaks off.
use Rattle.std.specs.Prelude.{◌≡◌, ◌≢◌, ◌⊎◌, ℕ, suc, ◌-◌, ◌<◌, ◌≤◌, ◌==◌, ltb, Bool, ◌||◌, ◌&&◌, List, [], ◌∷◌, ◌++◌, length, All, AllPairs, Contains, Option, Some, None, IfSome, MatchOption, codes}
use Rattle.std.specs.List.{AllZip, slice_get}
use Rattle.std.specs.Ordering.{nat_cmp}
use Rattle.std.specs.BTreeMap.{get}
use Rattle.profile.specs.checker.Certificates.{Pair, Group, IsGroup, IsGroupLine, IsPairLine, IsPair, IsPairBefore, IsApart, AreInOrder, AreTogether, first_of, spelled}
use Rattle.clash_cert.specs.Texts.{Lacks, LacksLine}
use Rattle.clash_cert.specs.Reading.{IsGroupAt, LacksGroup, LacksPair}
use Rattle.clash_cert.specs.declared.members.Member.{Member}
use Rattle.clash_cert.specs.declared.members.Members.{Members}
use Rattle.clash_cert.specs.declared.members.Run.{Run}
use Rattle.clash_cert.specs.declared.reading.Version.{Version}
use Rattle.clash_cert.specs.declared.reading.Version.TheVariants.{First, Second}

-- ---- which series are in groups

-- what is known of a series of these groups: its group has it and those after it up to the last one, and not the next
pub record IsMemberOf (groups : List Group) (i : ℕ) (m : Member) : Type 0 where
  pub group : Group
  pub is : slice_get groups m.group ≡ Some group
  pub least : i ≤ m.last
  pub run : (j : ℕ) → i ≤ j → j ≤ m.last → Contains group.members j
  pub ends : Contains group.members (suc m.last) → ⊥

abbrev pub member_of : Members → ℕ → Option Member
member_of members i = get nat_cmp members.by_number i

-- it is known of the series of these groups, and of no others
pub record IsOfGroups (groups : List Group) (members : Members) : Type 0 where
  pub known : (i : ℕ) (m : Member) → member_of members i ≡ Some m → IsMemberOf groups i m
  pub all : (place i : ℕ) (group : Group) → slice_get groups place ≡ Some group → Contains group.members i
      → (m : Member) × (member_of members i ≡ Some m) × (m.group ≡ place)

-- none of these numbers is in a group
abbrev pub AreApart : List Group → List ℕ → Type 0
AreApart groups numbers = (group : Group) (i : ℕ) → Contains groups group → Contains group.members i → Contains numbers i → ⊥

-- the run that begins with a number ends here, where another run comes after it
abbrev pub IsRunEnd : Option Run → ℕ → ℕ → Type 0
IsRunEnd None number last = last ≡ number
IsRunEnd (Some run) number last = ((run.first ≡ suc number) × (last ≡ run.last)) ⊎ ((run.first ≡ suc number → ⊥) × (last ≡ number))

-- ---- which pairs have a line

-- a pair comes before another: the test
abbrev pub is_pair_before : ℕ → ℕ → ℕ → ℕ → Bool
is_pair_before i j first second = ltb i first || ((i == first) && ltb j second)

-- a pair of n series that aren't both in one group
pub record HasPairLine (n : ℕ) (groups : List Group) (i j : ℕ) : Type 0 where
  pub pair : IsPair n i j
  pub apart : AreTogether groups i j → ⊥

-- a pair comes before the next one; if there is none, each does
abbrev pub IsBeforeNext : Option (ℕ × ℕ) → ℕ → ℕ → Type 0
IsBeforeNext None i j = Unit {0}
IsBeforeNext (Some p) i j = IsPairBefore i j p.0 p.1

-- of the pairs of which this holds it is the first that has a line
pub record IsNextOf (From : ℕ → ℕ → Type 0) (n : ℕ) (groups : List Group) (next : Option (ℕ × ℕ)) : Type 0 where
  pub is : IfSome next (λ p. HasPairLine n groups p.0 p.1 × From p.0 p.1)
  pub none_before : (i j : ℕ) → IsPair n i j → From i j → IsBeforeNext next i j → AreTogether groups i j

-- of those after a pair
abbrev pub IsNextPairAfter : ℕ → ℕ → ℕ → List Group → Option (ℕ × ℕ) → Type 0
IsNextPairAfter i j = IsNextOf (IsPairBefore i j)

-- a pair isn't before another
abbrev pub IsPairFrom : ℕ → ℕ → ℕ → ℕ → Type 0
IsPairFrom i j first second = IsPairBefore i j first second ⊎ ((i ≡ first) × (j ≡ second))

-- of a pair and those after it
abbrev pub IsNextFrom : ℕ → ℕ → ℕ → List Group → Option (ℕ × ℕ) → Type 0
IsNextFrom i j = IsNextOf (IsPairFrom i j)

-- a number is the first from j on, up to n, that isn't in the group of i
pub record IsApartFrom (n : ℕ) (groups : List Group) (i j place : ℕ) : Type 0 where
  pub least : j ≤ place
  pub most : place ≤ n
  pub apart : AreTogether groups i place → ⊥
  pub none_before : (k : ℕ) → j ≤ k → suc k ≤ place → AreTogether groups i k

-- there is one
abbrev pub IsApartIn : ℕ → List Group → ℕ → ℕ → Option ℕ → Type 0
IsApartIn n groups i j place = MatchOption place ((k : ℕ) → j ≤ k → k ≤ n → AreTogether groups i k) (IsApartFrom n groups i j)

-- ---- what was read

-- these groups of n series are the first of a certificate, and their lines come before the rest of the octets
pub record HasGroupLines (n : ℕ) (groups : List Group) (bytes rest : List ℕ) : Type 0 where
  pub good : All (IsGroup n) groups
  pub ordered : AllPairs AreInOrder groups
  pub lines : List (List ℕ)
  pub of : AllZip IsGroupLine groups lines
  pub is : bytes ≡ spelled lines rest

-- they are all of them
pub record AreGroupsAt (n : ℕ) (groups : List Group) (members : Members) (bytes rest : List ℕ) : Type 0 where
  pub lines : HasGroupLines n groups bytes rest
  pub known : IsOfGroups groups members
  pub last : Lacks (codes "GROUP ") rest

-- the entries of all pairs that have a line before the next one, in order
pub record AreEntriesBefore (n : ℕ) (groups : List Group) (next : Option (ℕ × ℕ)) (pairs : List Pair) : Type 0 where
  pub good : All (IsApart n groups) pairs
  pub before : All (λ p. IsBeforeNext next p.first p.second) pairs
  pub ordered : AllPairs (λ p q. IsPairBefore p.first p.second q.first q.second) pairs
  pub all : (i j : ℕ) → IsPair n i j → IsBeforeNext next i j
      → AreTogether groups i j ⊎ ((p : Pair) × Contains pairs p × (p.first ≡ i) × (p.second ≡ j))

-- their lines come before the rest of the octets
pub record HasPairLines (n : ℕ) (groups : List Group) (next : Option (ℕ × ℕ)) (pairs : List Pair) (bytes rest : List ℕ) : Type 0 where
  pub entries : AreEntriesBefore n groups next pairs
  pub lines : List (List ℕ)
  pub of : AllZip IsPairLine pairs lines
  pub is : bytes ≡ spelled lines rest

-- they are all of them
abbrev pub ArePairsAt : ℕ → List Group → List Pair → List ℕ → List ℕ → Type 0
ArePairsAt n groups = HasPairLines n groups None

-- the groups of a certificate of this version
abbrev pub groups_in : Version → List Group → Option (List Group)
groups_in First groups = None
groups_in Second groups = Some groups

-- after the lines of these groups there is none of another
abbrev pub AreAllGroups : Version → List Group → List ℕ → Type 0
AreAllGroups First groups rest = groups ≡ []
AreAllGroups Second groups rest = Lacks (codes "GROUP ") rest

-- the lines of all groups of a certificate of this version come before the rest
pub record AreGroupsOf (version : Version) (n : ℕ) (groups : List Group) (bytes rest : List ℕ) : Type 0 where
  pub lines : HasGroupLines n groups bytes rest
  pub all : AreAllGroups version groups rest

-- so they were read, of what the groups are
pub record AreVersionGroups (version : Version) (n : ℕ) (read : Option (List Group)) (members : Members) (bytes rest : List ℕ) : Type 0 where
  pub groups : List Group
  pub is : read ≡ groups_in version groups
  pub are : AreGroupsOf version n groups bytes rest
  pub known : IsOfGroups groups members

-- all that follows the counts of a certificate
pub record AreStatementsOf (version : Version) (n : ℕ) (read : Option (List Group)) (pairs : List Pair) (bytes : List ℕ) : Type 0 where
  pub groups : List Group
  pub is : read ≡ groups_in version groups
  pub rest : List ℕ
  pub are_groups : AreGroupsOf version n groups bytes rest
  pub are_pairs : ArePairsAt n groups pairs rest (codes "DONE" ++ 10 ∷ [])

-- a group may come after these
abbrev pub IsNextGroup : List Group → Group → Type 0
IsNextGroup groups group = (g : Group) → Contains groups g → AreInOrder g group

-- by its first series it comes after the last of these
abbrev pub IsAfterLast : List Group → Group → Type 0
IsAfterLast groups group = IfSome (slice_get groups (length groups - 1)) (λ last. first_of last < first_of group)

-- ---- where reading breaks off

-- at a line of no group that may come next, which begins as one does
pub record BreaksGroups (n : ℕ) (bytes rest : List ℕ) : Type 0 where
  pub groups : List Group
  pub lines : HasGroupLines n groups bytes rest
  pub begins : (words : List ℕ) × (rest ≡ codes "GROUP " ++ words)
  pub lacks : LacksGroup n rest ⊎ ((group : Group) × (left : List ℕ) × IsGroupAt n group rest left × (IsNextGroup groups group → ⊥))

-- where the line of the next pair is missing
pub record BreaksPairs (n : ℕ) (groups : List Group) (bytes rest : List ℕ) : Type 0 where
  pub first : ℕ
  pub second : ℕ
  pub has : HasPairLine n groups first second
  pub pairs : List Pair
  pub lines : HasPairLines n groups (Some (first, second)) pairs bytes rest
  pub lacks : LacksPair first second rest

-- in the lines of the groups of version 2
pub record BreaksInGroups (version : Version) (n : ℕ) (bytes rest : List ℕ) : Type 0 where
  pub second : version ≡ Second
  pub breaks : BreaksGroups n bytes rest

-- in those of pairs
pub record BreaksInPairs (version : Version) (n : ℕ) (bytes rest : List ℕ) : Type 0 where
  pub groups : List Group
  pub middle : List ℕ
  pub are_groups : AreGroupsOf version n groups bytes middle
  pub breaks : BreaksPairs n groups middle rest

-- after those of all pairs, where the last line is missing
pub record LacksDone (version : Version) (n : ℕ) (bytes rest : List ℕ) : Type 0 where
  pub groups : List Group
  pub middle : List ℕ
  pub are_groups : AreGroupsOf version n groups bytes middle
  pub pairs : List Pair
  pub are_pairs : ArePairsAt n groups pairs middle rest
  pub lacks : LacksLine (codes "DONE") rest

-- after the last line, where something follows
pub record HasMore (version : Version) (n : ℕ) (bytes rest : List ℕ) : Type 0 where
  pub groups : List Group
  pub middle : List ℕ
  pub are_groups : AreGroupsOf version n groups bytes middle
  pub pairs : List Pair
  pub are_pairs : ArePairsAt n groups pairs middle (codes "DONE" ++ 10 ∷ rest)
  pub some : rest ≢ []

abbrev pub IsBroken : Version → ℕ → List ℕ → List ℕ → Type 0
IsBroken version n bytes rest = BreaksInGroups version n bytes rest ⊎ BreaksInPairs version n bytes rest ⊎ LacksDone version n bytes rest ⊎ HasMore version n bytes rest
