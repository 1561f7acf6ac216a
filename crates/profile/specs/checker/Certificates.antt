-- The text of a certificate, and when it holds. The format is this profile's own.
use Rattle.std.specs.Prelude.{◌≡◌, ◌⊎◌, ◌↔◌, ℕ, ◌-◌, ◌*◌, ◌^◌, ◌<◌, ◌≤◌, ◌==◌, Bool, List, [], ◌∷◌, ◌++◌, All, AllPairs, Contains, length, map, take, Option, Some, None, unwrap_or, ℤ, pos, ◌≤ℤ◌, ◌<ℤ◌, codes, decimal}
use Rattle.std.specs.List.{AllZip, flat_map, slice_get, slice_index_or}
use Rattle.profile.specs.checker.Instances.{HasClash, AreClear, horizon}
use Rattle.profile.specs.text.Values.{WritesStamp, IsClockSeconds}
use Rattle.profile.specs.events.Events.{Event}
use Rattle.profile.specs.events.Starts.{IsInstance}
use Rattle.profile.specs.events.Confirmed.{Confirmed, IsOneOf}
use Rattle.profile.specs.events.Spans.{IsBoundOf, IsPastAll, IsPeriodOf, IsSpan, SpanHolds, SpanFails}
use Rattle.profile.specs.events.Residues.{IsLeastStride, ResiduesHold}

-- ---- what a certificate says

-- what it says of two series, or of one by itself: that no two of their instances clash up to the horizon; or up to the end of one period of so
-- many days from an instant on and the greater width after it; that no arcs of their residues modulo so many seconds meet; or that both are in
-- the group of this number, counted from 1, and so have no line of their own
pub data Entry : Type 0 where
  End : Entry
  Span : ℤ → ℕ → Entry
  Res : ℕ → Entry
  InGroup : ℕ → Entry

-- the entry of two series, or of one with itself, by their numbers in the calendar, counted from 1
pub record Pair : Type 0 where
  pub first : ℕ
  pub second : ℕ
  pub entry : Entry

-- what it says of several series, by their numbers: that no two of their instances clash, of one series or of two, up to the end of one period
-- of so many days from an instant on and the greatest width after it
pub record Group : Type 0 where
  pub from : ℤ
  pub days : ℕ
  pub members : List ℕ

-- how many singles and how many series its calendar has; the groups, which only version 2 has, also where there are none; and the entries of the
-- pairs of series that aren't both in one group
pub record Claims : Type 0 where
  pub singles : ℕ
  pub series : ℕ
  pub groups : Option (List Group)
  pub pairs : List Pair

abbrev pub groups_of : Claims → List Group
groups_of c = unwrap_or c.groups []

-- the first two numbers of a group, by which it is named
abbrev pub first_of : Group → ℕ
first_of group = slice_index_or group.members 0 0

abbrev pub second_of : Group → ℕ
second_of group = slice_index_or group.members 1 0

-- there is an instant to write, of the years 0001 to 9999, and numbers have 64 bits
abbrev pub IsEntry : Entry → Type 0
IsEntry End = Unit {0}
IsEntry (Span from days) = IsClockSeconds from × (days < 2 ^ 64)
IsEntry (Res m) = m < 2 ^ 64
IsEntry (InGroup n) = ⊥

-- of n series a group has at least two, ascending
pub record IsGroup (n : ℕ) (group : Group) : Type 0 where
  pub from : IsClockSeconds group.from
  pub days : group.days < 2 ^ 64
  pub some : 2 ≤ length group.members
  pub within : (i : ℕ) → Contains group.members i → (0 < i) × (i ≤ n)
  pub ascending : AllPairs ◌<◌ group.members

-- two groups share no series, and come in the order of their first ones
pub record AreInOrder (g h : Group) : Type 0 where
  pub first : first_of g < first_of h
  pub apart : (i : ℕ) → Contains g.members i → Contains h.members i → ⊥

-- the pairs of n series, counted from 1: a series with itself, or with a later one
abbrev pub IsPair : ℕ → ℕ → ℕ → Type 0
IsPair n i j = (0 < i) × (i ≤ j) × (j ≤ n)

-- a pair comes before another: by its first series, and then by its second
abbrev pub IsPairBefore : ℕ → ℕ → ℕ → ℕ → Type 0
IsPairBefore i j first second = (i < first) ⊎ ((i ≡ first) × (j < second))

-- both are in one of these groups
abbrev pub AreTogether : List Group → ℕ → ℕ → Type 0
AreTogether groups i j = (group : Group) × Contains groups group × Contains group.members i × Contains group.members j

-- an entry of two series, or of one, that aren't both in one group
pub record IsApart (n : ℕ) (groups : List Group) (p : Pair) : Type 0 where
  pub pair : IsPair n p.first p.second
  pub entry : IsEntry p.entry
  pub apart : AreTogether groups p.first p.second → ⊥

pub record IsClaims (c : Claims) : Type 0 where
  pub singles : c.singles < 2 ^ 64
  pub series : c.series < 2 ^ 64
  pub groups : All (IsGroup c.series) (groups_of c)
  pub groups_ordered : AllPairs AreInOrder (groups_of c)
  pub pairs : All (IsApart c.series (groups_of c)) c.pairs
  pub pairs_ordered : AllPairs (λ p q. IsPairBefore p.first p.second q.first q.second) c.pairs
  -- no pair is left out
  pub all : (i j : ℕ) → IsPair c.series i j
      → AreTogether (groups_of c) i j ⊎ ((p : Pair) × Contains c.pairs p × (p.first ≡ i) × (p.second ≡ j))

-- it says this of two series
abbrev pub IsEntryOf : Claims → ℕ → ℕ → Entry → Type 0
IsEntryOf c i j (InGroup n) =
    (0 < n) × ((group : Group) × (slice_get (groups_of c) (n - 1) ≡ Some group) × Contains group.members i × Contains group.members j)
IsEntryOf c i j End = Contains c.pairs (record { first = i; second = j; entry = End })
IsEntryOf c i j (Span from days) = Contains c.pairs (record { first = i; second = j; entry = Span from days })
IsEntryOf c i j (Res m) = Contains c.pairs (record { first = i; second = j; entry = Res m })

-- ---- its text

-- the words of an entry
abbrev pub IsEntryText : Entry → List ℕ → Type 0
IsEntryText End text = text ≡ codes "END"
IsEntryText (Span from days) text = (stamp : List ℕ) × WritesStamp stamp from × (text ≡ codes "SPAN " ++ (stamp ++ (codes " " ++ decimal days)))
IsEntryText (Res m) text = text ≡ codes "RES " ++ decimal m
IsEntryText (InGroup n) text = ⊥

-- the line of a pair
abbrev pub IsPairLine : Pair → List ℕ → Type 0
IsPairLine p line =
    (text : List ℕ) × IsEntryText p.entry text
    × (line ≡ codes "PAIR " ++ (decimal p.first ++ (codes " " ++ (decimal p.second ++ (codes " " ++ text)))))

-- numbers, each after a space
abbrev pub numbers_text : List ℕ → List ℕ
numbers_text = flat_map (λ n. codes " " ++ decimal n)

-- the line of a group
abbrev pub IsGroupLine : Group → List ℕ → Type 0
IsGroupLine group line =
    (stamp : List ℕ) × WritesStamp stamp group.from
    × (line ≡ codes "GROUP " ++ (stamp ++ (codes " " ++ (decimal group.days ++ numbers_text group.members))))

-- the first line tells the version
abbrev pub version_line : Option (List Group) → List ℕ
version_line None = codes "ROOMCERT 1"
version_line (Some groups) = codes "ROOMCERT 2"

-- its lines, without their ends
pub record AreLines (c : Claims) (lines : List (List ℕ)) : Type 0 where
  pub groups : List (List ℕ)
  pub are_groups : AllZip IsGroupLine (groups_of c) groups
  pub pairs : List (List ℕ)
  pub are_pairs : AllZip IsPairLine c.pairs pairs
  pub is : lines ≡ version_line c.groups ∷ (codes "SINGLES " ++ decimal c.singles) ∷ (codes "SERIES " ++ decimal c.series)
      ∷ (groups ++ (pairs ++ codes "DONE" ∷ []))

-- the lines, each ended by LF, and then the rest
abbrev pub spelled : List (List ℕ) → List ℕ → List ℕ
spelled [] rest = rest
spelled (line ∷ lines) rest = line ++ 10 ∷ spelled lines rest

-- the octets are the certificate's: its lines and nothing after
pub record SpellsCertificate (text : List ℕ) (c : Claims) : Type 0 where
  pub claims : IsClaims c
  pub lines : List (List ℕ)
  pub are : AreLines c lines
  pub is : text ≡ spelled lines []

-- the octets begin with the first n lines, whole, of some certificate
pub record BeginsWell (text : List ℕ) (n : ℕ) : Type 0 where
  pub c : Claims
  pub rest : List ℕ
  pub claims : IsClaims c
  pub lines : List (List ℕ)
  pub are : AreLines c lines
  pub within : n ≤ length lines
  pub is : text ≡ spelled (take n lines) rest

-- line n, counted from 1, is the first that is wrong or missing; what follows the last line is one more line
pub record FirstWrong (text : List ℕ) (n : ℕ) : Type 0 where
  pub counted : 0 < n
  pub none : (c : Claims) → SpellsCertificate text c → ⊥
  pub before : BeginsWell text (n - 1)
  pub here : BeginsWell text n → ⊥

-- ---- when it holds

-- the calendar has these counts
pub record HasCounts (confirmed : Confirmed) (c : Claims) : Type 0 where
  pub singles : c.singles ≡ length confirmed.singles
  pub series : c.series ≡ length confirmed.series

-- the one of these series at a place, counted from 1
abbrev pub IsPlacedAt : List Event → ℕ → Event → Type 0
IsPlacedAt all place series = slice_get all (place - 1) ≡ Some series

abbrev pub IsSeriesAt : Confirmed → ℕ → Event → Type 0
IsSeriesAt confirmed = IsPlacedAt confirmed.series

-- those at these places
abbrev pub AreSeriesAt : Confirmed → List ℕ → List Event → Type 0
AreSeriesAt confirmed = AllZip (IsSeriesAt confirmed)

-- what an entry says of series i and j holds; where they are one, of any two of its instances
abbrev pub EntryHolds : Confirmed → ℕ → ℕ → Entry → Type 0
EntryHolds confirmed i j End = (a b : Event) → IsSeriesAt confirmed i a → IsSeriesAt confirmed j b → AreClear (IsInstance a) (IsInstance b)
EntryHolds confirmed i j (Span from days) =
    (a b : Event) → IsSeriesAt confirmed i a → IsSeriesAt confirmed j b → SpanHolds (a ∷ []) (b ∷ []) from days
EntryHolds confirmed i j (Res m) = (a b : Event) → IsSeriesAt confirmed i a → IsSeriesAt confirmed j b → ResiduesHold (i == j) a b m
EntryHolds confirmed i j (InGroup n) = ⊥

-- it doesn't: there are two that clash, or it is no span of them, or arcs of their residues meet or m is out of its range
abbrev pub EntryFails : Confirmed → ℕ → ℕ → Entry → Type 0
EntryFails confirmed i j End = (a : Event) × (b : Event) × IsSeriesAt confirmed i a × IsSeriesAt confirmed j b × HasClash (IsInstance a) (IsInstance b)
EntryFails confirmed i j (Span from days) =
    (a : Event) × (b : Event) × IsSeriesAt confirmed i a × IsSeriesAt confirmed j b × SpanFails (a ∷ []) (b ∷ []) from days
EntryFails confirmed i j (Res m) = (a : Event) × (b : Event) × IsSeriesAt confirmed i a × IsSeriesAt confirmed j b × (ResiduesHold (i == j) a b m → ⊥)
EntryFails confirmed i j (InGroup n) = ⊥

-- what its lines say, in the order of the text
pub data Statement : Type 0 where
  OfGroup : Group → Statement
  OfPair : Pair → Statement

abbrev pub statements : Claims → List Statement
statements c = map OfGroup (groups_of c) ++ map OfPair c.pairs

-- a statement holds. Of a group its span settles all its series, each with itself and with the others
abbrev pub StatementHolds : Confirmed → Statement → Type 0
StatementHolds confirmed (OfGroup group) = (all : List Event) → AreSeriesAt confirmed group.members all → SpanHolds all all group.from group.days
StatementHolds confirmed (OfPair p) = EntryHolds confirmed p.first p.second p.entry

-- it doesn't
abbrev pub StatementFails : Confirmed → Statement → Type 0
StatementFails confirmed (OfGroup group) = (all : List Event) × AreSeriesAt confirmed group.members all × SpanFails all all group.from group.days
StatementFails confirmed (OfPair p) = EntryFails confirmed p.first p.second p.entry

-- all of them hold
abbrev pub StatementsHold : Confirmed → Claims → Type 0
StatementsHold confirmed c = All (StatementHolds confirmed) (statements c)

-- the octets are a certificate for what is confirmed: it has the counts of that, all its statements hold, and no single clashes with another
-- single or with a series. That then no two of all that is confirmed clash is a theorem: `certificate_means_clear` of clash_check
pub record CertificateHoldsFor (confirmed : Confirmed) (text : List ℕ) : Type 0 where
  pub c : Claims
  pub spells : SpellsCertificate text c
  pub counts : HasCounts confirmed c
  pub statements : StatementsHold confirmed c
  pub singles : AreClear (Contains confirmed.singles) (IsOneOf confirmed)

-- ---- which certificate is made

-- the span that is written for these series: from the first 00:00:00Z on that it may, after the least number of days
pub record IsLeastSpan (all : List Event) (from : ℤ) (days : ℕ) : Type 0 where
  pub span : IsSpan all from days
  pub midnight : (n : ℕ) × (from ≡ pos (86_400 * n))
  pub first : (n : ℕ) → ((series : Event) → Contains all series → IsPastAll series (pos (86_400 * n))) → from ≤ℤ pos (86_400 * n)
  pub least : (n : ℕ) → 0 < n → ((series : Event) → Contains all series → IsPeriodOf series n) → days ≤ n

-- and its bound is before the horizon
pub record IsShortSpan (all : List Event) (from : ℤ) (days : ℕ) : Type 0 where
  pub least : IsLeastSpan all from days
  pub bound : ℤ
  pub is : IsBoundOf all from days bound
  pub before : bound <ℤ horizon

-- residues that settle two series, or one, modulo the seconds of the least days after which the forms of both rules allow the same days
abbrev pub AreSettling : Bool → Event → Event → ℕ → Type 0
AreSettling own a b m = (days : ℕ) × IsLeastStride a b days × (m ≡ 86_400 * days) × ResiduesHold own a b m

-- there are none
abbrev pub NoneSettle : Bool → Event → Event → Type 0
NoneSettle own a b = (m : ℕ) → AreSettling own a b m → ⊥

-- the entry of two series, or of one (`own`) with itself: RES where residues settle them, else SPAN where its bound is before the horizon, else END
abbrev pub IsEntryMade : Bool → Event → Event → Entry → Type 0
IsEntryMade own a b (Res m) = AreSettling own a b m
IsEntryMade own a b (Span from days) =
    NoneSettle own a b × IsShortSpan (a ∷ b ∷ []) from days
IsEntryMade own a b End = NoneSettle own a b × ((from : ℤ) (days : ℕ) → IsShortSpan (a ∷ b ∷ []) from days → ⊥)
IsEntryMade own a b (InGroup n) = ⊥

-- the one of version 1 that is made for what is confirmed
pub record IsCertificateMade (confirmed : Confirmed) (c : Claims) : Type 0 where
  pub claims : IsClaims c
  pub counts : HasCounts confirmed c
  pub version : c.groups ≡ None
  pub entries : (p : Pair) → Contains c.pairs p → (a b : Event) → IsSeriesAt confirmed p.first a → IsSeriesAt confirmed p.second b
      → IsEntryMade (p.first == p.second) a b p.entry

-- the series of this number has SPAN, with itself or with another
abbrev pub HasSpan : Claims → ℕ → Type 0
HasSpan c i =
    (p : Pair) × Contains c.pairs p × ((i ≡ p.first) ⊎ (i ≡ p.second)) × ((from : ℤ) × (days : ℕ) × (p.entry ≡ Span from days))

-- the group of all that have: it has at least two, and one span of them all ends before the horizon
pub record IsGroupMade (confirmed : Confirmed) (c : Claims) (group : Group) : Type 0 where
  pub are : (i : ℕ) → Contains group.members i ↔ HasSpan c i
  pub good : IsGroup c.series group
  pub all : List Event
  pub placed : AreSeriesAt confirmed group.members all
  pub span : IsShortSpan all group.from group.days

-- the one of version 2 that a certificate gives: it has that one group, and of the other pairs the same entries
pub record IsGrouped (confirmed : Confirmed) (c grouped : Claims) : Type 0 where
  pub claims : IsClaims grouped
  pub singles : grouped.singles ≡ c.singles
  pub series : grouped.series ≡ c.series
  pub group : Group
  pub made : IsGroupMade confirmed c group
  pub groups : grouped.groups ≡ Some (group ∷ [])
  pub pairs : (p : Pair) → Contains grouped.pairs p → Contains c.pairs p

-- there is no such group
abbrev pub HasNoGroup : Confirmed → Claims → Type 0
HasNoGroup confirmed c = (group : Group) → IsGroupMade confirmed c group → ⊥

-- the one that a room writes: of version 2 where there is one, else of version 1
abbrev pub IsCertificateWritten : Confirmed → Claims → Type 0
IsCertificateWritten confirmed written =
    (c : Claims) × IsCertificateMade confirmed c × (IsGrouped confirmed c written ⊎ (HasNoGroup confirmed c × (written ≡ c)))

-- ---- why it doesn't

-- the octets aren't a certificate: 81, with the first wrong line
pub record IsWrongText (text : List ℕ) (number line : ℕ) : Type 0 where
  pub is : number ≡ 81
  pub wrong : FirstWrong text line

-- they are one, with other counts: 82
pub record IsWrongCount (confirmed : Confirmed) (text : List ℕ) (number line : ℕ) : Type 0 where
  pub is : number ≡ 82
  pub no_line : line ≡ 0
  pub c : Claims
  pub spells : SpellsCertificate text c
  pub other : HasCounts confirmed c → ⊥

-- a statement is named by these: the pair, or the first two of a group
abbrev pub IsNamedBy : Statement → ℕ → ℕ → Type 0
IsNamedBy (OfGroup group) first second = (first ≡ first_of group) × (second ≡ second_of group)
IsNamedBy (OfPair p) first second = (first ≡ p.first) × (second ≡ p.second)

-- of these statements this is the first that doesn't hold
pub record IsFirstFailing (confirmed : Confirmed) (all : List Statement) (failing : Statement) : Type 0 where
  pub before : List Statement
  pub after : List Statement
  pub are : all ≡ before ++ failing ∷ after
  pub hold : All (StatementHolds confirmed) before
  pub fails : StatementFails confirmed failing

-- they are one with the right counts, and the first statement that doesn't hold is named so: 83
pub record HasFailingStatement (confirmed : Confirmed) (text : List ℕ) (number first second : ℕ) : Type 0 where
  pub is : number ≡ 83
  pub c : Claims
  pub spells : SpellsCertificate text c
  pub counts : HasCounts confirmed c
  pub failing : Statement
  pub first_failing : IsFirstFailing confirmed (statements c) failing
  pub named : IsNamedBy failing first second

-- all statements hold, and a single clashes with another single or with a series: 84
pub record HasClashes (confirmed : Confirmed) (text : List ℕ) (number line : ℕ) : Type 0 where
  pub is : number ≡ 84
  pub no_line : line ≡ 0
  pub c : Claims
  pub spells : SpellsCertificate text c
  pub counts : HasCounts confirmed c
  pub statements : StatementsHold confirmed c
  pub clash : HasClash (Contains confirmed.singles) (IsOneOf confirmed)
