-- A calendar has one certificate that is made for it, one group, and one that is written.
use Rattle.std.proofs.Common.{◌≡◌, ℕ, ℤ, ◌-◌, ◌*◌, ◌<◌, ◌≤◌, ◌==◌, Bool, List, [], ◌∷◌, Contains, length, subst, sym, refl, ap, ◌∙◌, inl, inr, arith}
use Rattle.std.specs.Prelude.{◌⊎◌, ◌≤ℤ◌, AllPairs, Option, Some, unwrap_or, pos}
use Rattle.std.proofs.lemmas.Int.{ints}
use Rattle.std.proofs.lemmas.List.Elements.{All-contains}
use Rattle.std.proofs.lemmas.Option.{same_Some}
use Rattle.cal_events.proofs.shared_lemmas.InOneOrder.{one_order}
use Rattle.profile.specs.events.Confirmed.{Confirmed}
use Rattle.profile.specs.events.Events.{Event}
use Rattle.profile.specs.events.Spans.{IsPastAll}
use Rattle.profile.specs.events.Residues.{IsLeastStride}
use Rattle.profile.specs.checker.Certificates.{Claims, Entry, End, Span, Res, InGroup, Group, Pair, AreSeriesAt, AreSettling, AreTogether, HasCounts, HasNoGroup, IsApart, IsCertificateMade, IsCertificateWritten, IsClaims, IsEntryMade, IsGroupMade, IsGrouped, IsLeastSpan, IsPair, IsPairBefore, IsSeriesAt, groups_of}
use Rattle.clash_cert.proofs.GroupingLemmas.{element_at}
use Rattle.clash_cert.proofs.ListLemmas.{none_in_nil, in_cons, pairs_head, pairs_tail}
use Rattle.clash_cert.proofs.Walking.{before_self, before_through}

-- ---- one entry

one_stride : (a b : Event) (n m : ℕ) → IsLeastStride a b n → IsLeastStride a b m → n ≡ m
one_stride a b n m h k =
    let below : n ≤ m = h.least m k.some k.first k.second in
    let above : m ≤ n = k.least n h.some h.first h.second in
    omega (arith, below, above)

one_settling : (own : Bool) (a b : Event) (n m : ℕ) → AreSettling own a b n → AreSettling own a b m → n ≡ m
one_settling own a b n m h k = h.2 ∙ ap (λ (days : ℕ). 86_400 * days) (one_stride a b h.0 k.0 h.1 k.1) ∙ sym k.2

-- one first midnight is not after the other
first_midnight : (all : List Event) (f g : ℤ) (d e : ℕ) → IsLeastSpan all f d → IsLeastSpan all g e → f ≤ℤ g
first_midnight all f g d e h k =
    let m = k.midnight in
    subst (λ (t : ℤ). f ≤ℤ t) (sym m.1) (h.first m.0 (λ series c. subst (IsPastAll series) m.1 (k.span.past series c)))

one_from : (all : List Event) (f g : ℤ) (d e : ℕ) → IsLeastSpan all f d → IsLeastSpan all g e → f ≡ g
one_from all f g d e h k = let below = first_midnight all f g d e h k in let above = first_midnight all g f e d k h in omega (arith, ints, below, above)

one_days : (all : List Event) (f g : ℤ) (d e : ℕ) → IsLeastSpan all f d → IsLeastSpan all g e → d ≡ e
one_days all f g d e h k =
    let below : d ≤ e = h.least e k.span.some k.span.period in
    let above : e ≤ d = k.least d h.span.some h.span.period in
    omega (arith, below, above)

one_entry : (own : Bool) (a b : Event) (e f : Entry) → IsEntryMade own a b e → IsEntryMade own a b f → e ≡ f
one_entry own a b (Res m) (Res n) h k = ap Res (one_settling own a b m n h k)
one_entry own a b (Res m) (Span g d) h k = absurd (k.0 m h)
one_entry own a b (Res m) End h k = absurd (k.0 m h)
one_entry own a b (Res m) (InGroup n) h k = absurd k
one_entry own a b (Span f d) (Res m) h k = absurd (h.0 m k)
one_entry own a b (Span f d) (Span g e) h k =
    let from = one_from (a ∷ b ∷ []) f g d e h.1.least k.1.least in
    let days = one_days (a ∷ b ∷ []) f g d e h.1.least k.1.least in
    λ i. Span (from i) (days i)
one_entry own a b (Span f d) End h k = absurd (k.1 f d h.1)
one_entry own a b (Span f d) (InGroup n) h k = absurd k
one_entry own a b End (Res m) h k = absurd (h.0 m k)
one_entry own a b End (Span g e) h k = absurd (h.1 g e k.1)
one_entry own a b End End h k = refl
one_entry own a b End (InGroup n) h k = absurd k
one_entry own a b (InGroup n) f h k = absurd h

-- ---- one list of pairs

abbrev Before : Pair → Pair → Type 0
Before p q = IsPairBefore p.first p.second q.first q.second

same_pair : (p q : Pair) → p.first ≡ q.first → p.second ≡ q.second → p.entry ≡ q.entry → p ≡ q
same_pair p q f g e = λ i. record { first = f i; second = g i; entry = e i }

-- where pairs of the same numbers have the same entry
abbrev SameEntries : Claims → Claims → Type 0
SameEntries c d = (p q : Pair) → Contains c.pairs p → Contains d.pairs q → p.first ≡ q.first → p.second ≡ q.second → p.entry ≡ q.entry

pairs_in : (c d : Claims) → IsClaims c → IsClaims d → c.series ≡ d.series → groups_of c ≡ groups_of d → SameEntries c d → (p : Pair) → Contains c.pairs p → Contains d.pairs p
pairs_in c d h k series groups same p is =
    let apart = All-contains (IsApart c.series (groups_of c)) c.pairs p h.pairs is in
    elim (k.all p.first p.second (subst (λ n. IsPair n p.first p.second) series apart.pair)) [
      | inl together ↦ absurd (apart.apart (subst (λ (gs : List Group). AreTogether gs p.first p.second) (sym groups) together))
      | inr found ↦ subst (Contains d.pairs) (same_pair found.0 p found.2 found.3 (sym (same p found.0 is found.1 (sym found.2) (sym found.3)))) found.1
    ]

one_list : (c d : Claims) → IsClaims c → IsClaims d → c.series ≡ d.series → groups_of c ≡ groups_of d → SameEntries c d → c.pairs ≡ d.pairs
one_list c d h k series groups same =
    one_order Before (λ x. before_self x.first x.second) (λ x y z. before_through x.first x.second y.first y.second z.first z.second) c.pairs d.pairs
    h.pairs_ordered k.pairs_ordered (pairs_in c d h k series groups same)
    (pairs_in d c k h (sym series) (sym groups) (λ p q is there f g. sym (same q p there is (sym f) (sym g))))

same_claims : (c d : Claims) → c.singles ≡ d.singles → c.series ≡ d.series → c.groups ≡ d.groups → c.pairs ≡ d.pairs → c ≡ d
same_claims c d singles series groups pairs = λ i. record { singles = singles i; series = series i; groups = groups i; pairs = pairs i }

-- ---- one certificate that is made

series_there : (confirmed : Confirmed) (c : Claims) → HasCounts confirmed c → (i : ℕ) → 0 < i → i ≤ c.series → (a : Event) × IsSeriesAt confirmed i a
series_there confirmed c counts i some within = let count = counts.series in element_at confirmed.series (i - 1) (omega (arith, some, within, count))

entries_made : (confirmed : Confirmed) (c d : Claims) → IsCertificateMade confirmed c → IsCertificateMade confirmed d → SameEntries c d
entries_made confirmed c d h k p q is there f g =
    let pair = (All-contains (IsApart c.series (groups_of c)) c.pairs p h.claims.pairs is).pair in
    let low = pair.0 in
    let up = pair.1 in
    let high = pair.2 in
    let a = series_there confirmed c h.counts p.first low (omega (arith, up, high)) in
    let b = series_there confirmed c h.counts p.second (omega (arith, low, up)) high in
    let other = k.entries q there a.0 b.0 (subst (λ n. IsSeriesAt confirmed n a.0) f a.1) (subst (λ n. IsSeriesAt confirmed n b.0) g b.1) in
    one_entry (p.first == p.second) a.0 b.0 p.entry q.entry (h.entries p is a.0 b.0 a.1 b.1)
    (subst (λ (own : Bool). IsEntryMade own a.0 b.0 q.entry) (sym (λ i. f i == g i)) other)

pub one_made : (confirmed : Confirmed) (c d : Claims) → IsCertificateMade confirmed c → IsCertificateMade confirmed d → c ≡ d
one_made confirmed c d h k =
    let series = h.counts.series ∙ sym k.counts.series in
    let version = h.version ∙ sym k.version in
    same_claims c d (h.counts.singles ∙ sym k.counts.singles) series version
    (one_list c d h.claims k.claims series (ap (λ (gs : Option (List Group)). unwrap_or gs []) version) (entries_made confirmed c d h k))

-- ---- one group

one_placed : (confirmed : Confirmed) (ns : List ℕ) (xs ys : List Event) → AreSeriesAt confirmed ns xs → AreSeriesAt confirmed ns ys → xs ≡ ys
one_placed confirmed [] [] [] h k = refl
one_placed confirmed [] [] (y ∷ ys) h k = absurd k
one_placed confirmed [] (x ∷ xs) ys h k = absurd h
one_placed confirmed (n ∷ ns) [] ys h k = absurd h
one_placed confirmed (n ∷ ns) (x ∷ xs) [] h k = absurd k
one_placed confirmed (n ∷ ns) (x ∷ xs) (y ∷ ys) h k =
    let first : x ≡ y = same_Some x y (sym h.0 ∙ k.0) in
    let rest = one_placed confirmed ns xs ys h.1 k.1 in
    λ i. first i ∷ rest i

pub one_group : (confirmed : Confirmed) (c : Claims) (g h : Group) → IsGroupMade confirmed c g → IsGroupMade confirmed c h → g ≡ h
one_group confirmed c g h m n =
    let members : g.members ≡ h.members = one_order ◌<◌ (λ x l. omega (arith, l)) (λ x y z l r. omega (arith, l, r)) g.members h.members m.good.ascending n.good.ascending
    (λ i in_g. (n.are i).1 ((m.are i).0 in_g)) (λ i in_h. (m.are i).1 ((n.are i).0 in_h)) in
    let all : m.all ≡ n.all = one_placed confirmed h.members m.all n.all (subst (λ (ns : List ℕ). AreSeriesAt confirmed ns m.all) members m.placed) n.placed in
    let span = subst (λ (xs : List Event). IsLeastSpan xs g.from g.days) all m.span.least in
    let from = one_from n.all g.from h.from g.days h.days span n.span.least in
    let days = one_days n.all g.from h.from g.days h.days span n.span.least in
    λ i. record { from = from i; days = days i; members = members i }

-- ---- one certificate with a group

-- elements of a list in order are one, or one comes before the other
in_order : {X : Type 0} (R : X → X → Type 0) (xs : List X) (x y : X) → AllPairs R xs → Contains xs x → Contains xs y → (x ≡ y) ⊎ (R x y ⊎ R y x)
in_order R [] x y p c d = absurd (none_in_nil x c)
in_order R (z ∷ xs) x y p c d =
    elim (in_cons z xs x c) [
      | inl e ↦ elim (in_cons z xs y d) [ inl f ↦ inl (sym e ∙ f) | inr t ↦ inr (inl (subst (λ v. R v y) e (pairs_head R z xs y p t))) ]
      | inr s ↦ elim (in_cons z xs y d) [ inl f ↦ inr (inr (subst (λ v. R v x) f (pairs_head R z xs x p s))) | inr t ↦ in_order R xs x y (pairs_tail R z xs p) s t ]
    ]

one_of_numbers : (c : Claims) (p q : Pair) → IsClaims c → Contains c.pairs p → Contains c.pairs q → p.first ≡ q.first → p.second ≡ q.second → p ≡ q
one_of_numbers c p q h is there f g =
    elim (in_order Before c.pairs p q h.pairs_ordered is there) [
      | inl e ↦ e
      | inr way ↦ elim way [
        | inl before ↦ absurd (before_self q.first q.second (subst (λ n. IsPairBefore q.first n q.first q.second) g (subst (λ n. IsPairBefore n p.second q.first q.second) f before)))
        | inr after ↦ absurd (before_self q.first q.second (subst (λ n. IsPairBefore q.first q.second q.first n) g (subst (λ n. IsPairBefore q.first q.second n p.second) f after)))
      ]
    ]

pub one_grouped : (confirmed : Confirmed) (c x y : Claims) → IsClaims c → IsGrouped confirmed c x → IsGrouped confirmed c y → x ≡ y
one_grouped confirmed c x y claims h k =
    let groups = h.groups ∙ ap (λ (g : Group). Some (g ∷ [])) (one_group confirmed c h.group k.group h.made k.made) ∙ sym k.groups in
    let series = h.series ∙ sym k.series in
    same_claims x y (h.singles ∙ sym k.singles) series groups
    (one_list x y h.claims k.claims series (ap (λ (gs : Option (List Group)). unwrap_or gs []) groups)
    (λ p q is there f g. ap (λ (r : Pair). r.entry) (one_of_numbers c p q claims (h.pairs p is) (k.pairs q there) f g)))

-- ---- one certificate that is written

pub one_written : (confirmed : Confirmed) (x y : Claims) → IsCertificateWritten confirmed x → IsCertificateWritten confirmed y → x ≡ y
one_written confirmed x y h k =
    let c = h.0 in
    let claims = h.1.claims in
    let other = subst (λ (d : Claims). IsGrouped confirmed d y ⊎ (HasNoGroup confirmed d × (y ≡ d))) (sym (one_made confirmed c k.0 h.1 k.1)) k.2 in
    elim h.2 [
      | inl grouped ↦ elim other [
        | inl also ↦ one_grouped confirmed c x y claims grouped also
        | inr without ↦ absurd (without.0 grouped.group grouped.made)
      ]
      | inr plain ↦ elim other [
        | inl grouped ↦ absurd (plain.0 grouped.group grouped.made)
        | inr also ↦ plain.1 ∙ sym also.1
      ]
    ]
