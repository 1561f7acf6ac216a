-- Where the walk through the lines of groups and of pairs breaks off, there is the first wrong line.
use Rattle.std.proofs.Common.{◌≡◌, ◌≢◌, ℕ, ℤ, zero, suc, ◌+◌, ◌-◌, ◌^◌, ◌<◌, ◌≤◌, List, [], ◌∷◌, ◌++◌, Contains, length, get_or, take, append_assoc, append-nil, subst, sym, refl, ap, ◌∙◌, inl, inr, arith}
use Rattle.std.specs.Prelude.{◌⊎◌, All, AllPairs, Option, Some, None, unwrap_or, codes, decimal}
use Rattle.std.specs.List.{AllZip}
use Rattle.std.proofs.lemmas.List.{length-append, append_cancel_left}
use Rattle.std.proofs.lemmas.List.Elements.{All-contains, Contains-append_right, Contains-append_cases}
use Rattle.std.proofs.lemmas.Fmt.{decimal_injective}
use Rattle.profile.specs.text.Values.{WritesStamp}
use Rattle.profile.specs.checker.Certificates.{Pair, Group, Claims, IsClaims, IsEntry, IsGroup, IsGroupLine, IsPairLine, IsPair, IsPairBefore, IsApart, AreInOrder, AreTogether, AreLines, groups_of, numbers_text, version_line, spelled, SpellsCertificate, FirstWrong}
use Rattle.clash_cert.specs.Texts.{Lacks, LacksLine}
use Rattle.clash_cert.specs.Reading.{IsGroupAt, LacksGroup, version_text}
use Rattle.clash_cert.specs.Walked.{HasPairLine, AreEntriesBefore, HasGroupLines, HasPairLines, AreGroupsOf, AreAllGroups, AreStatementsOf, BreaksGroups, BreaksPairs, BreaksInGroups, BreaksInPairs, LacksDone, HasMore, IsBroken, IsNextGroup, groups_in}
use Rattle.clash_cert.specs.declared.reading.Version.{Version}
use Rattle.clash_cert.specs.declared.reading.Version.TheVariants.{First, Second}
use Rattle.clash_cert.proofs.TextLemmas.{cancel, one_line, spelled-append, breaks}
use Rattle.clash_cert.proofs.FreeLines.{group_free}
use Rattle.clash_cert.proofs.ListLemmas.{zip_append, zip_cut, zip_none, none_in_nil, in_head, in_cons, all_front, all_back, pairs_head, pairs_back, pairs_across}
use Rattle.clash_cert.proofs.OneContent.{Begin, first_octet, others_of, groups_begin, after_groups, one_group, one_groups, one_pairs}
use Rattle.clash_cert.proofs.Walking.{before_self, complete, complete_all}
use Rattle.clash_cert.proofs.WrongLines.{Stops, wrong_at, head_lines, IsHeaded, version_is}

-- ---- kinds of lines

-- none of these lines is the last one
NoDone : List (List ℕ) → Type 0
NoDone [] = Unit {0}
NoDone (l ∷ ls) = (get_or l 0 0 ≢ 68) × NoDone ls

no_done_append : (xs ys : List (List ℕ)) → NoDone xs → NoDone ys → NoDone (xs ++ ys)
unfolding NoDone
no_done_append [] ys h k = k
no_done_append (x ∷ xs) ys h k = (h.0, no_done_append xs ys h.1 k)

no_done_begin : (c : ℕ) (lines : List (List ℕ)) → c ≢ 68 → Begin c lines → NoDone lines
unfolding NoDone
no_done_begin c [] other h = tt
no_done_begin c (l ∷ ls) other h = ((λ e. other (sym h.0 ∙ e)), no_done_begin c ls other h.1)

-- those of pairs begin with P
pairs_begin : (pairs : List Pair) (lines : List (List ℕ)) → AllZip IsPairLine pairs lines → Begin 80 lines
pairs_begin [] [] w = tt
pairs_begin [] (l ∷ ls) w = absurd w
pairs_begin (p ∷ ps) [] w = absurd w
pairs_begin (p ∷ ps) (l ∷ ls) w = (ap (λ t. get_or t 0 0) w.0.2, pairs_begin ps ls w.1)

no_done : (groups : List Group) (pairs : List Pair) (xs ys : List (List ℕ)) → AllZip IsGroupLine groups xs → AllZip IsPairLine pairs ys → NoDone (xs ++ ys)
no_done groups pairs xs ys w v =
    no_done_append xs ys (no_done_begin 71 xs (λ e. omega (arith, e)) (groups_begin groups xs w)) (no_done_begin 80 ys (λ e. omega (arith, e)) (pairs_begin pairs ys v))

no_done_end : (lines : List (List ℕ)) → NoDone (lines ++ codes "DONE" ∷ []) → ⊥
unfolding NoDone
no_done_end [] h = h.0 refl
no_done_end (l ∷ ls) h = no_done_end ls h.1

-- after the last line there is none
done_last : (xs ys : List (List ℕ)) (line : List ℕ) (more : List (List ℕ)) → NoDone xs → xs ++ codes "DONE" ∷ [] ≡ ys ++ codes "DONE" ∷ line ∷ more → ⊥
unfolding NoDone
done_last [] [] line more h e = let n = ap length e in omega (arith, n)
done_last [] (y ∷ ys) line more h e = let n = ap length e in let long = length-append ys (codes "DONE" ∷ line ∷ more) in omega (arith, n, long)
done_last (x ∷ xs) [] line more h e = h.0 (ap first_octet e)
done_last (x ∷ xs) (y ∷ ys) line more h e = done_last xs ys line more h.1 (ap others_of e)

-- lines that begin so come before one that doesn't: they are the first ones
within_begin : (c : ℕ) (xs ys more rest : List (List ℕ)) → Begin c xs → first_octet rest ≢ c → xs ++ more ≡ ys ++ rest → (tail : List (List ℕ)) × (ys ≡ xs ++ tail) × (more ≡ tail ++ rest)
within_begin c [] ys more rest h r e = (ys, refl, e)
within_begin c (x ∷ xs) [] more rest h r e = absurd (r (sym (ap first_octet e) ∙ h.0))
within_begin c (x ∷ xs) (y ∷ ys) more rest h r e =
    let w = within_begin c xs ys more rest h.1 r (ap others_of e) in
    let first : x ≡ y = ap (λ (ls : List (List ℕ)). get_or ls 0 []) e in
    (w.0, ap (λ (zs : List (List ℕ)). y ∷ zs) w.1 ∙ ap (λ (z : List ℕ). z ∷ (xs ++ w.0)) (sym first), w.2)

begin_push : (c : ℕ) (xs : List (List ℕ)) (x : List ℕ) → Begin c xs → get_or x 0 0 ≡ c → Begin c (xs ++ x ∷ [])
begin_push c [] x h e = (e, tt)
begin_push c (y ∷ ys) x h e = (h.0, begin_push c ys x h.1 e)

-- a line of octets that begin as that of a group does
group_octet : (line after words : List ℕ) → codes "GROUP " ++ words ≡ line ++ 10 ∷ after → get_or line 0 0 ≡ 71
group_octet [] after words e = absurd (let first : 71 ≡ 10 = ap (λ l. get_or l 0 0) e in omega (arith, first))
group_octet (x ∷ line) after words e = sym (ap (λ l. get_or l 0 0) e)

none_of_first : (groups : Option (List Group)) → version_text First ≡ version_line groups → unwrap_or groups [] ≡ []
none_of_first None e = refl
none_of_first (Some groups) e = absurd (let last : 49 ≡ 50 = ap (λ l. get_or l 9 0) e in omega (arith, last))

-- the first line after those of pairs, or one of these, is that of no group
first_line : (pairs : List Pair) (lines more others : List (List ℕ)) (middle line after l : List ℕ) (h : Group) → AllZip IsPairLine pairs lines → middle ≡ spelled lines (line ++ 10 ∷ after)
    → lines ++ line ∷ more ≡ l ∷ others → IsGroupLine h l → Lacks (codes "GROUP ") middle → ⊥
first_line [] [] more others middle line after l h w e f (stamp, s, g) lacks =
    let same : line ≡ l = ap (λ (ls : List (List ℕ)). get_or ls 0 []) f in
    lacks ((stamp ++ (codes " " ++ (decimal h.days ++ numbers_text h.members))) ++ 10 ∷ after) (e ∙ ap (λ (x : List ℕ). x ++ 10 ∷ after) (same ∙ g))
first_line [] (x ∷ lines) more others middle line after l h w e f g lacks = absurd w
first_line (p ∷ pairs) [] more others middle line after l h w e f g lacks = absurd w
first_line (p ∷ pairs) (x ∷ lines) more others middle line after l h w e f (stamp, s, g) lacks =
    let same : x ≡ l = ap (λ (ls : List (List ℕ)). get_or ls 0 []) f in
    let octet : 80 ≡ 71 = sym (ap (λ t. get_or t 0 0) w.0.2) ∙ ap (λ t. get_or t 0 0) same ∙ ap (λ t. get_or t 0 0) g in
    absurd (omega (arith, octet))

-- ---- the entries of a certificate, and those that were read

-- after the first ones of a certificate of so many series and these groups
record AreRest (n : ℕ) (groups : List Group) (pairs back : List Pair) : Type 0 where
  apart : All (IsApart n groups) (pairs ++ back)
  ordered : AllPairs (λ p q. IsPairBefore p.first p.second q.first q.second) (pairs ++ back)
  all : (i j : ℕ) → IsPair n i j → AreTogether groups i j ⊎ ((p : Pair) × Contains (pairs ++ back) p × (p.first ≡ i) × (p.second ≡ j))

named_before : (p : Pair) (i j k l : ℕ) → p.first ≡ i → p.second ≡ j → IsPairBefore p.first p.second k l → IsPairBefore i j k l
named_before p i j k l e f b = subst (λ m. IsPairBefore m j k l) e (subst (λ m. IsPairBefore p.first m k l) f b)

module _ (n : ℕ) (groups : List Group) (pairs : List Pair) where
  -- an entry behind has no name of one that was read
  not_read : (q : Pair) (qs : List Pair) → AreRest n groups pairs (q ∷ qs) → AreTogether groups q.first q.second ⊎ ((p : Pair) × Contains pairs p × (p.first ≡ q.first) × (p.second ≡ q.second)) → ⊥
  not_read q qs rest (inl together) = (All-contains (IsApart n groups) (pairs ++ q ∷ qs) q rest.apart (Contains-append_right pairs (q ∷ qs) q (in_head q qs))).apart together
  not_read q qs rest (inr (p, c, e, f)) =
      before_self q.first q.second
      (named_before p q.first q.second q.first q.second e f (pairs_across (λ p q. IsPairBefore p.first p.second q.first q.second) pairs (q ∷ qs) p q rest.ordered c (in_head q qs)))

  its_pair : (q : Pair) (qs : List Pair) → AreRest n groups pairs (q ∷ qs) → IsPair n q.first q.second
  its_pair q qs rest = (All-contains (IsApart n groups) (pairs ++ q ∷ qs) q rest.apart (Contains-append_right pairs (q ∷ qs) q (in_head q qs))).pair

  -- where none is left out there is none behind
  none_behind : (back : List Pair) → AreEntriesBefore n groups None pairs → AreRest n groups pairs back → back ≡ []
  none_behind [] e rest = refl
  none_behind (q ∷ qs) e rest = absurd (not_read q qs rest (e.all q.first q.second (its_pair q qs rest) tt))

  -- else the next one
  next_behind : (i j : ℕ) (back : List Pair) → AreEntriesBefore n groups (Some (i, j)) pairs → HasPairLine n groups i j → AreRest n groups pairs back
      → (q : Pair) × (qs : List Pair) × (back ≡ q ∷ qs) × (q.first ≡ i) × (q.second ≡ j)
  next_behind i j back e has rest =
      elim (rest.all i j has.pair) [
        | inl together ↦ absurd (has.apart together)
        | inr f ↦ found back rest f.0 f.2 f.3 (Contains-append_cases pairs back f.0 f.1)
      ]
    where
      found : (back : List Pair) → AreRest n groups pairs back → (p : Pair) → p.first ≡ i → p.second ≡ j → Contains pairs p ⊎ Contains back p → (q : Pair) × (qs : List Pair) × (back ≡ q ∷ qs) × (q.first ≡ i) × (q.second ≡ j)
      found back rest p f g (inl c) = absurd (before_self i j (named_before p i j i j f g (All-contains (λ p. IsPairBefore p.first p.second i j) pairs p e.before c)))
      found [] rest p f g (inr c) = absurd (none_in_nil p c)
      found (q ∷ qs) rest p f g (inr c) =
          elim (in_cons q qs p c) [
            | inl same ↦ (q, qs, refl, ap (λ (r : Pair). r.first) same ∙ f, ap (λ (r : Pair). r.second) same ∙ g)
            | inr later ↦ absurd (not_read q qs rest (e.all q.first q.second (its_pair q qs rest)
                (subst (λ m. IsPairBefore q.first q.second m j) f (subst (λ m. IsPairBefore q.first q.second p.first m) g
                (pairs_head (λ p q. IsPairBefore p.first p.second q.first q.second) q qs p (pairs_back (λ p q. IsPairBefore p.first p.second q.first q.second) pairs (q ∷ qs) rest.ordered) later)))))
          ]

-- ----

grouped : (a b c d : List (List ℕ)) → a ++ ((b ++ c) ++ d) ≡ (a ++ b) ++ (c ++ d)
grouped a b c d = simp append_assoc

-- what law says it of stamps
module _ (one_stamp : (text : List ℕ) (a b : ℤ) → WritesStamp text a → WritesStamp text b → a ≡ b) (one_form : (x y : List ℕ) (a : ℤ) → WritesStamp x a → WritesStamp y a → x ≡ y) (text bytes : List ℕ) (version : Version) (singles n : ℕ) (head : IsHeaded text bytes version singles n) where
  -- what a certificate says that has these counts, in lines after them
  record IsOfHead (c : Claims) (lines : List (List ℕ)) : Type 0 where
    series : c.series ≡ n
    version_is : version_text version ≡ version_line c.groups
    groups : List (List ℕ)
    are_groups : AllZip IsGroupLine (groups_of c) groups
    pairs : List (List ℕ)
    are_pairs : AllZip IsPairLine c.pairs pairs
    is : lines ≡ groups ++ (pairs ++ codes "DONE" ∷ [])

  of_head : (c : Claims) (lines : List (List ℕ)) → IsClaims c → AreLines c (head_lines version singles n ++ lines) → IsOfHead c lines
  of_head c lines claims are =
      let third : codes "SERIES " ++ decimal n ≡ codes "SERIES " ++ decimal c.series = ap (λ (ls : List (List ℕ)). get_or ls 2 []) are.is in
      record {
        series = sym (decimal_injective n c.series head.few_series claims.series (cancel (codes "SERIES ") (decimal n) (decimal c.series) third));
        version_is = ap (λ (ls : List (List ℕ)). get_or ls 0 []) are.is;
        groups = are.groups;
        are_groups = are.are_groups;
        pairs = are.pairs;
        are_pairs = are.are_pairs;
        is = ap (λ (ls : List (List ℕ)). others_of (others_of (others_of ls))) are.is;
      }

  good_groups : (c : Claims) (lines : List (List ℕ)) → IsClaims c → IsOfHead c lines → All (IsGroup n) (groups_of c)
  good_groups c lines claims o = subst (λ m. All (IsGroup m) (groups_of c)) o.series claims.groups

  -- ---- a certificate of groups and entries

  pub record IsMade (lines : List (List ℕ)) : Type 0 where
    pub c : Claims
    pub claims : IsClaims c
    pub are : AreLines c (head_lines version singles n ++ lines)

  abbrev pub claims_of : Option (List Group) → List Pair → Claims
  claims_of groups pairs = record { singles = singles; series = n; groups = groups; pairs = pairs }

  made_claims : (groups : List Group) (pairs : List Pair) → unwrap_or (groups_in version groups) [] ≡ groups → All (IsGroup n) groups → AllPairs AreInOrder groups
      → AreEntriesBefore n groups None pairs → IsClaims (claims_of (groups_in version groups) pairs)
  made_claims groups pairs same good ordered e = record {
    singles = head.few_singles;
    series = head.few_series;
    groups = subst (All (IsGroup n)) (sym same) good;
    groups_ordered = subst (AllPairs AreInOrder) (sym same) ordered;
    pairs = subst (λ (gs : List Group). All (IsApart n gs) pairs) (sym same) e.good;
    pairs_ordered = e.ordered;
    all = λ i j pair. subst (λ (gs : List Group). AreTogether gs i j ⊎ ((p : Pair) × Contains pairs p × (p.first ≡ i) × (p.second ≡ j))) (sym same) (e.all i j pair tt);
  }

  made_lines : (groups : List Group) (pairs : List Pair) (group_lines pair_lines : List (List ℕ)) → unwrap_or (groups_in version groups) [] ≡ groups → AllZip IsGroupLine groups group_lines
      → AllZip IsPairLine pairs pair_lines → AreLines (claims_of (groups_in version groups) pairs) (head_lines version singles n ++ (group_lines ++ (pair_lines ++ codes "DONE" ∷ [])))
  made_lines groups pairs group_lines pair_lines same w v = record {
    groups = group_lines;
    are_groups = subst (λ (gs : List Group). AllZip IsGroupLine gs group_lines) (sym same) w;
    pairs = pair_lines;
    are_pairs = v;
    is = ap (λ (l : List ℕ). l ∷ (codes "SINGLES " ++ decimal singles) ∷ (codes "SERIES " ++ decimal n) ∷ (group_lines ++ (pair_lines ++ codes "DONE" ∷ []))) (sym (version_is version groups));
  }

  made : (groups : List Group) (pairs : List Pair) (group_lines pair_lines : List (List ℕ)) → unwrap_or (groups_in version groups) [] ≡ groups → All (IsGroup n) groups → AllPairs AreInOrder groups
      → AreEntriesBefore n groups None pairs → AllZip IsGroupLine groups group_lines → AllZip IsPairLine pairs pair_lines → IsMade (group_lines ++ (pair_lines ++ codes "DONE" ∷ []))
  made groups pairs group_lines pair_lines same good ordered e w v = record {
    c = claims_of (groups_in version groups) pairs;
    claims = made_claims groups pairs same good ordered e;
    are = made_lines groups pairs group_lines pair_lines same w v;
  }

  -- ---- in the lines of groups

  module _ (rest : List ℕ) (second : version ≡ Second) (b : BreaksGroups n bytes rest) where
    -- the group of the next line of a certificate comes after these
    not_group : (c : Claims) (line after : List ℕ) (tail : List (List ℕ)) → IsClaims c → All (IsGroup n) (groups_of c) → AllZip IsGroupLine (groups_of c) (b.lines.lines ++ line ∷ tail) → rest ≡ line ++ 10 ∷ after → ⊥
    not_group c line after tail claims good w e =
        let cut = zip_cut IsGroupLine (groups_of c) b.lines.lines (line ∷ tail) w in
        go cut.front cut.back cut.is cut.first cut.second
      where
        go : (front back : List Group) → groups_of c ≡ front ++ back → AllZip IsGroupLine front b.lines.lines → AllZip IsGroupLine back (line ∷ tail) → ⊥
        go front [] f v u = absurd u
        go front (h ∷ hs) f v u =
            let fine : All (IsGroup n) (front ++ h ∷ hs) = subst (All (IsGroup n)) f good in
            let order : AllPairs AreInOrder (front ++ h ∷ hs) = subst (AllPairs AreInOrder) f claims.groups_ordered in
            let same : b.groups ≡ front = one_groups one_stamp one_form n b.groups front b.lines.lines head.few_series b.lines.good (all_front (IsGroup n) front (h ∷ hs) fine) b.lines.of v in
            lacks h (All-contains (IsGroup n) (front ++ h ∷ hs) h fine (Contains-append_right front (h ∷ hs) h (in_head h hs)))
            (λ g c. pairs_across AreInOrder front (h ∷ hs) g h order (subst (λ (gs : List Group). Contains gs g) same c) (in_head h hs)) u.0 b.lacks
          where
            lacks : (h : Group) → IsGroup n h → IsNextGroup b.groups h → IsGroupLine h line → LacksGroup n rest ⊎ ((g : Group) × (left : List ℕ) × IsGroupAt n g rest left × (IsNextGroup b.groups g → ⊥)) → ⊥
            lacks h fine next w (inl none) = none h line after fine w e
            lacks h fine next w (inr (g, left, at, other)) =
                let same : line ≡ at.line =
                one_line line at.line after left (group_free n h line head.few_series fine w) (group_free n g at.line head.few_series at.good at.of) (sym e ∙ at.is) in
                let one : h ≡ g = one_group one_stamp one_form n h g line head.few_series fine at.good w (subst (IsGroupLine g) (sym same) at.of) in
                other (subst (IsNextGroup b.groups) one next)

    pub stops_in_groups : Stops text (head_lines version singles n ++ b.lines.lines) rest
    stops_in_groups =
        let all = complete_all n b.groups in
        let m = made b.groups all.more b.lines.lines all.lines (ap (λ (v : Version). unwrap_or (groups_in v b.groups) []) second) b.lines.good b.lines.ordered all.entries b.lines.of all.of in
        record {
          is = head.is ∙ ap (spelled (head_lines version singles n)) b.lines.is;
          begins = record { c = m.c; claims = m.claims; back = all.lines ++ codes "DONE" ∷ []; are = m.are };
          next = λ c line after more claims are e.
              let o = of_head c (b.lines.lines ++ line ∷ more) claims are in
              let octet = group_octet line after b.begins.0 (sym b.begins.1 ∙ e) in
              let w = within_begin 71 (b.lines.lines ++ line ∷ []) o.groups more (o.pairs ++ codes "DONE" ∷ []) (begin_push 71 b.lines.lines line (groups_begin b.groups b.lines.lines b.lines.of) octet)
              (after_groups c.pairs o.pairs o.are_pairs) (append_assoc b.lines.lines (line ∷ []) more ∙ o.is) in
              not_group c line after w.0 claims (good_groups c (b.lines.lines ++ line ∷ more) claims o)
              (subst (λ (ls : List (List ℕ)). AllZip IsGroupLine (groups_of c) ls) (w.1 ∙ append_assoc b.lines.lines (line ∷ []) w.0) o.are_groups) e;
          end = λ c claims are e. absurd (let k = ap length (sym b.begins.1 ∙ e) in omega (arith, k));
        }

  -- ---- after them

  module _ (groups : List Group) (middle : List ℕ) (g : AreGroupsOf version n groups bytes middle) where
    plain_groups : unwrap_or (groups_in version groups) [] ≡ groups
    plain_groups = go version g.all
      where
        go : (v : Version) → AreAllGroups v groups middle → unwrap_or (groups_in v groups) [] ≡ groups
        go First e = sym e
        go Second e = refl

    -- what a certificate has whose lines go on so after those of these groups
    record IsAfter (c : Claims) (tail : List (List ℕ)) : Type 0 where
      same : groups_of c ≡ groups
      series : c.series ≡ n
      pairs : List (List ℕ)
      are_pairs : AllZip IsPairLine c.pairs pairs
      is : tail ≡ pairs ++ codes "DONE" ∷ []

    none_more : (v : Version) (c : Claims) (t others tail : List (List ℕ)) → AreAllGroups v groups middle → version_text v ≡ version_line c.groups → AllZip IsGroupLine (groups_of c) (g.lines.lines ++ t)
        → tail ≡ t ++ others → ((l : List ℕ) (ls : List (List ℕ)) (h : Group) → tail ≡ l ∷ ls → IsGroupLine h l → Lacks (codes "GROUP ") middle → ⊥) → t ≡ []
    none_more v c [] others tail all e w f none = refl
    none_more First c (l ∷ t) others tail all e w f none =
        let nothing = zip_none IsGroupLine (g.lines.lines ++ l ∷ t) (subst (λ (gs : List Group). AllZip IsGroupLine gs (g.lines.lines ++ l ∷ t)) (none_of_first c.groups e) w) in
        absurd (let k = ap length nothing in let long = length-append g.lines.lines (l ∷ t) in omega (arith, k, long))
    none_more Second c (l ∷ t) others tail all e w f none =
        let cut = zip_cut IsGroupLine (groups_of c) g.lines.lines (l ∷ t) w in
        absurd (go cut.back cut.second)
      where
        go : (back : List Group) → AllZip IsGroupLine back (l ∷ t) → ⊥
        go [] u = absurd u
        go (h ∷ hs) u = none l (t ++ others) h f u.0 all

    after_all : (c : Claims) (tail : List (List ℕ)) → IsClaims c → IsOfHead c (g.lines.lines ++ tail)
        → ((l : List ℕ) (ls : List (List ℕ)) (h : Group) → tail ≡ l ∷ ls → IsGroupLine h l → Lacks (codes "GROUP ") middle → ⊥) → IsAfter c tail
    after_all c tail claims o none =
        let w = within_begin 71 g.lines.lines o.groups tail (o.pairs ++ codes "DONE" ∷ []) (groups_begin groups g.lines.lines g.lines.of) (after_groups c.pairs o.pairs o.are_pairs) o.is in
        let them = subst (λ (ls : List (List ℕ)). AllZip IsGroupLine (groups_of c) ls) w.1 o.are_groups in
        let nothing = none_more version c w.0 (o.pairs ++ codes "DONE" ∷ []) tail g.all o.version_is them w.2 none in
        let lines : g.lines.lines ++ w.0 ≡ g.lines.lines = ap (λ (ls : List (List ℕ)). g.lines.lines ++ ls) nothing ∙ append-nil g.lines.lines in
        record {
          same = one_groups one_stamp one_form n (groups_of c) groups g.lines.lines head.few_series (good_groups c (g.lines.lines ++ tail) claims o) g.lines.good
              (subst (λ (ls : List (List ℕ)). AllZip IsGroupLine (groups_of c) ls) lines them) g.lines.of;
          series = o.series;
          pairs = o.pairs;
          are_pairs = o.are_pairs;
          is = w.2 ∙ ap (λ (ls : List (List ℕ)). ls ++ (o.pairs ++ codes "DONE" ∷ [])) nothing;
        }

    -- ---- in the lines of pairs, or behind

    module _ (next : Option (ℕ × ℕ)) (pairs : List Pair) (rest : List ℕ) (p : HasPairLines n groups next pairs middle rest) where
      front : List (List ℕ)
      front = g.lines.lines ++ p.lines

      spelled_so : text ≡ spelled (head_lines version singles n ++ (g.lines.lines ++ p.lines)) rest
      spelled_so =
          head.is ∙ ap (spelled (head_lines version singles n)) (g.lines.is ∙ ap (spelled g.lines.lines) p.is ∙ sym (spelled-append g.lines.lines p.lines rest))

      -- it has these entries, and then others
      record IsBehind (c : Claims) (line : List ℕ) (more : List (List ℕ)) : Type 0 where
        back : List Pair
        are : AreRest n groups pairs back
        tail : List (List ℕ)
        of : AllZip IsPairLine back tail
        is : line ∷ more ≡ tail ++ codes "DONE" ∷ []

      behind : (c : Claims) (line after : List ℕ) (more : List (List ℕ)) → IsClaims c → AreLines c (head_lines version singles n ++ ((g.lines.lines ++ p.lines) ++ line ∷ more)) → rest ≡ line ++ 10 ∷ after → IsBehind c line more
      behind c line after more claims are e =
          let lines : AreLines c (head_lines version singles n ++ (g.lines.lines ++ (p.lines ++ line ∷ more))) =
          subst (λ (ls : List (List ℕ)). AreLines c (head_lines version singles n ++ ls)) (append_assoc g.lines.lines p.lines (line ∷ more)) are in
          let o = of_head c (g.lines.lines ++ (p.lines ++ line ∷ more)) claims lines in
          let at = p.is ∙ ap (spelled p.lines) e in
          let a = after_all c (p.lines ++ line ∷ more) claims o (λ l ls h f u lacks. first_line pairs p.lines more ls middle line after l h p.of at f u lacks) in
          let w = within_begin 80 p.lines a.pairs (line ∷ more) (codes "DONE" ∷ []) (pairs_begin pairs p.lines p.of) (λ f. omega (arith, f)) a.is in
          let cut = zip_cut IsPairLine c.pairs p.lines w.0 (subst (λ (ls : List (List ℕ)). AllZip IsPairLine c.pairs ls) w.1 a.are_pairs) in
          let good : All (IsApart n groups) c.pairs = subst (λ (gs : List Group). All (IsApart n gs) c.pairs) a.same (subst (λ m. All (IsApart m (groups_of c)) c.pairs) a.series claims.pairs) in
          let parted : All (IsApart n groups) (cut.front ++ cut.back) = subst (All (IsApart n groups)) cut.is good in
          let same : pairs ≡ cut.front = one_pairs one_stamp one_form n groups groups pairs cut.front p.lines head.few_series p.entries.good (all_front (IsApart n groups) cut.front cut.back parted) p.of cut.first in
          let whole : c.pairs ≡ pairs ++ cut.back = cut.is ∙ ap (λ (ps : List Pair). ps ++ cut.back) (sym same) in
          record {
            back = cut.back;
            are = record {
              apart = subst (All (IsApart n groups)) whole good;
              ordered = subst (AllPairs (λ p q. IsPairBefore p.first p.second q.first q.second)) whole claims.pairs_ordered;
              all = λ i j pair.
                  subst (λ (ps : List Pair). AreTogether groups i j ⊎ ((q : Pair) × Contains ps q × (q.first ≡ i) × (q.second ≡ j))) whole
                  (subst (λ (gs : List Group). AreTogether gs i j ⊎ ((q : Pair) × Contains c.pairs q × (q.first ≡ i) × (q.second ≡ j))) a.same
                  (claims.all i j (subst (λ m. IsPair m i j) (sym a.series) pair)));
            };
            tail = w.0;
            of = cut.second;
            is = w.2;
          }

      -- without the last line it is none
      unended : (c : Claims) → IsClaims c → AreLines c (head_lines version singles n ++ (g.lines.lines ++ p.lines)) → ⊥
      unended c claims are =
          let o = of_head c (g.lines.lines ++ p.lines) claims are in
          no_done_end (o.groups ++ o.pairs)
          (subst NoDone (o.is ∙ sym (append_assoc o.groups o.pairs (codes "DONE" ∷ []))) (no_done groups pairs g.lines.lines p.lines g.lines.of p.of))

      begun : (more : List Pair) (lines : List (List ℕ)) → AreEntriesBefore n groups None (pairs ++ more) → AllZip IsPairLine more lines
          → IsMade ((g.lines.lines ++ p.lines) ++ (lines ++ codes "DONE" ∷ []))
      begun more lines e w =
          subst IsMade (grouped g.lines.lines p.lines lines (codes "DONE" ∷ []))
          (made groups (pairs ++ more) g.lines.lines (p.lines ++ lines) plain_groups g.lines.good g.lines.ordered e g.lines.of (zip_append IsPairLine pairs more p.lines lines p.of w))

    pub stops_in_pairs : (rest : List ℕ) (b : BreaksPairs n groups middle rest) → Stops text (head_lines version singles n ++ (g.lines.lines ++ b.lines.lines)) rest
    stops_in_pairs rest b =
        let next : Option (ℕ × ℕ) = Some (b.first, b.second) in
        let all = complete n groups b.first b.second b.pairs b.has.pair b.lines.entries in
        let m = begun next b.pairs rest b.lines all.more all.lines all.entries all.of in
        record {
          is = spelled_so next b.pairs rest b.lines;
          begins = record { c = m.c; claims = m.claims; back = all.lines ++ codes "DONE" ∷ []; are = m.are };
          next = λ c line after more claims are e.
              let w = behind next b.pairs rest b.lines c line after more claims are e in
              let q = next_behind n groups b.pairs b.first b.second w.back b.lines.entries b.has w.are in
              its_line line after more w.tail q.0 q.1 q.3 q.4 (IsApart-entry w.back w.are q.0 q.1 q.2) (subst (λ (ps : List Pair). AllZip IsPairLine ps w.tail) q.2 w.of) w.is e;
          end = λ c claims are. absurd (unended next b.pairs rest b.lines c claims are);
        }
      where
        IsApart-entry : (back : List Pair) → AreRest n groups b.pairs back → (q : Pair) (qs : List Pair) → back ≡ q ∷ qs → IsEntry q.entry
        IsApart-entry back are q qs e =
            (All-contains (IsApart n groups) (b.pairs ++ q ∷ qs) q (subst (λ (ps : List Pair). All (IsApart n groups) (b.pairs ++ ps)) e are.apart) (Contains-append_right b.pairs (q ∷ qs) q (in_head q qs))).entry

        its_line : (line after : List ℕ) (more tail : List (List ℕ)) (q : Pair) (qs : List Pair) → q.first ≡ b.first → q.second ≡ b.second → IsEntry q.entry → AllZip IsPairLine (q ∷ qs) tail
            → line ∷ more ≡ tail ++ codes "DONE" ∷ [] → rest ≡ line ++ 10 ∷ after → ⊥
        its_line line after more [] q qs f h good w e r = absurd w
        its_line line after more (l ∷ tail) q qs f h good w e r =
            let same : line ≡ l = ap (λ (ls : List (List ℕ)). get_or ls 0 []) e in
            let named : q ≡ record { first = b.first; second = b.second; entry = q.entry } = λ i. record { first = f i; second = h i; entry = q.entry } in
            b.lacks q.entry line after good (subst (λ (x : Pair). IsPairLine x line) named (subst (IsPairLine q) (sym same) w.0)) r

    pub stops_at_done : (pairs : List Pair) (rest : List ℕ) (p : HasPairLines n groups None pairs middle rest) → LacksLine (codes "DONE") rest
        → Stops text (head_lines version singles n ++ (g.lines.lines ++ p.lines)) rest
    stops_at_done pairs rest p lacks =
        let m = begun None pairs rest p [] [] (subst (AreEntriesBefore n groups None) (sym (append-nil pairs)) p.entries) tt in
        record {
          is = spelled_so None pairs rest p;
          begins = record { c = m.c; claims = m.claims; back = codes "DONE" ∷ []; are = m.are };
          next = λ c line after more claims are e.
              let w = behind None pairs rest p c line after more claims are e in
              let nothing = none_behind n groups pairs w.back p.entries w.are in
              let lines = zip_none IsPairLine w.tail (subst (λ (ps : List Pair). AllZip IsPairLine ps w.tail) nothing w.of) in
              let same : line ≡ codes "DONE" = ap (λ (ls : List (List ℕ)). get_or ls 0 []) (w.is ∙ ap (λ (ls : List (List ℕ)). ls ++ codes "DONE" ∷ []) lines) in
              lacks after (e ∙ ap (λ (l : List ℕ). l ++ 10 ∷ after) same);
          end = λ c claims are. absurd (unended None pairs rest p c claims are);
        }

    pub stops_behind : (pairs : List Pair) (rest : List ℕ) (p : HasPairLines n groups None pairs middle (codes "DONE" ++ 10 ∷ rest)) → rest ≢ []
        → Stops text (head_lines version singles n ++ ((g.lines.lines ++ p.lines) ++ codes "DONE" ∷ [])) rest
    stops_behind pairs rest p some =
        let last = codes "DONE" ++ 10 ∷ rest in
        let m = begun None pairs last p [] [] (subst (AreEntriesBefore n groups None) (sym (append-nil pairs)) p.entries) tt in
        record {
          is = spelled_so None pairs last p ∙ sym (spelled-append (head_lines version singles n ++ (g.lines.lines ++ p.lines)) (codes "DONE" ∷ []) rest);
          begins = record {
            c = m.c;
            claims = m.claims;
            back = [];
            are = subst (λ (ls : List (List ℕ)). AreLines m.c (head_lines version singles n ++ ls)) (sym (append-nil ((g.lines.lines ++ p.lines) ++ codes "DONE" ∷ []))) m.are;
          };
          next = λ c line after more claims are e.
              let lines = subst (λ (ls : List (List ℕ)). AreLines c (head_lines version singles n ++ ls)) (append_assoc (g.lines.lines ++ p.lines) (codes "DONE" ∷ []) (line ∷ more)) are in
              let o = of_head c ((g.lines.lines ++ p.lines) ++ codes "DONE" ∷ line ∷ more) claims lines in
              absurd (done_last (o.groups ++ o.pairs) (g.lines.lines ++ p.lines) line more (no_done (groups_of c) c.pairs o.groups o.pairs o.are_groups o.are_pairs)
              (append_assoc o.groups o.pairs (codes "DONE" ∷ []) ∙ sym o.is));
          end = λ c claims are. some;
        }

  -- ---- the line at which it breaks off is the first wrong one

  pub wrong_line : (rest : List ℕ) (line : ℕ) → IsBroken version n bytes rest → line ≡ suc (breaks (take (length text - length rest) text)) → FirstWrong text line
  wrong_line rest line (inl b) e = wrong_at text (head_lines version singles n ++ b.breaks.lines.lines) rest (stops_in_groups rest b.second b.breaks) line e
  wrong_line rest line (inr (inl b)) e =
      wrong_at text (head_lines version singles n ++ (b.are_groups.lines.lines ++ b.breaks.lines.lines)) rest (stops_in_pairs b.groups b.middle b.are_groups rest b.breaks) line e
  wrong_line rest line (inr (inr (inl b))) e =
      wrong_at text (head_lines version singles n ++ (b.are_groups.lines.lines ++ b.are_pairs.lines)) rest (stops_at_done b.groups b.middle b.are_groups b.pairs rest b.are_pairs b.lacks) line e
  wrong_line rest line (inr (inr (inr b))) e =
      wrong_at text (head_lines version singles n ++ ((b.are_groups.lines.lines ++ b.are_pairs.lines) ++ codes "DONE" ∷ [])) rest
      (stops_behind b.groups b.middle b.are_groups b.pairs rest b.are_pairs b.some) line e

  -- ---- a whole certificate

  module _ (read : Option (List Group)) (pairs : List Pair) (s : AreStatementsOf version n read pairs bytes) where
    same_groups : unwrap_or (groups_in version s.groups) [] ≡ s.groups
    same_groups = plain_groups s.groups s.rest s.are_groups

    pub claims_read : IsClaims (claims_of read pairs)
    claims_read =
        subst (λ (gs : Option (List Group)). IsClaims (claims_of gs pairs)) (sym s.is)
        (made_claims s.groups pairs same_groups s.are_groups.lines.good s.are_groups.lines.ordered s.are_pairs.entries)

    pub certificate_read : SpellsCertificate text (claims_of read pairs)
    certificate_read = record {
      claims = claims_read;
      lines = head_lines version singles n ++ (s.are_groups.lines.lines ++ (s.are_pairs.lines ++ codes "DONE" ∷ []));
      are = subst (λ (gs : Option (List Group)). AreLines (claims_of gs pairs) (head_lines version singles n ++ (s.are_groups.lines.lines ++ (s.are_pairs.lines ++ codes "DONE" ∷ [])))) (sym s.is)
          (made_lines s.groups pairs s.are_groups.lines.lines s.are_pairs.lines same_groups s.are_groups.lines.of s.are_pairs.of);
      is =
          spelled_so s.groups s.rest s.are_groups None pairs (codes "DONE" ++ 10 ∷ []) s.are_pairs
          ∙ sym (spelled-append (head_lines version singles n ++ (s.are_groups.lines.lines ++ s.are_pairs.lines)) (codes "DONE" ∷ []) [])
          ∙ ap (λ (ls : List (List ℕ)). spelled (head_lines version singles n ++ ls) []) (append_assoc s.are_groups.lines.lines s.are_pairs.lines (codes "DONE" ∷ []));
    }
