-- No line of a certificate has an LF inside.
use Rattle.std.proofs.Common.{◌≡◌, ℕ, ℤ, ◌+◌, ◌/◌, ◌%◌, ◌^◌, ◌<◌, ◌≤◌, ◌==◌, true, not, ◌&&◌, List, [], ◌∷◌, ◌++◌, Contains, length, subst, sym, refl, ap, ◌∙◌, arith}
use Rattle.std.specs.Prelude.{Option, Some, None, All, codes, decimal}
use Rattle.std.specs.List.{AllZip}
use Rattle.std.proofs.lemmas.Bool.{and_from}
use Rattle.std.proofs.lemmas.Bool.Decides.{nat_tests}
use Rattle.std.proofs.lemmas.List.Elements.{All-head, All-tail, All-weaker, All-contains_itself}
use Rattle.profile.specs.text.Values.{WritesStamp, two_digits, four_digits}
use Rattle.profile.specs.checker.Certificates.{Entry, End, Span, Res, InGroup, Pair, Group, Claims, IsClaims, IsEntry, IsEntryText, IsGroup, IsApart, IsGroupLine, IsPairLine, AreLines, numbers_text, version_line, groups_of}
use Rattle.clash_cert.proofs.TextLemmas.{lf_free, lf_free-append, decimal_free, AreFree, AreFree-append}

-- ---- a stamp

high_free : (c : ℕ) → 48 ≤ c → not (c == 10) ≡ true
high_free c h = grind (arith, nat_tests)

two_free : (n : ℕ) → lf_free (two_digits n) ≡ true
two_free n =
    let first = high_free (48 + n / 10) (omega arith) in
    let second = high_free (48 + n % 10) (omega arith) in
    and_from (not ((48 + n / 10) == 10)) (not ((48 + n % 10) == 10) && true) first (and_from (not ((48 + n % 10) == 10)) true second refl)

four_free : (n : ℕ) → lf_free (four_digits n) ≡ true
four_free n = lf_free-append (two_digits (n / 100)) (two_digits (n % 100)) (two_free (n / 100)) (two_free (n % 100))

pub stamp_free : (text : List ℕ) (t : ℤ) → WritesStamp text t → lf_free text ≡ true
stamp_free text t (local, w, e) =
    let on = w.on in
    let at = w.at_second in
    let month = lf_free-append (four_digits on.year) (two_digits on.month) (four_free on.year) (two_free on.month) in
    let date = subst (λ x. lf_free x ≡ true) (sym on.spelled) (lf_free-append (four_digits on.year ++ two_digits on.month) (two_digits on.day) month (two_free on.day)) in
    let minute = lf_free-append (two_digits at.hour) (two_digits at.minute) (two_free at.hour) (two_free at.minute) in
    let time = subst (λ x. lf_free x ≡ true) (sym at.spelled) (lf_free-append (two_digits at.hour ++ two_digits at.minute) (two_digits at.second) minute (two_free at.second)) in
    let clock = subst (λ x. lf_free x ≡ true) (sym w.spelled) (lf_free-append (w.date ++ codes "T") w.time (lf_free-append w.date (codes "T") date refl) time) in
    subst (λ x. lf_free x ≡ true) (sym e) (lf_free-append local (codes "Z") clock refl)

-- it is written with 16 octets
pub stamp_length : (text : List ℕ) (t : ℤ) → WritesStamp text t → length text ≡ 16
stamp_length text t (local, w, e) =
    let on = w.on in
    let at = w.at_second in
    let shown : text ≡ ((four_digits on.year ++ two_digits on.month ++ two_digits on.day) ++ codes "T" ++ (two_digits at.hour ++ two_digits at.minute ++ two_digits at.second)) ++ codes "Z" =
    e ∙ ap (λ l. l ++ codes "Z") (w.spelled ∙ ap (λ d. d ++ codes "T" ++ w.time) on.spelled ∙ ap (λ s. (four_digits on.year ++ two_digits on.month ++ two_digits on.day) ++ codes "T" ++ s) at.spelled) in
    ap length shown

-- ---- the line of a pair

pub entry_free : (entry : Entry) (text : List ℕ) → IsEntry entry → IsEntryText entry text → lf_free text ≡ true
entry_free End text h e = subst (λ t. lf_free t ≡ true) (sym e) refl
entry_free (Span from days) text h (stamp, w, e) =
    let last : lf_free (codes " " ++ decimal days) ≡ true = decimal_free days h.1 in
    let all : lf_free (codes "SPAN " ++ (stamp ++ (codes " " ++ decimal days))) ≡ true = lf_free-append stamp (codes " " ++ decimal days) (stamp_free stamp from w) last in
    subst (λ t. lf_free t ≡ true) (sym e) all
entry_free (Res m) text h e = subst (λ t. lf_free t ≡ true) (sym e) (lf_free-append (codes "RES ") (decimal m) refl (decimal_free m h))
entry_free (InGroup n) text h e = absurd h

pub pair_free : (p : Pair) (line : List ℕ) → p.first < 2 ^ 64 → p.second < 2 ^ 64 → IsEntry p.entry → IsPairLine p line → lf_free line ≡ true
pair_free p line h k is (text, of, e) =
    let words = entry_free p.entry text is of in
    let after : lf_free (codes " " ++ (decimal p.second ++ (codes " " ++ text))) ≡ true = lf_free-append (decimal p.second) (codes " " ++ text) (decimal_free p.second k) words in
    let all : lf_free (codes "PAIR " ++ (decimal p.first ++ (codes " " ++ (decimal p.second ++ (codes " " ++ text))))) ≡ true =
    lf_free-append (decimal p.first) (codes " " ++ (decimal p.second ++ (codes " " ++ text))) (decimal_free p.first h) after in
    subst (λ t. lf_free t ≡ true) (sym e) all

pub pairs_free : (n : ℕ) (groups : List Group) (ps : List Pair) (lines : List (List ℕ)) → n < 2 ^ 64 → All (IsApart n groups) ps → AllZip IsPairLine ps lines → AreFree lines
pairs_free n groups [] [] few h w = tt
pairs_free n groups [] (l ∷ ls) few h w = absurd w
pairs_free n groups (p ∷ ps) [] few h w = absurd w
pairs_free n groups (p ∷ ps) (l ∷ ls) few h w =
    let apart = All-head (IsApart n groups) p ps h in
    let within = apart.pair in
    (pair_free p l (omega (arith, few, within)) (omega (arith, few, within)) apart.entry w.0, pairs_free n groups ps ls few (All-tail (IsApart n groups) p ps h) w.1)

-- ---- the line of a group

-- numbers of so many series have 64 bits
pub few_members : (n : ℕ) (group : Group) → n < 2 ^ 64 → IsGroup n group → All (λ i. i < 2 ^ 64) group.members
few_members n group few good =
    All-weaker (Contains group.members) (λ i. i < 2 ^ 64) (λ i one. let within = good.within i one in omega (arith, few, within)) group.members (All-contains_itself group.members)

pub numbers_free : (ns : List ℕ) → All (λ n. n < 2 ^ 64) ns → lf_free (numbers_text ns) ≡ true
numbers_free [] h = refl
numbers_free (n ∷ ns) h = lf_free-append (decimal n) (numbers_text ns) (decimal_free n (All-head (λ n. n < 2 ^ 64) n ns h)) (numbers_free ns (All-tail (λ n. n < 2 ^ 64) n ns h))

pub group_free : (n : ℕ) (group : Group) (line : List ℕ) → n < 2 ^ 64 → IsGroup n group → IsGroupLine group line → lf_free line ≡ true
group_free n group line few good (stamp, w, e) =
    let numbers : lf_free (codes " " ++ (decimal group.days ++ numbers_text group.members)) ≡ true =
    lf_free-append (decimal group.days) (numbers_text group.members) (decimal_free group.days good.days) (numbers_free group.members (few_members n group few good)) in
    let all : lf_free (codes "GROUP " ++ (stamp ++ (codes " " ++ (decimal group.days ++ numbers_text group.members)))) ≡ true =
    lf_free-append stamp (codes " " ++ (decimal group.days ++ numbers_text group.members)) (stamp_free stamp group.from w) numbers in
    subst (λ t. lf_free t ≡ true) (sym e) all

pub groups_free : (n : ℕ) (groups : List Group) (lines : List (List ℕ)) → n < 2 ^ 64 → All (IsGroup n) groups → AllZip IsGroupLine groups lines → AreFree lines
groups_free n [] [] few h w = tt
groups_free n [] (l ∷ ls) few h w = absurd w
groups_free n (g ∷ gs) [] few h w = absurd w
groups_free n (g ∷ gs) (l ∷ ls) few h w = (group_free n g l few (All-head (IsGroup n) g gs h) w.0, groups_free n gs ls few (All-tail (IsGroup n) g gs h) w.1)

-- ---- all lines

version_free : (groups : Option (List Group)) → lf_free (version_line groups) ≡ true
version_free None = refl
version_free (Some groups) = refl

-- the first three lines
pub head_free : (groups : Option (List Group)) (singles series : ℕ) → singles < 2 ^ 64 → series < 2 ^ 64
    → AreFree (version_line groups ∷ (codes "SINGLES " ++ decimal singles) ∷ (codes "SERIES " ++ decimal series) ∷ [])
head_free groups singles series h k = (
  version_free groups,
  (
    lf_free-append (codes "SINGLES ") (decimal singles) refl (decimal_free singles h),
    (lf_free-append (codes "SERIES ") (decimal series) refl (decimal_free series k), tt),
  ),
)

pub certificate_free : (c : Claims) (lines : List (List ℕ)) → IsClaims c → AreLines c lines → AreFree lines
certificate_free c lines h are =
    let pairs = pairs_free c.series (groups_of c) c.pairs are.pairs h.series h.pairs are.are_pairs in
    let groups = groups_free c.series (groups_of c) are.groups h.series h.groups are.are_groups in
    let end = AreFree-append are.pairs (codes "DONE" ∷ []) pairs (refl, tt) in
    let head = head_free c.groups c.singles c.series h.singles h.series in
    subst AreFree (sym are.is)
    (AreFree-append (version_line c.groups ∷ (codes "SINGLES " ++ decimal c.singles) ∷ (codes "SERIES " ++ decimal c.series) ∷ []) (are.groups ++ (are.pairs ++ codes "DONE" ∷ [])) head
    (AreFree-append are.groups (are.pairs ++ codes "DONE" ∷ []) groups end))
