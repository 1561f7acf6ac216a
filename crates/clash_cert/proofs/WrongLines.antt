-- Which line is the first wrong one.
use Rattle.std.proofs.Common.{◌≡◌, ◌≢◌, ℕ, ℤ, zero, suc, ◌+◌, ◌-◌, ◌^◌, ◌<◌, ◌≤◌, ◌==◌, Bool, false, List, [], ◌∷◌, ◌++◌, Contains, length, get_or, take, drop, append_assoc, append-nil, subst, sym, refl, ap, ◌∙◌, inl, inr, lit<, arith}
use Rattle.std.specs.Prelude.{◌⊎◌, All, AllPairs, Option, Some, None, unwrap_or, codes, decimal}
use Rattle.std.specs.List.{AllZip}
use Rattle.std.proofs.lemmas.Bool.{cases_order, true≢false}
use Rattle.std.proofs.lemmas.List.{length-append, append_cancel_left}
use Rattle.std.proofs.lemmas.List.Elements.{All-nil, All-contains, Contains-append_right}
use Rattle.std.proofs.Math.Seq.{take-append_seam}
use Rattle.std.proofs.lemmas.Fmt.{decimal_injective}
use Rattle.profile.specs.text.Values.{WritesStamp}
use Rattle.profile.specs.checker.Certificates.{Entry, Pair, Group, Claims, IsClaims, IsEntry, IsGroup, IsGroupLine, IsPairLine, IsPair, IsPairBefore, IsApart, AreInOrder, AreTogether, AreLines, groups_of, version_line, spelled, SpellsCertificate, BeginsWell, FirstWrong}
use Rattle.clash_cert.specs.Texts.{Lacks, LacksLine, LacksCount}
use Rattle.clash_cert.specs.Reading.{version_text, IsVersionAt, LacksVersion, LacksPair}
use Rattle.clash_cert.specs.Walked.{HasPairLine, AreEntriesBefore, HasGroupLines, HasPairLines, AreGroupsOf, AreAllGroups, AreStatementsOf, BreaksGroups, BreaksPairs, BreaksInGroups, BreaksInPairs, LacksDone, HasMore, IsBroken, IsNextGroup, groups_in}
use Rattle.clash_cert.specs.declared.reading.Version.{Version}
use Rattle.clash_cert.specs.declared.reading.Version.TheVariants.{First, Second}
use Rattle.clash_cert.proofs.TextLemmas.{AreFree, AreFree-append, AreFree-front, one_cut, one_line, one_rest, same_lines, cancel, spelled-take, spelled-append, breaks, line_at}
use Rattle.clash_cert.proofs.FreeLines.{certificate_free, head_free, groups_free, pairs_free}
use Rattle.clash_cert.proofs.ListLemmas.{IsCut, zip_append, zip_cut, zip_none, none_in_nil, in_head, all_front, all_back, pairs_nil, pairs_across}
use Rattle.clash_cert.proofs.OneContent.{Begin, first_octet, others_of, groups_begin, after_groups, one_groups, one_pairs}
use Rattle.clash_cert.proofs.Walking.{before_self, before_through, before_or_from, AreFilled, complete, complete_all}

-- ---- a text goes on as no certificate does

-- these lines are the first of some certificate
pub record Begins (front : List (List ℕ)) : Type 0 where
  pub c : Claims
  pub claims : IsClaims c
  pub back : List (List ℕ)
  pub are : AreLines c (front ++ back)

-- the text begins with them, and goes on as none does
pub record Stops (text : List ℕ) (front : List (List ℕ)) (rest : List ℕ) : Type 0 where
  pub is : text ≡ spelled front rest
  pub begins : Begins front
  pub next : (c : Claims) (line after : List ℕ) (more : List (List ℕ)) → IsClaims c → AreLines c (front ++ line ∷ more) → rest ≢ line ++ 10 ∷ after
  pub end : (c : Claims) → IsClaims c → AreLines c front → rest ≢ []

-- lines around a place
record IsAround (k : ℕ) (lines : List (List ℕ)) : Type 0 where
  front : List (List ℕ)
  line : List ℕ
  more : List (List ℕ)
  is : lines ≡ front ++ line ∷ more
  long : length front ≡ k
  taken : take (suc k) lines ≡ front ++ line ∷ []

around : (k : ℕ) (lines : List (List ℕ)) → k < length lines → IsAround k lines
around k [] h = absurd (omega (arith, h))
around zero (l ∷ ls) h = record { front = []; line = l; more = ls; is = refl; long = refl; taken = refl }
around (suc k) (l ∷ ls) h =
    let w = around k ls (omega (arith, h)) in
    let long = w.long in
    record {
      front = l ∷ w.front;
      line = w.line;
      more = w.more;
      is = ap (λ (x : List (List ℕ)). l ∷ x) w.is;
      long = omega (arith, long);
      taken = ap (λ (x : List (List ℕ)). l ∷ x) w.taken;
    }

-- a text of no more lines than these
shorter : (lines front : List (List ℕ)) (rest : List ℕ) → AreFree lines → AreFree front → length lines ≤ length front → spelled lines [] ≡ spelled front rest → (lines ≡ front) × (rest ≡ [])
shorter [] [] rest h k le e = (refl, sym e)
shorter [] (m ∷ ms) rest h k le e = absurd (let n = ap length e in let long = length-append m (10 ∷ spelled ms rest) in omega (arith, n, long))
shorter (l ∷ ls) [] rest h k le e = absurd (omega (arith, le))
shorter (l ∷ ls) (m ∷ ms) rest h k le e =
    let first : l ≡ m = one_line l m (spelled ls []) (spelled ms rest) h.0 k.0 e in
    let more = shorter ls ms rest h.1 k.1 (omega (arith, le)) (one_cut l m (spelled ls []) (spelled ms rest) h.0 k.0 e) in
    (ap (λ (z : List ℕ). z ∷ ls) first ∙ ap (λ (zs : List (List ℕ)). m ∷ zs) more.0, more.1)

module _ (text : List ℕ) (front : List (List ℕ)) (rest : List ℕ) (stops : Stops text front rest) where
  free : AreFree front
  free = AreFree-front front stops.begins.back (certificate_free stops.begins.c (front ++ stops.begins.back) stops.begins.claims stops.begins.are)

  not_next : BeginsWell text (suc (length front)) → ⊥
  not_next b =
      let w = around (length front) b.lines (omega (arith, b.within)) in
      let all = subst AreFree w.is (certificate_free b.c b.lines b.claims b.are) in
      let own = AreFree-front w.front (w.line ∷ w.more) all in
      let here : spelled front rest ≡ spelled w.front (w.line ++ 10 ∷ b.rest) =
      sym stops.is ∙ b.is ∙ ap (λ (ls : List (List ℕ)). spelled ls b.rest) w.taken ∙ spelled-append w.front (w.line ∷ []) b.rest in
      let same : front ≡ w.front = same_lines front w.front rest (w.line ++ 10 ∷ b.rest) free own (sym w.long) here in
      let left : rest ≡ w.line ++ 10 ∷ b.rest = one_rest front w.front rest (w.line ++ 10 ∷ b.rest) free own (sym w.long) here in
      stops.next b.c w.line b.rest w.more b.claims (subst (AreLines b.c) (w.is ∙ ap (λ (ls : List (List ℕ)). ls ++ w.line ∷ w.more) (sym same)) b.are) left

  whole_begins : (c : Claims) (n : ℕ) (s : SpellsCertificate text c) → n ≤ length s.lines → BeginsWell text n
  whole_begins c n s w = record {
    c = c;
    rest = spelled (drop n s.lines) [];
    claims = s.claims;
    lines = s.lines;
    are = s.are;
    within = w;
    is = s.is ∙ spelled-take n s.lines [];
  }

  not_whole : (c : Claims) → SpellsCertificate text c → ⊥
  not_whole c s =
      elim (cases_order (suc (length front)) (length s.lines)) [
        | inl e ↦ not_next (whole_begins c (suc (length front)) s (omega (arith, e)))
        | inr v ↦ elim v [
          | inl lt ↦ not_next (whole_begins c (suc (length front)) s (omega (arith, lt)))
          | inr lt ↦ ended (shorter s.lines front rest (certificate_free c s.lines s.claims s.are) free (omega (arith, lt)) (sym s.is ∙ stops.is))
        ]
      ]
    where
      ended : (s.lines ≡ front) × (rest ≡ []) → ⊥
      ended w = stops.end c s.claims (subst (AreLines c) w.0 s.are) w.1

  pub wrong_here : FirstWrong text (suc (length front))
  wrong_here =
      let begins = stops.begins in
      let same : length front ≡ suc (length front) - 1 = omega arith in
      let long = length-append front begins.back in
      record {
        counted = omega arith;
        none = not_whole;
        before = subst (BeginsWell text) same (record {
          c = begins.c;
          rest = rest;
          claims = begins.claims;
          lines = front ++ begins.back;
          are = begins.are;
          within = omega (arith, long);
          is = stops.is ∙ ap (λ (ls : List (List ℕ)). spelled ls rest) (sym (take-append_seam front begins.back));
        });
        here = not_next;
      }

  -- counted by the line ends before it
  pub wrong_at : (line : ℕ) → line ≡ suc (breaks (take (length text - length rest) text)) → FirstWrong text line
  wrong_at line e = subst (FirstWrong text) (sym (e ∙ ap (λ n. suc n) (line_at text rest front free stops.is))) wrong_here

-- ---- one of the first three lines

pub version_is : (version : Version) (groups : List Group) → version_line (groups_in version groups) ≡ version_text version
version_is First groups = refl
version_is Second groups = refl

-- the one that a certificate has
abbrev version_of : Option (List Group) → Version
version_of None = First
version_of (Some groups) = Second

is_version : (groups : Option (List Group)) → version_line groups ≡ version_text (version_of groups)
is_version None = refl
is_version (Some groups) = refl

no_groups : (version : Version) → unwrap_or (groups_in version []) [] ≡ []
no_groups First = refl
no_groups Second = refl

-- without series
abbrev plain : Version → ℕ → Claims
plain version singles = record { singles = singles; series = 0; groups = groups_in version []; pairs = [] }

abbrev plain_rest : List (List ℕ)
plain_rest = (codes "SERIES " ++ decimal 0) ∷ codes "DONE" ∷ []

plain_claims : (version : Version) (singles : ℕ) → singles < 2 ^ 64 → IsClaims (plain version singles)
plain_claims version singles h = record {
  singles = h;
  series = lit< tt;
  groups = subst (All (IsGroup 0)) (sym (no_groups version)) (All-nil (IsGroup 0));
  groups_ordered = subst (AllPairs AreInOrder) (sym (no_groups version)) (pairs_nil AreInOrder);
  pairs = All-nil (IsApart 0 (groups_of (plain version singles)));
  pairs_ordered = pairs_nil (λ p q. IsPairBefore p.first p.second q.first q.second);
  all = λ i j pair. absurd (omega (arith, pair.0, pair.1, pair.2));
}

plain_lines : (version : Version) (singles : ℕ) → AreLines (plain version singles) (version_text version ∷ (codes "SINGLES " ++ decimal singles) ∷ plain_rest)
plain_lines version singles = record {
  groups = [];
  are_groups = subst (λ (gs : List Group). AllZip IsGroupLine gs []) (sym (no_groups version)) tt;
  pairs = [];
  are_pairs = tt;
  is = ap (λ (l : List ℕ). l ∷ (codes "SINGLES " ++ decimal singles) ∷ plain_rest) (sym (version_is version []));
}

pub stops_first : (text : List ℕ) → LacksVersion text → Stops text [] text
stops_first text lacks = record {
  is = refl;
  begins = record { c = plain First 0; claims = plain_claims First 0 (lit< tt); back = version_text First ∷ (codes "SINGLES " ++ decimal 0) ∷ plain_rest; are = plain_lines First 0 };
  next = λ c line after more claims are e.
      lacks (version_of c.groups) after (e ∙ ap (λ (ls : List (List ℕ)). get_or ls 0 [] ++ 10 ∷ after) are.is ∙ ap (λ (l : List ℕ). l ++ 10 ∷ after) (is_version c.groups));
  end = λ c claims are e. absurd (let n = ap length are.is in omega (arith, n));
}

pub stops_second : (text r : List ℕ) (version : Version) → IsVersionAt version text r → LacksCount (codes "SINGLES ") r → Stops text (version_text version ∷ []) r
stops_second text r version e lacks = record {
  is = e;
  begins = record { c = plain version 0; claims = plain_claims version 0 (lit< tt); back = (codes "SINGLES " ++ decimal 0) ∷ plain_rest; are = plain_lines version 0 };
  next = λ c line after more claims are f. lacks c.singles after claims.singles (f ∙ ap (λ (ls : List (List ℕ)). get_or ls 1 [] ++ 10 ∷ after) are.is);
  end = λ c claims are f. absurd (let n = ap length are.is in omega (arith, n));
}

pub stops_third : (text r s : List ℕ) (version : Version) (n : ℕ) → IsVersionAt version text r → (n < 2 ^ 64) × (r ≡ (codes "SINGLES " ++ decimal n) ++ 10 ∷ s)
    → LacksCount (codes "SERIES ") s → Stops text (version_text version ∷ (codes "SINGLES " ++ decimal n) ∷ []) s
stops_third text r s version n e f lacks = record {
  is = e ∙ ap (λ (l : List ℕ). version_text version ++ 10 ∷ l) f.1;
  begins = record { c = plain version n; claims = plain_claims version n f.0; back = plain_rest; are = plain_lines version n };
  next = λ c line after more claims are g. lacks c.series after claims.series (g ∙ ap (λ (ls : List (List ℕ)). get_or ls 2 [] ++ 10 ∷ after) are.is);
  end = λ c claims are f. absurd (let n = ap length are.is in omega (arith, n));
}

-- ---- the first three lines are right

abbrev pub head_lines : Version → ℕ → ℕ → List (List ℕ)
head_lines version singles series = version_text version ∷ (codes "SINGLES " ++ decimal singles) ∷ (codes "SERIES " ++ decimal series) ∷ []

-- the counts were read, and these octets follow
pub record IsHeaded (text bytes : List ℕ) (version : Version) (singles series : ℕ) : Type 0 where
  pub few_singles : singles < 2 ^ 64
  pub few_series : series < 2 ^ 64
  pub is : text ≡ spelled (head_lines version singles series) bytes

pub headed : (text r s t : List ℕ) (version : Version) (n m : ℕ) → IsVersionAt version text r → (n < 2 ^ 64) × (r ≡ (codes "SINGLES " ++ decimal n) ++ 10 ∷ s)
    → (m < 2 ^ 64) × (s ≡ (codes "SERIES " ++ decimal m) ++ 10 ∷ t) → IsHeaded text t version n m
headed text r s t version n m e f g = record {
  few_singles = f.0;
  few_series = g.0;
  is = e ∙ ap (λ (l : List ℕ). version_text version ++ 10 ∷ l) (f.1 ∙ ap (λ (l : List ℕ). (codes "SINGLES " ++ decimal n) ++ 10 ∷ l) g.1);
}

-- what `is_empty` says about a text that is not
pub some_from : (u : List ℕ) (b : Bool) → b ≡ (length u == 0) → b ≡ false → u ≢ []
some_from u b e h f = true≢false (ap (λ (l : List ℕ). length l == 0) (sym f) ∙ sym e ∙ h)
