-- The definitions at worked examples: texts that spell a certificate, and texts that don't.
use Rattle.std.proofs.Common.{ℕ, zero, suc, ◌-◌, ◌^◌, ◌<◌, ◌≤◌, ◌⊎◌, List, ◌≡◌, ◌≢◌, ◌∙◌, ◌++◌, pos, [], ◌∷◌, get_or, take, drop, length, refl, sym, ap, subst, lit<, lit≤, inl, inr, false, arith}
use Rattle.std.specs.Prelude.{Option, Some, None, AllPairs, Contains, codes, decimal}
use Rattle.std.specs.List.{slice_get, AllZip}
use Rattle.std.proofs.lemmas.Option.{same_Some, none-some}
use Rattle.std.proofs.lemmas.List.{length-append, length-take-le}
use Rattle.std.specs.Fmt.{digits}
use Rattle.std.specs.Str.Parse.{digits_value}
use Rattle.std.proofs.lemmas.Fmt.{digits_value-decimal}
use Rattle.std.proofs.lemmas.List.Elements.{All-nil, All-cons, All-contains}
use Rattle.std.proofs.lemmas.List.Kept.{AllPairs-cons}
use Rattle.std.proofs.lemmas.Int.{ints}
use Rattle.profile.specs.series.Days.{days_before_year, days_of_months}
use Rattle.profile.specs.text.Values.{WritesStamp, IsClockSeconds}
use Rattle.profile.specs.checker.Certificates.{Claims, Pair, Group, Entry, End, Span, Res, IsEntry, IsEntryText, IsClaims, IsGroup, IsApart, IsPair, IsPairBefore, IsPairLine, IsGroupLine, AreInOrder, AreTogether, AreLines, groups_of, spelled, SpellsCertificate, BeginsWell, FirstWrong, IsSeriesAt, IsCertificateMade}
use Rattle.profile.specs.events.Events.{Event}
use Rattle.profile.specs.events.Confirmed.{Confirmed}
use Rattle.clash_cert.specs.Texts.{Lacks, IsNoNumber}
use Rattle.clash_cert.specs.Reading.{IsNoEntry, IsNoSpan, IsNoGroup}
use Rattle.clash_cert.proofs.TextLemmas.{cancel, digits_model, same_lines, spelled-take, AreFree-take}
use Rattle.clash_cert.proofs.FreeLines.{certificate_free}
use Rattle.clash_cert.proofs.OneContent.{after_number}
use Rattle.clash_cert.proofs.Words.{no_entry, no_stamp, not_sixty}
use Rattle.clash_cert.proofs.GroupWords.{group_other, within_of, ascending_of}

-- ---- without series

-- an only pair, or no pair, is in order
few_in_order : (pairs : List Pair) → length pairs ≤ 1 → AllPairs (λ p q. IsPairBefore p.first p.second q.first q.second) pairs
few_in_order pairs few i j d lt w = absurd (omega (arith, few, lt, w))

one_group_in_order : (groups : List Group) → length groups ≤ 1 → AllPairs AreInOrder groups
one_group_in_order groups few i j d lt w = absurd (omega (arith, few, lt, w))

-- where there are no groups, no two are in one
not_together : (i j : ℕ) → AreTogether [] i j → ⊥
not_together i j (group, there, first, second) = let within = there.1 in omega (arith, within)

without_is : (singles : ℕ) → singles < 2 ^ 64 → IsClaims (record { singles = singles; series = 0; groups = None; pairs = [] })
without_is singles few = record {
  singles = few;
  series = lit< tt;
  groups = All-nil (IsGroup 0);
  groups_ordered = one_group_in_order [] (lit≤ tt);
  pairs = All-nil (IsApart 0 []);
  pairs_ordered = few_in_order [] (lit≤ tt);
  all = λ i j h. absurd (omega (arith, h));
}

-- the certificate of one single
of_one : SpellsCertificate (codes "ROOMCERT 1\nSINGLES 1\nSERIES 0\nDONE\n") (record { singles = 1; series = 0; groups = None; pairs = [] })
unfolding digits
of_one = record {
  claims = without_is 1 (lit< tt);
  lines = codes "ROOMCERT 1" ∷ codes "SINGLES 1" ∷ codes "SERIES 0" ∷ codes "DONE" ∷ [];
  are = record { groups = []; are_groups = tt; pairs = []; are_pairs = tt; is = refl };
  is = refl;
}

greatest : SpellsCertificate (codes "ROOMCERT 1\nSINGLES 18446744073709551615\nSERIES 0\nDONE\n") (record { singles = 18446744073709551615; series = 0; groups = None; pairs = [] })
unfolding digits
greatest = record {
  claims = without_is 18446744073709551615 (lit< tt);
  lines = codes "ROOMCERT 1" ∷ codes "SINGLES 18446744073709551615" ∷ codes "SERIES 0" ∷ codes "DONE" ∷ [];
  are = record { groups = []; are_groups = tt; pairs = []; are_pairs = tt; is = refl };
  is = refl;
}

-- of version 2 without groups
of_second : SpellsCertificate (codes "ROOMCERT 2\nSINGLES 1\nSERIES 0\nDONE\n") (record { singles = 1; series = 0; groups = Some []; pairs = [] })
unfolding digits
of_second = record {
  claims = record {
    singles = lit< tt;
    series = lit< tt;
    groups = All-nil (IsGroup 0);
    groups_ordered = one_group_in_order [] (lit≤ tt);
    pairs = All-nil (IsApart 0 []);
    pairs_ordered = few_in_order [] (lit≤ tt);
    all = λ i j h. absurd (omega (arith, h));
  };
  lines = codes "ROOMCERT 2" ∷ codes "SINGLES 1" ∷ codes "SERIES 0" ∷ codes "DONE" ∷ [];
  are = record { groups = []; are_groups = tt; pairs = []; are_pairs = tt; is = refl };
  is = refl;
}

-- a last line without its end isn't there
unended : BeginsWell (codes "ROOMCERT 1\nSINGLES 1\nSERIES 0\nDONE") 3
unfolding digits
unended = record {
  c = record { singles = 1; series = 0; groups = None; pairs = [] };
  rest = codes "DONE";
  claims = without_is 1 (lit< tt);
  lines = codes "ROOMCERT 1" ∷ codes "SINGLES 1" ∷ codes "SERIES 0" ∷ codes "DONE" ∷ [];
  are = record { groups = []; are_groups = tt; pairs = []; are_pairs = tt; is = refl };
  within = lit≤ tt;
  is = refl;
}

-- what follows the last line is one more line
more : BeginsWell (codes "ROOMCERT 1\nSINGLES 1\nSERIES 0\nDONE\n\n") 4
unfolding digits
more = record {
  c = record { singles = 1; series = 0; groups = None; pairs = [] };
  rest = 10 ∷ [];
  claims = without_is 1 (lit< tt);
  lines = codes "ROOMCERT 1" ∷ codes "SINGLES 1" ∷ codes "SERIES 0" ∷ codes "DONE" ∷ [];
  are = record { groups = []; are_groups = tt; pairs = []; are_pairs = tt; is = refl };
  within = lit≤ tt;
  is = refl;
}

-- ---- of one series

-- with this entry
one_is : (entry : Entry) → IsEntry entry → IsClaims (record { singles = 0; series = 1; groups = None; pairs = record { first = 1; second = 1; entry = entry } ∷ [] })
one_is entry good = record {
  singles = lit< tt;
  series = lit< tt;
  groups = All-nil (IsGroup 1);
  groups_ordered = one_group_in_order [] (lit≤ tt);
  pairs = All-cons (IsApart 1 []) own [] (record { pair = (lit< tt, lit≤ tt, lit≤ tt); entry = good; apart = not_together 1 1 }) (All-nil (IsApart 1 []));
  pairs_ordered = few_in_order (own ∷ []) (lit≤ tt);
  all = λ i j h. inr (own, (0, lit< tt, refl), omega (arith, h), omega (arith, h));
}
  where
    own : Pair
    own = record { first = 1; second = 1; entry = entry }

-- 2025-01-16T00:00:00Z
stamp : WritesStamp (codes "20250116T000000Z") (pos 1_736_985_600)
unfolding days_before_year days_of_months
stamp = (
  codes "20250116T000000",
  record {
    date = codes "20250116";
    time = codes "000000";
    number = pos 20_104;
    second = 0;
    on = record { year = 2025; month = 1; day = 16; first = lit≤ tt; last = lit≤ tt; date = (lit≤ tt, lit≤ tt, lit≤ tt, lit≤ tt); spelled = refl; counted = refl };
    at_second = record { hour = 0; minute = 0; second = 0; hours = lit≤ tt; minutes = lit≤ tt; seconds = lit≤ tt; spelled = refl; counted = refl };
    spelled = refl;
    counted = refl;
  },
  refl,
)

span_is_entry : IsEntry (Span (pos 1_736_985_600) 146_097)
span_is_entry = ((omega (arith, ints), omega (arith, ints)), lit< tt)

-- one that has SPAN
of_span : SpellsCertificate (codes "ROOMCERT 1\nSINGLES 0\nSERIES 1\nPAIR 1 1 SPAN 20250116T000000Z 146097\nDONE\n")
    (record { singles = 0; series = 1; groups = None; pairs = record { first = 1; second = 1; entry = Span (pos 1_736_985_600) 146_097 } ∷ [] })
unfolding digits
of_span = record {
  claims = one_is (Span (pos 1_736_985_600) 146_097) span_is_entry;
  lines = codes "ROOMCERT 1" ∷ codes "SINGLES 0" ∷ codes "SERIES 1" ∷ codes "PAIR 1 1 SPAN 20250116T000000Z 146097" ∷ codes "DONE" ∷ [];
  are = record {
    groups = [];
    are_groups = tt;
    pairs = codes "PAIR 1 1 SPAN 20250116T000000Z 146097" ∷ [];
    are_pairs = ((codes "SPAN 20250116T000000Z 146097", (codes "20250116T000000Z", stamp, refl), refl), tt);
    is = refl;
  };
  is = refl;
}

-- and by the residues modulo a week
of_res : SpellsCertificate (codes "ROOMCERT 1\nSINGLES 0\nSERIES 1\nPAIR 1 1 RES 604800\nDONE\n") (record { singles = 0; series = 1; groups = None; pairs = record { first = 1; second = 1; entry = Res 604_800 } ∷ [] })
unfolding digits
of_res = record {
  claims = one_is (Res 604_800) (lit< tt);
  lines = codes "ROOMCERT 1" ∷ codes "SINGLES 0" ∷ codes "SERIES 1" ∷ codes "PAIR 1 1 RES 604800" ∷ codes "DONE" ∷ [];
  are = record {
    groups = [];
    are_groups = tt;
    pairs = codes "PAIR 1 1 RES 604800" ∷ [];
    are_pairs = ((codes "RES 604800", refl, refl), tt);
    is = refl;
  };
  is = refl;
}

-- ---- of two series

two : (i j : ℕ) → IsPair 2 i j → ((i ≡ 1) × (j ≡ 1)) ⊎ (((i ≡ 1) × (j ≡ 2)) ⊎ ((i ≡ 2) × (j ≡ 2)))
two zero j h = absurd (omega (arith, h))
two (suc zero) zero h = absurd (omega (arith, h))
two (suc zero) (suc zero) h = inl (refl, refl)
two (suc zero) (suc (suc zero)) h = inr (inl (refl, refl))
two (suc zero) (suc (suc (suc j))) h = absurd (omega (arith, h))
two (suc (suc zero)) zero h = absurd (omega (arith, h))
two (suc (suc zero)) (suc zero) h = absurd (omega (arith, h))
two (suc (suc zero)) (suc (suc zero)) h = inr (inr (refl, refl))
two (suc (suc zero)) (suc (suc (suc j))) h = absurd (omega (arith, h))
two (suc (suc (suc i))) j h = absurd (omega (arith, h))

abbrev Before : Pair → Pair → Type 0
Before p q = IsPairBefore p.first p.second q.first q.second

-- each with itself, and the first with the second
of_two : SpellsCertificate (codes "ROOMCERT 1\nSINGLES 0\nSERIES 2\nPAIR 1 1 END\nPAIR 1 2 SPAN 20250116T000000Z 7\nPAIR 2 2 END\nDONE\n")
    (record {
      singles = 0;
      series = 2;
      groups = None;
      pairs = record { first = 1; second = 1; entry = End } ∷ record { first = 1; second = 2; entry = Span (pos 1_736_985_600) 7 } ∷ record { first = 2; second = 2; entry = End } ∷ [];
    })
unfolding digits
of_two = record {
  claims = record {
    singles = lit< tt;
    series = lit< tt;
    groups = All-nil (IsGroup 2);
    groups_ordered = one_group_in_order [] (lit≤ tt);
    pairs =
        All-cons (IsApart 2 []) own (both ∷ other ∷ []) (record { pair = (lit< tt, lit≤ tt, lit≤ tt); entry = tt; apart = not_together 1 1 })
        (All-cons (IsApart 2 []) both (other ∷ []) (record { pair = (lit< tt, lit≤ tt, lit≤ tt); entry = (span_is_entry.0, lit< tt); apart = not_together 1 2 })
        (All-cons (IsApart 2 []) other [] (record { pair = (lit< tt, lit≤ tt, lit≤ tt); entry = tt; apart = not_together 2 2 }) (All-nil (IsApart 2 []))));
    pairs_ordered =
        AllPairs-cons Before own (both ∷ other ∷ []) (All-cons (Before own) both (other ∷ []) (inr (refl, lit< tt)) (All-cons (Before own) other [] (inl (lit< tt)) (All-nil (Before own))))
        (AllPairs-cons Before both (other ∷ []) (All-cons (Before both) other [] (inl (lit< tt)) (All-nil (Before both))) (few_in_order (other ∷ []) (lit≤ tt)));
    all = λ i j h. elim (two i j h) [
      | inl (e, f) ↦ inr (own, (0, lit< tt, refl), sym e, sym f)
      | inr more ↦ elim more [ inl (e, f) ↦ inr (both, (1, lit< tt, refl), sym e, sym f) | inr (e, f) ↦ inr (other, (2, lit< tt, refl), sym e, sym f) ]
    ];
  };
  lines = codes "ROOMCERT 1" ∷ codes "SINGLES 0" ∷ codes "SERIES 2" ∷ codes "PAIR 1 1 END" ∷ codes "PAIR 1 2 SPAN 20250116T000000Z 7" ∷ codes "PAIR 2 2 END" ∷ codes "DONE" ∷ [];
  are = record {
    groups = [];
    are_groups = tt;
    pairs = codes "PAIR 1 1 END" ∷ codes "PAIR 1 2 SPAN 20250116T000000Z 7" ∷ codes "PAIR 2 2 END" ∷ [];
    are_pairs = (
      (codes "END", refl, refl),
      ((codes "SPAN 20250116T000000Z 7", (codes "20250116T000000Z", stamp, refl), refl), ((codes "END", refl, refl), tt)),
    );
    is = refl;
  };
  is = refl;
}
  where
    own : Pair
    own = record { first = 1; second = 1; entry = End }

    both : Pair
    both = record { first = 1; second = 2; entry = Span (pos 1_736_985_600) 7 }

    other : Pair
    other = record { first = 2; second = 2; entry = End }

-- ---- a group

-- 2025-03-01T00:00:00Z
march : WritesStamp (codes "20250301T000000Z") (pos 1_740_787_200)
unfolding days_before_year days_of_months
march = (
  codes "20250301T000000",
  record {
    date = codes "20250301";
    time = codes "000000";
    number = pos 20_148;
    second = 0;
    on = record { year = 2025; month = 3; day = 1; first = lit≤ tt; last = lit≤ tt; date = (lit≤ tt, lit≤ tt, lit≤ tt, lit≤ tt); spelled = refl; counted = refl };
    at_second = record { hour = 0; minute = 0; second = 0; hours = lit≤ tt; minutes = lit≤ tt; seconds = lit≤ tt; spelled = refl; counted = refl };
    spelled = refl;
    counted = refl;
  },
  refl,
)

march_is_clock : IsClockSeconds (pos 1_740_787_200)
march_is_clock = (omega (arith, ints), omega (arith, ints))

-- of two series, so that no line is about two of them
of_group : SpellsCertificate (codes "ROOMCERT 2\nSINGLES 0\nSERIES 2\nGROUP 20250301T000000Z 438291 1 2\nDONE\n")
    (record { singles = 0; series = 2; groups = Some (record { from = pos 1_740_787_200; days = 438_291; members = 1 ∷ 2 ∷ [] } ∷ []); pairs = [] })
unfolding digits
of_group = record {
  claims = record {
    singles = lit< tt;
    series = lit< tt;
    groups = All-cons (IsGroup 2) group [] good (All-nil (IsGroup 2));
    groups_ordered = one_group_in_order (group ∷ []) (lit≤ tt);
    pairs = All-nil (IsApart 2 (group ∷ []));
    pairs_ordered = few_in_order [] (lit≤ tt);
    all = λ i j h. elim (two i j h) [
      | inl (e, f) ↦ inl (group, (0, lit< tt, refl), (0, lit< tt, sym e), (0, lit< tt, sym f))
      | inr more ↦ elim more [
        | inl (e, f) ↦ inl (group, (0, lit< tt, refl), (0, lit< tt, sym e), (1, lit< tt, sym f))
        | inr (e, f) ↦ inl (group, (0, lit< tt, refl), (1, lit< tt, sym e), (1, lit< tt, sym f))
      ]
    ];
  };
  lines = codes "ROOMCERT 2" ∷ codes "SINGLES 0" ∷ codes "SERIES 2" ∷ codes "GROUP 20250301T000000Z 438291 1 2" ∷ codes "DONE" ∷ [];
  are = record {
    groups = codes "GROUP 20250301T000000Z 438291 1 2" ∷ [];
    are_groups = ((codes "20250301T000000Z", march, refl), tt);
    pairs = [];
    are_pairs = tt;
    is = refl;
  };
  is = refl;
}
  where
    group : Group
    group = record { from = pos 1_740_787_200; days = 438_291; members = 1 ∷ 2 ∷ [] }

    good : IsGroup 2 group
    good = record {
      from = march_is_clock;
      days = lit< tt;
      some = lit≤ tt;
      within = within_of 2 (1 ∷ 2 ∷ []) refl;
      ascending = ascending_of 2 0 (1 ∷ 2 ∷ []) refl;
    }

-- its numbers ascend
not_turned : IsNoGroup 2 (codes "20250301T000000Z 7 2 1")
unfolding digits
not_turned =
    group_other 2 (codes "20250301T000000Z 7 2 1") (codes "20250301T000000Z") (codes " 7 2 1") (lit< tt) refl refl (7 ∷ 2 ∷ 1 ∷ [])
    (All-cons (λ n. n < 2 ^ 64) 7 (2 ∷ 1 ∷ []) (lit< tt) (All-cons (λ n. n < 2 ^ 64) 2 (1 ∷ []) (lit< tt) (All-cons (λ n. n < 2 ^ 64) 1 [] (lit< tt) (All-nil (λ n. n < 2 ^ 64)))), refl)
    7 (2 ∷ 1 ∷ []) refl false refl refl

-- ---- what isn't an entry

-- words that begin with S are SPAN's, if an entry's
other_is_none : (words : List ℕ) → get_or words 0 0 ≡ 83 → IsNoSpan words → IsNoEntry words
other_is_none words first none = no_entry words other lacks none
  where
    other : words ≢ codes "END"
    other e = let end : 83 ≡ 69 = sym first ∙ ap (λ l. get_or l 0 0) e in omega (arith, end)

    lacks : Lacks (codes "RES ") words
    lacks rest e = let res : 83 ≡ 82 = sym first ∙ ap (λ l. get_or l 0 0) e in omega (arith, res)

-- second 60
no_second_60 : IsNoEntry (codes "SPAN 20250116T000060Z 7")
no_second_60 =
    other_is_none (codes "SPAN 20250116T000060Z 7") refl
    (no_stamp (codes "SPAN 20250116T000060Z 7") (codes "20250116T000060Z 7") refl (codes "20250116T000060Z") (codes " 7") refl refl (λ t w. not_sixty (codes "20250116T000060Z") t w refl))

-- a leading zero
no_zero : IsNoNumber (codes "07")
unfolding digits
no_zero n h e =
    let value : n ≡ 7 = sym (digits_value-decimal digits_model n h) ∙ ap (digits_value 10) (sym e) in
    let text : codes "07" ≡ codes "7" = e ∙ ap decimal value in
    let long = ap length text in
    omega (arith, long)

-- ---- the first wrong line

-- a line that begins with P, and is the fourth, is of a pair
of_pair : (c : Claims) (lines : List (List ℕ)) (line : List ℕ) → AreLines c lines → get_or lines 3 [] ≡ line → get_or line 0 0 ≡ 80 → (p : Pair) × Contains c.pairs p × IsPairLine p line
of_pair c lines line are at first = go (groups_of c) are.groups are.are_groups c.pairs are.pairs are.are_pairs (sym (ap (λ (ls : List (List ℕ)). get_or ls 3 []) are.is) ∙ at)
  where
    go : (gs : List Group) (groups : List (List ℕ)) → AllZip IsGroupLine gs groups → (ps : List Pair) (pairs : List (List ℕ)) → AllZip IsPairLine ps pairs
        → get_or (groups ++ (pairs ++ codes "DONE" ∷ [])) 0 [] ≡ line → (p : Pair) × Contains ps p × IsPairLine p line
    go [] [] w [] [] v e = absurd (let last : 68 ≡ 80 = ap (λ t. get_or t 0 0) e ∙ first in omega (arith, last))
    go [] [] w [] (l ∷ ls) v e = absurd v
    go [] [] w (p ∷ ps) [] v e = absurd v
    go [] [] w (p ∷ ps) (l ∷ ls) v e = (p, (0, omega arith, refl), subst (IsPairLine p) e v.0)
    go [] (l ∷ ls) w ps pairs v e = absurd w
    go (g ∷ gs) [] w ps pairs v e = absurd w
    go (g ∷ gs) (l ∷ ls) w ps pairs v e = absurd (let other : 71 ≡ 80 = sym (ap (λ t. get_or t 0 0) w.0.2) ∙ ap (λ t. get_or t 0 0) e ∙ first in omega (arith, other))

-- the line of a pair with second 60 is of none
no_pair : (p : Pair) → p.first < 2 ^ 64 → p.second < 2 ^ 64 → IsEntry p.entry → IsPairLine p (codes "PAIR 1 1 SPAN 20250116T000060Z 7") → ⊥
unfolding digits
no_pair p h k good (text, w, e) =
    let second : decimal p.second ++ 32 ∷ text ≡ codes "1 SPAN 20250116T000060Z 7" =
    after_number p.first 1 (decimal p.second ++ 32 ∷ text) (codes "1 SPAN 20250116T000060Z 7") h (lit< tt) (cancel (codes "PAIR ") (decimal p.first ++ 32 ∷ (decimal p.second ++ 32 ∷ text)) (codes "1 1 SPAN 20250116T000060Z 7") (sym e)) in
    let words : text ≡ codes "SPAN 20250116T000060Z 7" = after_number p.second 1 text (codes "SPAN 20250116T000060Z 7") k (lit< tt) second in
    no_second_60 p.entry good (subst (IsEntryText p.entry) words w)

-- so that one is the first wrong one
wrong_text : List ℕ
wrong_text = codes "ROOMCERT 1\nSINGLES 0\nSERIES 1\nPAIR 1 1 SPAN 20250116T000060Z 7\nDONE\n"

four_lines : List (List ℕ)
four_lines = codes "ROOMCERT 1" ∷ codes "SINGLES 0" ∷ codes "SERIES 1" ∷ codes "PAIR 1 1 SPAN 20250116T000060Z 7" ∷ []

begins_wrong : BeginsWell wrong_text 4 → ⊥
unfolding wrong_text four_lines
begins_wrong b =
    let taken : take 4 b.lines ≡ four_lines =
    same_lines (take 4 b.lines) four_lines b.rest (codes "DONE\n") (AreFree-take 4 b.lines (certificate_free b.c b.lines b.claims b.are)) (refl, (refl, (refl, (refl, tt)))) (length-take-le 4 b.lines b.within) (sym b.is) in
    let pair = of_pair b.c b.lines (codes "PAIR 1 1 SPAN 20250116T000060Z 7") b.are (taken_at b.lines ∙ ap (λ (ls : List (List ℕ)). get_or ls 3 []) taken) refl in
    let apart = All-contains (IsApart b.c.series (groups_of b.c)) b.c.pairs pair.0 b.claims.pairs pair.1 in
    let few = b.claims.series in
    let within = apart.pair in
    no_pair pair.0 (omega (arith, few, within)) (omega (arith, few, within)) apart.entry pair.2
  where
    taken_at : (ls : List (List ℕ)) → get_or ls 3 [] ≡ get_or (take 4 ls) 3 []
    taken_at [] = refl
    taken_at (a ∷ []) = refl
    taken_at (a ∷ c ∷ []) = refl
    taken_at (a ∷ c ∷ d ∷ []) = refl
    taken_at (a ∷ c ∷ d ∷ e ∷ ls) = refl

wrong_line : FirstWrong wrong_text 4
unfolding digits wrong_text
wrong_line = record {
  counted = lit< tt;
  none = λ c s.
      let all = ap length s.are.is in
      let groups = length-append s.are.groups (s.are.pairs ++ codes "DONE" ∷ []) in
      let pairs = length-append s.are.pairs (codes "DONE" ∷ []) in
      begins_wrong (record { c = c; rest = spelled (drop 4 s.lines) []; claims = s.claims; lines = s.lines; are = s.are; within = omega (arith, all, groups, pairs); is = s.is ∙ spelled-take 4 s.lines [] });
  before = record {
    c = record { singles = 0; series = 1; groups = None; pairs = record { first = 1; second = 1; entry = End } ∷ [] };
    rest = codes "PAIR 1 1 SPAN 20250116T000060Z 7\nDONE\n";
    claims = one_is End tt;
    lines = codes "ROOMCERT 1" ∷ codes "SINGLES 0" ∷ codes "SERIES 1" ∷ codes "PAIR 1 1 END" ∷ codes "DONE" ∷ [];
    are = record { groups = []; are_groups = tt; pairs = codes "PAIR 1 1 END" ∷ []; are_pairs = ((codes "END", refl, refl), tt); is = refl };
    within = lit≤ tt;
    is = refl;
  };
  here = begins_wrong;
}

-- ---- an old certificate

-- of a calendar of two series: the second comes first now, then a new one, then the first
module _ (old : Claims) (was : Confirmed) (a b c : Event) (made : IsCertificateMade was old) (series : was.series ≡ a ∷ b ∷ []) where
  numbers : List (Option ℕ)
  numbers = Some 2 ∷ None ∷ Some 1 ∷ []

  number_of : (i n : ℕ) → slice_get numbers i ≡ Some (Some n) → ((i ≡ 0) × (n ≡ 2)) ⊎ ((i ≡ 2) × (n ≡ 1))
  unfolding numbers
  number_of zero n e = inl (refl, sym (same_Some 2 n (same_Some (Some 2) (Some n) e)))
  number_of (suc zero) n e = absurd (none-some n (same_Some None (Some n) e))
  number_of (suc (suc zero)) n e = inr (refl, sym (same_Some 1 n (same_Some (Some 1) (Some n) e)))
  number_of (suc (suc (suc i))) n e = absurd (none-some (Some n) e)

  same_series : (i n : ℕ) (x : Event) → slice_get numbers i ≡ Some (Some n) → slice_get (b ∷ c ∷ a ∷ []) i ≡ Some x → IsSeriesAt was n x
  same_series i n x e at = elim (number_of i n e) [
    | inl (place, number) ↦ ap (slice_get was.series) (ap (λ k. k - 1) number) ∙ ap (λ xs. slice_get xs 1) series ∙ sym (ap (slice_get (b ∷ c ∷ a ∷ [])) place) ∙ at
    | inr (place, number) ↦ ap (slice_get was.series) (ap (λ k. k - 1) number) ∙ ap (λ xs. slice_get xs 0) series ∙ sym (ap (slice_get (b ∷ c ∷ a ∷ [])) place) ∙ at
  ]
