-- Groups, one after another: which may come next, and where none does.
use Rattle.std.proofs.Common.{◌≡◌, ℕ, ◌-◌, ◌<◌, ◌≤◌, Bool, true, false, not, List, [], ◌∷◌, ◌++◌, Contains, length, get_or, subst, sym, refl, ap, ◌∙◌, inl, inr, arith}
use Rattle.std.specs.Prelude.{◌⊎◌, ◌↔◌, AllPairs, Option, Some, None, IfSome, IsTrue, is_some, codes}
use Rattle.std.specs.List.{slice_get, list_any}
use Rattle.std.proofs.lemmas.Bool.{cases_order, true≢false}
use Rattle.std.proofs.lemmas.Option.{slice_get-get_or}
use Rattle.std.proofs.lemmas.List.Elements.{All-push}
use Rattle.std.proofs.lemmas.List.Folds.{list_any_at, Any-from_list_any}
use Rattle.profile.specs.checker.Certificates.{Group, IsGroup, IsGroupLine, AreInOrder, first_of, spelled}
use Rattle.clash_cert.specs.Reading.{IsGroupAt}
use Rattle.clash_cert.specs.Walked.{member_of, IsOfGroups, AreApart, IsNextGroup, IsAfterLast, HasGroupLines, BreaksGroups}
use Rattle.clash_cert.specs.declared.members.Member.{Member}
use Rattle.clash_cert.specs.declared.members.Members.{Members}
use Rattle.clash_cert.proofs.TextLemmas.{spelled-append}
use Rattle.clash_cert.proofs.ListLemmas.{zip_append, pairs_push}
use Rattle.clash_cert.proofs.MemberLemmas.{place_of, of_place}

-- ---- a group that comes after the last one comes after each

after_last : (groups : List Group) (group : Group) → AllPairs AreInOrder groups → IsAfterLast groups group → (g : Group) → Contains groups g → first_of g < first_of group
after_last groups group order after g (k, w, e) =
    let last : Group = get_or groups (length groups - 1) g in
    let here : slice_get groups (length groups - 1) ≡ Some last = slice_get-get_or groups (length groups - 1) g (omega (arith, w)) in
    let later : first_of last < first_of group = subst (λ (x : Option Group). IfSome x (λ y. first_of y < first_of group)) here after in
    elim (cases_order k (length groups - 1)) [
      | inl same ↦ subst (λ (x : Group). first_of x < first_of group) (ap (λ i. get_or groups i g) (sym same) ∙ e) later
      | inr v ↦ elim v [
        | inl lt ↦
            let first = (subst (λ (x : Group). AreInOrder x last) e (order k (length groups - 1) g lt (omega (arith, w)))).first in
            omega (arith, first, later)
        | inr lt ↦ absurd (omega (arith, lt, w))
      ]
    ]

before_last : (groups : List Group) (group : Group) → IsNextGroup groups group → IsAfterLast groups group
before_last groups group next = go (slice_get groups (length groups - 1)) refl
  where
    go : (found : Option Group) → slice_get groups (length groups - 1) ≡ found → IfSome (slice_get groups (length groups - 1)) (λ last. first_of last < first_of group)
    go None e = subst (λ (x : Option Group). IfSome x (λ last. first_of last < first_of group)) (sym e) tt
    go (Some last) e =
        subst (λ (x : Option Group). IfSome x (λ last. first_of last < first_of group)) (sym e) (next last (of_place groups (length groups - 1) last e)).first

-- ---- and shares no series

module _ (groups : List Group) (members : Members) (of : IsOfGroups groups members) (numbers : List ℕ) where
  shares_none : list_any (λ i. is_some (member_of members i)) numbers ≡ false → AreApart groups numbers
  shares_none none g i c d (k, w, e) =
      let place = place_of groups g c in
      let m = of.all place.0 i g place.1 d in
      let at : is_some (member_of members (get_or numbers k i)) ≡ true = ap (λ j. is_some (member_of members j)) e ∙ ap is_some m.1 in
      true≢false (sym (list_any_at (λ i. is_some (member_of members i)) numbers k i w at) ∙ none)

  shares_one : list_any (λ i. is_some (member_of members i)) numbers ≡ true → AreApart groups numbers → ⊥
  shares_one some apart =
      let any = Any-from_list_any (λ i. is_some (member_of members i)) numbers some in
      go any.1 (any.0, any.2, any.3) (member_of members any.1) refl (sym any.4)
    where
      go : (i : ℕ) → Contains numbers i → (m : Option Member) → member_of members i ≡ m → true ≡ is_some (member_of members i) → ⊥
      go i c None e t = true≢false (t ∙ ap is_some e)
      go i c (Some m) e t =
          let w = of.known i m e in
          apart w.group i (of_place groups m.group w.group w.is) (w.run i (omega arith) w.least) c

next_from : (groups : List Group) (group : Group) → AllPairs AreInOrder groups → IsAfterLast groups group → AreApart groups group.members → IsNextGroup groups group
next_from groups group order after apart g c = record { first = after_last groups group order after g c; apart = λ i a b. apart g i c a b }

pub next_apart : (groups : List Group) (group : Group) → IsNextGroup groups group → AreApart groups group.members
next_apart groups group next g i c a b = (next g c).apart i a b

pub may_follow_then : (groups : List Group) (group : Group) (members : Members) (b : Bool) → IsAfterLast groups group → b ≡ list_any (λ i. is_some (member_of members i)) group.members
    → IsOfGroups groups members → AllPairs AreInOrder groups → IsTrue (not b) ↔ IsNextGroup groups group
may_follow_then groups group members true after e of order =
    ((λ f. absurd (true≢false (sym f))), (λ next. absurd (shares_one groups members of group.members (sym e) (next_apart groups group next))))
may_follow_then groups group members false after e of order =
    ((λ f. next_from groups group order after (shares_none groups members of group.members (sym e))), (λ next. refl))

pub may_follow_else : (groups : List Group) (group : Group) (members : Members) (b : Bool) → IsTrue b ↔ IsAfterLast groups group → b ≡ false → IsOfGroups groups members → AllPairs AreInOrder groups
    → IsTrue b ↔ IsNextGroup groups group
may_follow_else groups group members true after e of order = absurd (true≢false e)
may_follow_else groups group members false after e of order = ((λ f. absurd (true≢false (sym f))), (λ next. absurd (true≢false (sym (after.1 (before_last groups group next))))))

pub not_next : (groups : List Group) (group : Group) (b : Bool) → IsTrue b ↔ IsNextGroup groups group → b ≡ false → IsNextGroup groups group → ⊥
not_next groups group b may e next = true≢false (sym (may.1 next) ∙ e)

-- ---- their lines

pub groups_more : (n : ℕ) (groups : List Group) (group : Group) (bytes rest left : List ℕ) → HasGroupLines n groups bytes rest → IsGroupAt n group rest left → IsNextGroup groups group
    → HasGroupLines n (groups ++ group ∷ []) bytes left
groups_more n groups group bytes rest left w at next = record {
  good = All-push (IsGroup n) groups group w.good at.good;
  ordered = pairs_push AreInOrder groups group w.ordered next;
  lines = w.lines ++ at.line ∷ [];
  of = zip_append IsGroupLine groups (group ∷ []) w.lines (at.line ∷ []) w.of (at.of, tt);
  is = w.is ∙ ap (spelled w.lines) at.is ∙ sym (spelled-append w.lines (at.line ∷ []) left);
}

pub breaks_behind : (n : ℕ) (groups : List Group) (group : Group) (bytes rest left : List ℕ) → HasGroupLines n groups bytes rest → (words : List ℕ) × (rest ≡ codes "GROUP " ++ words) → IsGroupAt n group rest left
    → (IsNextGroup groups group → ⊥) → BreaksGroups n bytes rest
breaks_behind n groups group bytes rest left w begins at other = record { groups = groups; lines = w; begins = begins; lacks = inr (group, left, at, other) }
