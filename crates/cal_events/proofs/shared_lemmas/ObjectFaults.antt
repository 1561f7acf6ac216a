-- Octets that aren't an object within the limits of a message: which fault they have, and that those that are one have none.
-- Behind Event::read of event, one_meeting of event, MeetingComponents::of of meeting_components, MeetingComponents::read of meeting_components, MeetingComponents::read_in_order of meeting_components, judge_meeting of meeting_components and 1 more.
use Rattle.std.proofs.Common.{◌≡◌, ◌∙◌, ℕ, ◌<◌, Bool, true, false, not, ◌&&◌, ◌||◌, ◌==◌, nat_lt, List, codes, subst, sym, refl, ap, inl, inr, arith}
use Rattle.std.proofs.lemmas.Bool.{true≢false, not-true}
use Rattle.std.proofs.lemmas.Bool.Decides.{nat_tests}
use Rattle.ical_lines.specs.Fault.{RefusesBy}
use Rattle.ical_lines.specs.declared.fault.Fault.{Fault}
use Rattle.ical_lines.specs.declared.fault.Fault.TheVariants.{Refused, Memory}
use Rattle.ical_tree.specs.Tree.{component_name, component_lines, tree_of, count_children}
use Rattle.ical_tree.specs.Reading.{SpellsOf, IsRefusalOf, calendar_has}
use Rattle.ical_tree.specs.declared.component.Component.{Component}
use Rattle.ical_tree.proofs.TreeOfLemmas.{tree_of-own, spells_tree, count_tree}
use Rattle.profile.specs.text.Lines.{logical_lines, text_has}
use Rattle.profile.specs.text.Objects.{SpellsTree, IsObject, has_version, lines_have, count_inside, most_events, is_calendar_name}
use Rattle.profile.specs.text.Trees.{Tree, tree_own}
use Rattle.cal_events.proofs.reading_lemmas.OneText.{OneTree}

-- the tree of a text has no VERSION, or two, or another
abbrev pub HasNoVersion : List ℕ → Tree → Type 0
HasNoVersion octets t = SpellsTree 7 t (logical_lines octets) × (has_version (tree_own t) ≡ false)

-- it has more VEVENTs than a message may have
abbrev pub HasManyEvents : List ℕ → Tree → Type 0
HasManyEvents octets t =
    SpellsTree 7 t (logical_lines octets) × (most_events < count_inside (codes "VEVENT") t)

-- ---- where octets are refused

-- 25 is reported only where there is no fault 24
weaker : (k a b d v : Bool) → (k && (a || (b && (d && v)))) ≡ true → (a || (b && d)) ≡ true
weaker false a b d v h = absurd (cc)
weaker true true b d v h = refl
weaker true false false d v h = h
weaker true false true false v h = h
weaker true false true true v h = refl

module _ (octets : List ℕ) (P : ℕ → Type 0) (version : (t : Tree) → HasNoVersion octets t → P 24) (many : (t : Tree) → HasManyEvents octets t → P 25) where
  tree_fault : (n : ℕ) (c : Component) → SpellsOf 7 c (logical_lines octets) → calendar_has true n c ≡ true → P n
  tree_fault n c s h =
      at ((n == 24) && not (has_version (component_lines c))) ((n == 25) && nat_lt 200 count) refl refl
      (weaker (is_calendar_name (component_name c)) ((n == 24) && not (has_version (component_lines c))) (n == 25) (nat_lt 200 count) (has_version (component_lines c)) h)
    where
      count : ℕ
      count = count_children (codes "VEVENT") c

      at : (a b : Bool) → ((n == 24) && not (has_version (component_lines c))) ≡ a → ((n == 25) && nat_lt 200 count) ≡ b → (a || b) ≡ true → P n
      at true b e f g =
          let v : not (has_version (component_lines c)) ≡ true = grind (arith, nat_tests) in
          let is : n ≡ 24 = grind (arith, nat_tests) in
          subst P (sym is) (version (tree_of c) (spells_tree 7 c (logical_lines octets) s, ap has_version (tree_of-own c) ∙ not-true (has_version (component_lines c)) v))
      at false true e f g =
          let more : 200 < count = grind (arith, nat_tests) in
          let is : n ≡ 25 = grind (arith, nat_tests) in
          subst P (sym is) (many (tree_of c) (spells_tree 7 c (logical_lines octets) s, subst (λ k. 200 < k) (sym (count_tree (codes "VEVENT") c)) more))
      at false false e f g = absurd (cc)

  pub no_object : ((n : ℕ) → text_has true n octets ≡ true → P n) → ((n : ℕ) → lines_have n (logical_lines octets) ≡ true → P n) → (f : Fault) → IsRefusalOf true octets f → RefusesBy P f
  no_object line tree Memory h = tt
  no_object line tree (Refused x) (inl h) = line x.number h
  no_object line tree (Refused x) (inr (inl h)) = tree x.number h
  no_object line tree (Refused x) (inr (inr (c, (s, h)))) = tree_fault x.number c s h

-- ---- where they are an object

module _ (one : OneTree) (octets : List ℕ) (s : Tree) (object : IsObject true s (logical_lines octets)) where
  pub has_version_only : (t : Tree) → HasNoVersion octets t → ⊥
  has_version_only t (spelled, h) =
      let same : s ≡ t = one 7 7 (logical_lines octets) s t object.spelled spelled in
      true≢false (sym object.version ∙ (ap (λ (x : Tree). has_version (tree_own x)) same ∙ h))

  pub has_few_events : (t : Tree) → HasManyEvents octets t → ⊥
  has_few_events t (spelled, h) =
      let same : t ≡ s = sym (one 7 7 (logical_lines octets) s t object.spelled spelled) in
      let many : most_events < count_inside (codes "VEVENT") s = subst (λ (x : Tree). most_events < count_inside (codes "VEVENT") x) same h in
      let over : nat_lt most_events (count_inside (codes "VEVENT") s) ≡ true = grind (arith, nat_tests) in
      true≢false (sym over ∙ object.events)
