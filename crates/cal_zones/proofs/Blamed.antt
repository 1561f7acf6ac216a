-- At which line a VTIMEZONE is refused: what is known of a line, said of its part and of the whole.
use Rattle.std.proofs.Common.{◌≡◌, ◌∙◌, ap, sym, subst, refl, inl, inr, ◌⊎◌, ℕ, ◌<◌, ◌≤◌, max, true, List, codes, arith, Result, Ok, Err, IfOk, IfErr, IsErrAnd}
use Rattle.std.specs.Prelude.{Contains, MatchResult}
use Rattle.std.proofs.Math.Nat.{max-eq_left, max-eq_right}
use Rattle.std.proofs.lemmas.Bool.{cases_lt}
use Rattle.std.proofs.lemmas.Result.{IfErr-at_err}
use Rattle.std.proofs.lemmas.List.Elements.{All-contains, filter_passes, Contains-append_right}
use Rattle.ical_lines.specs.Fault.{RefusesBy, RefusesWhere, IsPlacedAt}
use Rattle.ical_lines.specs.declared.fault.Fault.{Fault}
use Rattle.ical_lines.specs.declared.fault.Fault.TheVariants.{Refused, Memory}
use Rattle.ical_lines.specs.declared.fault.Refusal.{Refusal}
use Rattle.ical_tree.specs.Own.{own_numbered, numbered_own}
use Rattle.ical_tree.specs.Tree.{component_begun, component_numbered, component_children, numbered_of, zone_of_component}
use Rattle.ical_tree.specs.declared.properties.Properties.{Properties}
use Rattle.ical_tree.specs.declared.component.Component.{Component}
use Rattle.profile.specs.faults.Blame.{IsSecond, Numbered}
use Rattle.profile.specs.events.Properties.{is_of, lines_named}
use Rattle.profile.specs.series.ZoneBlame.{is_offset, is_shape_fault, PartBlame, ZoneBlame}
use Rattle.profile.specs.series.ZoneTexts.{IsNoOffsetLine, IsPairFault, IsSingleFault}
use Rattle.profile.specs.series.Zones.{Observance}
use Rattle.cal_zones.specs.Read.{StartFault}
use Rattle.cal_zones.proofs.PartLemmas.{mapped}

-- ---- what was placed at a line

pub placed_ok : {T E : Type 0} (read placed : Result T E) (P : T → Type 0) (Q : E → Type 0) → MatchResult placed (λ v. read ≡ Ok v) Q → IfOk read P → IfOk placed P
placed_ok read (Ok v) P Q is holds = subst (λ found. IfOk found P) is holds
placed_ok read (Err e) P Q is holds = tt

-- a line whose value isn't one has this number, at the line
pub wrong_at : {T : Type 0} (n : ℕ) (No : Type 0) (line : ℕ) (read placed : Result T Refusal) → MatchResult placed (λ v. read ≡ Ok v) (IsPlacedAt line read)
    → IfErr read (λ e. e.number ≡ n) → IfErr read (λ _. No) → IfErr placed (λ e. (e.number ≡ n) × (e.line ≡ line) × No)
wrong_at n No line read (Ok v) is number none = tt
wrong_at n No line read (Err e) (r, was, so) number none = rw so (IfErr-at_err (λ f. f.number ≡ n) was number, refl, IfErr-at_err (λ _. No) was none)

-- where it is isn't asked
pub not_once : {A B C D : Type 0} → (A × C) ⊎ (B × D) → A ⊎ B
not_once (inl (a, _)) = inl a
not_once (inr (b, _)) = inr b

-- ---- the exit of a `?`

pub where_weaker : (P Q : ℕ → ℕ → Type 0) (e : Fault) → ((n at : ℕ) → Q n at → P n at) → RefusesWhere Q e → RefusesWhere P e
where_weaker P Q Memory g h = tt
where_weaker P Q (Refused x) g h = g x.number x.line h

pub where_exit : {T : Type 0} (r : Result T Fault) (P Q : ℕ → ℕ → Type 0) (e : Fault) → ((n at : ℕ) → Q n at → P n at) → IsErrAnd r (λ f. f ≡ e) → RefusesWhere Q e → IfErr r (RefusesWhere P)
where_exit (Ok x) P Q e g is h = tt
where_exit (Err f) P Q e g is h = subst (RefusesWhere P) (sym is) (where_weaker P Q e g h)

pub by_where : (P : ℕ → ℕ → Type 0) (Q : ℕ → Type 0) (e : Fault) → ((n at : ℕ) → P n at → Q n) → RefusesWhere P e → RefusesBy Q e
by_where P Q Memory g h = tt
by_where P Q (Refused x) g h = g x.number x.line h

-- ---- a part

pub is_named : (name : List ℕ) (lines : List (List ℕ)) (line : List ℕ) → Contains (lines_named name lines) line → is_of name line ≡ true
is_named name lines line there = All-contains (λ x. is_of name x ≡ true) (lines_named name lines) line (filter_passes (is_of name) lines) there

module _ (part : Numbered) where
  -- a line of it that isn't accepted
  pub shape_blame : (number : ℕ) (line : List ℕ) (n at : ℕ) → Contains part.lines (number, line) → at ≡ number → is_shape_fault n ≡ true → PartBlame part n at
  shape_blame number line n at there e shape = inr (shape, inr (record { line = line; among = rw e there; holds = tt }))

  pub start_blame : (number : ℕ) (line : List ℕ) (n at : ℕ) → Contains part.lines (number, line) → is_of (codes "DTSTART") line ≡ true → at ≡ number → StartFault line n → PartBlame part n at
  start_blame number line n at there named e (inl (is, _)) = shape_blame number line n at there e (ap is_shape_fault is)
  start_blame number line n at there named e (inr (is, wrong)) = inl (record { line = line; among = rw e there; holds = inl (named, is, wrong) })

  pub offset_blame : (number : ℕ) (line : List ℕ) (n at : ℕ) → Contains part.lines (number, line) → is_offset line ≡ true → at ≡ number → n ≡ 13 → IsNoOffsetLine line → PartBlame part n at
  offset_blame number line n at there named e is wrong = inl (record { line = line; among = rw e there; holds = inr (named, is, wrong) })

  -- a property that is missing: the BEGIN; that is there twice: the second
  pub once_blame : {A B : Type 0} (name : List ℕ) (n at : ℕ) → n ≡ 40 → (A × (at ≡ part.begun)) ⊎ (B × IsSecond (is_of name) part.lines at) → PartBlame part n at
  once_blame name n at is (inl (_, e)) = inr (ap is_shape_fault is, inl e)
  once_blame name n at is (inr (_, second)) = shape_blame at second.line n at (among second) refl (ap is_shape_fault is)
    where
      among : {at : ℕ} (second : IsSecond (is_of name) part.lines at) → Contains part.lines (at, second.line)
      among second = rw second.are (Contains-append_right second.before _ _ (0, omega arith, refl))

-- the lines that were read of a component are its own
pub own_part : (properties : Properties) (part : Component) → own_numbered properties ≡ component_numbered part → properties.begun ≡ component_begun part
    → numbered_own properties ≡ numbered_of part
own_part properties part lines begun = rw (lines, begun) refl

-- ---- the whole

pub in_part : (zone part : Component) (n at : ℕ) → Contains (component_children zone) part → PartBlame (numbered_of part) n at → ZoneBlame (zone_of_component zone) n at
in_part zone part n at there h = inr (numbered_of part, mapped numbered_of (component_children zone) part there, h)

-- the later of two parts
pub later_part : (zone p q : Component) (n at : ℕ) → Contains (component_children zone) p → Contains (component_children zone) q → is_shape_fault n ≡ true
    → at ≡ max (component_begun p) (component_begun q) → ZoneBlame (zone_of_component zone) n at
later_part zone p q n at there other shape e = later (cases_lt (component_begun p) (component_begun q))
  where
    later : (component_begun p < component_begun q) ⊎ (component_begun q ≤ component_begun p) → ZoneBlame (zone_of_component zone) n at
    later (inl less) = in_part zone q n at other (inr (shape, inl (e ∙ max-eq_right (omega (arith, less)))))
    later (inr more) = in_part zone p n at there (inr (shape, inl (e ∙ max-eq_left more)))

pub single_shape : (n : ℕ) (a : Observance) → IsSingleFault n a → is_shape_fault n ≡ true
single_shape n a (inl (is, _)) = ap is_shape_fault is
single_shape n a (inr (is, _)) = ap is_shape_fault is

pub pair_shape : (n : ℕ) (a b : Observance) → IsPairFault n a b → is_shape_fault n ≡ true
pair_shape n a b (inl (is, _)) = ap is_shape_fault is
pair_shape n a b (inr (inl (is, _))) = ap is_shape_fault is
pair_shape n a b (inr (inr (is, _))) = ap is_shape_fault is
