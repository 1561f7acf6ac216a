-- An object that was made of another is one that it is adapted to. For `is_right` and `adapt`.
use Rattle.std.proofs.Common.{◌≡◌, ◌∙◌, ap, sym, refl, subst, ℕ, Bool, true, false, ◌||◌, List, [], ◌∷◌, ◌++◌, ◌⊎◌, inl, inr}
use Rattle.std.specs.Prelude.{Option, Some, None, String, string_bytes, map}
use Rattle.std.specs.List.{list_any, IsDistinct, AllByRecursion}
use Rattle.std.specs.Map.{keys_of}
use Rattle.std.specs.Str.{bytes_eq}
use Rattle.std.proofs.lemmas.List.{append_assoc, append-nil, map_push}
use Rattle.std.proofs.lemmas.Option.{none-some, same_Some}
use Rattle.profile.specs.text.Trees.{Tree, tree_own}
use Rattle.profile.specs.doors.Uses.{NamesZone}
use Rattle.profile.specs.doors.Adapting.{TakesPlace, IsZoneGiven, IsOf, IsAdapted, without_zones}
use Rattle.cal_zones.specs.Kinds.{zone_of}
use Rattle.cal_doors.specs.Used.{held, AreUses}
use Rattle.cal_doors.specs.Adapted.{AreChanges, IsRightlyAdapted, MeansNow, AllMeanNow, AreGoingOn}
use Rattle.cal_doors.specs.declared.uses.Use.{Use}
use Rattle.cal_doors.specs.declared.choice.Choice.{Choice}
use Rattle.cal_doors.proofs.ChangesHeld.{same_text, is_same, by_name, held_first, held_other, some_held}

-- ---- each name that is used, one by one

module _ {X Y : Type 0} (before after : Tree) (uses : List (String X × Use)) (changes : List (String Y × Choice)) where
  -- what is used means what it has to, or is left
  abbrev pub GivenSofar : List (String X × Use) → Type 0
  GivenSofar left = (name : List ℕ) (u : Use) → held name uses ≡ Some u → MeansNow before after name (held name changes) ⊎ (held name left ≡ held name uses)

  left_more : (k : String X) (u : Use) (rest : List (String X × Use)) (name : List ℕ) → bytes_eq name (string_bytes k) ≡ false
      → MeansNow before after name (held name changes) ⊎ (held name ((k, u) ∷ rest) ≡ held name uses) → MeansNow before after name (held name changes) ⊎ (held name rest ≡ held name uses)
  left_more k u rest name other (inl means) = inl means
  left_more k u rest name other (inr e) = inr (sym (held_other name k u rest other) ∙ e)

  pub one_given : (k : String X) (u : Use) (rest : List (String X × Use)) → MeansNow before after (string_bytes k) (held (string_bytes k) changes) → GivenSofar ((k, u) ∷ rest) → GivenSofar rest
  one_given k u rest means s name v e =
      by_name name (string_bytes k) (λ same. inl (subst (λ n. MeansNow before after n (held n changes)) (sym same) means)) (λ other. left_more k u rest name other (s name v e))

  given : (name : List ℕ) (u : Use) → held name uses ≡ Some u → MeansNow before after name (held name changes) ⊎ (None ≡ held name uses) → MeansNow before after name (held name changes)
  given name u there (inl means) = means
  given name u there (inr e) = absurd (none-some u (e ∙ there))

  pub all_given : GivenSofar [] → AllMeanNow before after uses changes
  all_given s name u there = given name u there (s name u there)

  pub step_given : (left : List (String X × Use)) (k : String X) (u : Use) (rest : List (String X × Use)) → left ≡ (k, u) ∷ rest
      → MeansNow before after (string_bytes k) (held (string_bytes k) changes) → GivenSofar left → GivenSofar rest
  step_given left k u rest is means s = one_given k u rest means (subst GivenSofar is s)

  pub is_right : (octets : List ℕ) → IsOf octets after → tree_own after ≡ tree_own before → without_zones after ≡ without_zones before → AllMeanNow before after uses changes
      → IsRightlyAdapted before uses changes octets
  is_right octets is own others means = record {
    after = after;
    is = is;
    own = own;
    others = others;
    changed = λ name u c there e. subst (MeansNow before after name) e (means name u there);
    kept = λ name u there e. subst (MeansNow before after name) e (means name u there);
  }

-- ---- the names of the zones that go on

abbrev names_if : Bool → List ℕ → List (List ℕ)
names_if true name = name ∷ []
names_if false name = []

other_on : (name key : List ℕ) (b : Bool) (names : List (List ℕ)) → bytes_eq name key ≡ false → list_any (bytes_eq name) (names_if b key ++ names) ≡ list_any (bytes_eq name) names
other_on name key true names other = ap (λ b. b || list_any (bytes_eq name) names) other
other_on name key false names other = refl

-- of some changes the names of those that go on
abbrev pub names_on : {Y : Type 0} → List (String Y × Choice) → List (List ℕ)
names_on [] = []
names_on ((k, d) ∷ rest) = names_if d.goes_on (string_bytes k) ++ names_on rest

-- with the names so far those of the changes that are left are all
abbrev pub NamedSofar : {Y Z : Type 0} → List (String Y × Choice) → List (String Y × Choice) → List (String Z) → Type 0
NamedSofar changes left names = map string_bytes names ++ names_on left ≡ names_on changes

pub first_named : {Y Z : Type 0} (changes left : List (String Y × Choice)) (names : List (String Z)) → names ≡ [] → left ≡ changes → NamedSofar changes left names
first_named {Y} {Z} changes left names none all = ap (λ (l : List (String Z)). map string_bytes l ++ names_on left) none ∙ ap names_on all

module _ {Y Z : Type 0} (changes left rest : List (String Y × Choice)) (k : String Y) (d : Choice) (is : left ≡ (k, d) ∷ rest) where
  pub step_other : (names : List (String Z)) → d.goes_on ≡ false → NamedSofar changes left names → NamedSofar changes rest names
  step_other names ends s =
      ap (λ b. map string_bytes names ++ (names_if b (string_bytes k) ++ names_on rest)) (sym ends) ∙ ap (λ l. map string_bytes names ++ names_on l) (sym is) ∙ s

  pub step_named : (names new : List (String Z)) (added : String Z) → new ≡ names ++ added ∷ [] → string_bytes added ≡ string_bytes k → d.goes_on ≡ true
      → NamedSofar changes left names → NamedSofar changes rest new
  step_named names new added more same on s =
      ap (λ (l : List (String Z)). map string_bytes l ++ names_on rest) more
      ∙ ap (λ l. l ++ names_on rest) (map_push string_bytes names added)
      ∙ append_assoc (map string_bytes names) (string_bytes added ∷ []) (names_on rest)
      ∙ ap (λ n. map string_bytes names ++ n ∷ names_on rest) same
      ∙ ap (λ b. map string_bytes names ++ (names_if b (string_bytes k) ++ names_on rest)) (sym on)
      ∙ ap (λ l. map string_bytes names ++ names_on l) (sym is) ∙ s

module _ {Y : Type 0} where
  -- where no change has the name, it isn't among those that go on
  not_on : (k : String Y) (es : List (String Y × Choice)) → AllByRecursion (λ (y : String Y). same_text k y ≡ false) (keys_of es) → list_any (bytes_eq (string_bytes k)) (names_on es) ≡ false
  not_on k [] all = refl
  not_on k ((e, d) ∷ es) all = other_on (string_bytes k) (string_bytes e) d.goes_on (names_on es) all.0 ∙ not_on k es all.1

  first_on : (k : String Y) (es : List (String Y × Choice)) (b : Bool) → AllByRecursion (λ (y : String Y). same_text k y ≡ false) (keys_of es)
      → list_any (bytes_eq (string_bytes k)) (names_if b (string_bytes k) ++ names_on es) ≡ b
  first_on k es true all = ap (λ b. b || list_any (bytes_eq (string_bytes k)) (names_on es)) (is_same (string_bytes k))
  first_on k es false all = not_on k es all

  -- a change goes on exactly where its name is among them
  exactly_on : (es : List (String Y × Choice)) → IsDistinct same_text (keys_of es) → AreGoingOn es (names_on es)
  unfolding IsDistinct
  exactly_on [] distinct name c e = absurd (none-some c e)
  exactly_on ((k, d) ∷ es) distinct name c e =
      by_name name (string_bytes k)
      (λ same.
      let is : d ≡ c = same_Some d c (sym (held_first k d es) ∙ ap (λ n. held n ((k, d) ∷ es)) (sym same) ∙ e) in
      ap (λ n. list_any (bytes_eq n) (names_if d.goes_on (string_bytes k) ++ names_on es)) same ∙ first_on k es d.goes_on distinct.0 ∙ ap (λ (x : Choice). x.goes_on) is)
      (λ other. other_on name (string_bytes k) d.goes_on (names_on es) other ∙ exactly_on es distinct.1 name c (sym (held_other name k d es other) ∙ e))

-- nothing is left
pub all_named : {Y Z : Type 0} (changes left : List (String Y × Choice)) (names : List (String Z)) → left ≡ [] → IsDistinct same_text (keys_of changes) → NamedSofar changes left names
    → AreGoingOn changes (map string_bytes names)
all_named changes left names none distinct s =
    subst (AreGoingOn changes) (sym s ∙ ap (λ l. map string_bytes names ++ names_on l) none ∙ append-nil (map string_bytes names)) (exactly_on changes distinct)

-- ---- the whole

module _ {X Y : Type 0} (listed : Option Tree) (octets adapted : List ℕ) (before : Tree) (uses : List (String X × Use)) (changes : List (String Y × Choice)) (names : List (List ℕ))
    (are_uses : AreUses before uses) (are_changes : AreChanges listed before uses changes) (right : IsRightlyAdapted before uses changes adapted)
    (going_on : AreGoingOn changes names) where
  by_change : (name : List ℕ) (u : Use) (o : Option Choice) → held name uses ≡ Some u → held name changes ≡ o → IsZoneGiven listed before right.after name (list_any (bytes_eq name) names)
  by_change name u (Some c) used e =
      let now = right.changed name u c used e in
      record {
        part = now.0;
        there = now.1;
        zone = zone_of c.zone;
        says = now.2;
        same = inr (are_changes.unread name c e, subst (λ b. TakesPlace listed before name b (zone_of c.zone)) (sym (going_on name c e)) (are_changes.replaced name c e));
      }
  by_change name u None used e =
      let now = right.kept name u used e in
      let read = are_changes.kept name u used e in
      record {
        part = read.0;
        there = now.1 ∙ sym now.2 ∙ read.2;
        zone = read.1;
        says = read.3;
        same = inl read.2;
      }

  each_given : (name : List ℕ) → NamesZone before name → IsZoneGiven listed before right.after name (list_any (bytes_eq name) names)
  each_given name there =
      let w = are_uses.covered name there.0 there.1 there.2 there.3 in
      by_change name w.0 (held name changes) w.1 refl

  pub is_adapted : IsOf octets before → (changes ≡ [] → ⊥) → IsAdapted listed octets names adapted
  is_adapted came some =
      let c = some_held changes some in
      let u = are_changes.used c.0 c.1 c.2 in
      record {
        before = before;
        came = came;
        after = right.after;
        goes = right.is;
        own = right.own;
        others = right.others;
        zones = each_given;
        unread = c.0;
        named = are_uses.named c.0 u.0 u.1;
        needed = are_changes.unread c.0 c.1 c.2;
      }
