-- The changes of an object, made name by name. For `changes_of`.
use Rattle.std.proofs.Common.{◌≡◌, ◌∙◌, ap, sym, refl, subst, ℕ, false, cond, List, [], ◌∷◌, ◌⊎◌, inl, inr}
use Rattle.std.specs.Prelude.{Option, Some, None, String, string_bytes}
use Rattle.std.specs.List.{IsDistinct}
use Rattle.std.specs.Map.{keys_of}
use Rattle.std.specs.Str.{bytes_eq}
use Rattle.std.proofs.lemmas.Option.{none-some, same_Some}
use Rattle.indexmap.specs.IndexMap.{insert_entry}
use Rattle.profile.specs.text.Trees.{Tree}
use Rattle.profile.specs.doors.Adapting.{TakesPlace, IsZoneUnread}
use Rattle.cal_zones.specs.Kinds.{zone_of}
use Rattle.cal_doors.specs.Used.{held, AreUses}
use Rattle.cal_doors.specs.Adapted.{IsZoneReadable, IsUseFor, AreChanges}
use Rattle.cal_doors.specs.declared.uses.Use.{Use}
use Rattle.cal_doors.specs.declared.choice.Choice.{Choice}
use Rattle.profile.specs.doors.Uses.{EventBeginsBy}
use Rattle.cal_doors.proofs.ChangesHeld.{same_text, is_same, by_name, held_put, held_first, held_other, once, later_distinct}

-- what is held as a use is about the name
pub use_for : {Y : Type 0} (object : Tree) (uses : List (String Y × Use)) (name : List ℕ) (u : Use) → AreUses object uses → held name uses ≡ Some u → IsUseFor object name u
use_for object uses name u are e = record {
  from_first = λ lines line there is.
      let w = are.covered name lines line there is in
      subst (λ (v : Use). EventBeginsBy name lines v.first) (same_Some w.0 u (sym w.1 ∙ e)) w.2.from_first;
  to_last = λ end h lines line there is.
      let w = are.covered name lines line there is in
      w.2.to_last end (ap (λ (v : Use). v.last) (same_Some w.0 u (sym w.1 ∙ e)) ∙ h);
}

was_used : {X : Type 0} (object : Tree) (uses : List (String X × Use)) (name : List ℕ) (u : Use) → held name uses ≡ Some u → IsZoneReadable object name ⊎ (None ≡ held name uses)
    → IsZoneReadable object name
was_used object uses name u there (inl readable) = readable
was_used object uses name u there (inr e) = absurd (none-some u (e ∙ there))

module _ {X Y : Type 0} (listed : Option Tree) (object : Tree) (uses : List (String X × Use)) where
  -- the changes so far are right, and what is used and not changed is read by a room, or left
  pub record Sofar (left : List (String X × Use)) (changes : List (String Y × Choice)) : Type 0 where
    pub distinct : IsDistinct same_text (keys_of left)
    pub among : (name : List ℕ) (u : Use) → held name left ≡ Some u → held name uses ≡ Some u
    pub used : (name : List ℕ) (c : Choice) → held name changes ≡ Some c → (u : Use) × (held name uses ≡ Some u)
    pub unread : (name : List ℕ) (c : Choice) → held name changes ≡ Some c → IsZoneUnread object name
    pub replaced : (name : List ℕ) (c : Choice) → held name changes ≡ Some c → TakesPlace listed object name c.goes_on (zone_of c.zone)
    pub kept : (name : List ℕ) → held name changes ≡ None → IsZoneReadable object name ⊎ (held name left ≡ held name uses)

  pub none_yet : IsDistinct same_text (keys_of uses) → Sofar uses []
  none_yet distinct = record {
    distinct = distinct;
    among = λ name u e. e;
    used = λ name c e. absurd (none-some c e);
    unread = λ name c e. absurd (none-some c e);
    replaced = λ name c e. absurd (none-some c e);
    kept = λ name e. inr refl;
  }

  module _ (k : String X) (u : Use) (rest : List (String X × Use)) (changes : List (String Y × Choice)) where
    pub held_here : Sofar ((k, u) ∷ rest) changes → held (string_bytes k) uses ≡ Some u
    held_here s = s.among (string_bytes k) u (held_first k u rest)

    among_rest : Sofar ((k, u) ∷ rest) changes → (name : List ℕ) (v : Use) → held name rest ≡ Some v → held name uses ≡ Some v
    among_rest s name v e =
        by_name name (string_bytes k)
        (λ same. absurd (none-some v (sym (once k u rest s.distinct) ∙ ap (λ n. held n rest) (sym same) ∙ e)))
        (λ other. s.among name v (held_other name k u rest other ∙ e))

    left_rest : (name : List ℕ) → bytes_eq name (string_bytes k) ≡ false → IsZoneReadable object name ⊎ (held name ((k, u) ∷ rest) ≡ held name uses)
        → IsZoneReadable object name ⊎ (held name rest ≡ held name uses)
    left_rest name other (inl readable) = inl readable
    left_rest name other (inr e) = inr (sym (held_other name k u rest other) ∙ e)

    -- a room reads what the name means
    pub next_read : IsZoneReadable object (string_bytes k) → Sofar ((k, u) ∷ rest) changes → Sofar rest changes
    next_read readable s = record {
      distinct = later_distinct k u rest s.distinct;
      among = among_rest s;
      used = s.used;
      unread = s.unread;
      replaced = s.replaced;
      kept = λ name e. by_name name (string_bytes k) (λ same. inl (subst (IsZoneReadable object) (sym same) readable)) (λ other. left_rest name other (s.kept name e));
    }

    module _ (key : String Y) (c : Choice) (same_key : string_bytes key ≡ string_bytes k) where
      looked : (name : List ℕ) → held name (insert_entry same_text changes key c) ≡ cond (bytes_eq name (string_bytes k)) (Some c) (held name changes)
      looked name = held_put name key c changes ∙ ap (λ n. cond (bytes_eq name n) (Some c) (held name changes)) same_key

      by_held : {P : Type 0} (name : List ℕ) (o : Option Choice) → held name (insert_entry same_text changes key c) ≡ o → (name ≡ string_bytes k → Some c ≡ o → P)
          → (bytes_eq name (string_bytes k) ≡ false → held name changes ≡ o → P) → P
      by_held name o e put before =
          by_name name (string_bytes k)
          (λ same. put same (ap (λ b. cond b (Some c) (held name changes)) (sym (is_same (string_bytes k)) ∙ ap (λ n. bytes_eq n (string_bytes k)) (sym same)) ∙ sym (looked name) ∙ e))
          (λ other. before other (ap (λ b. cond b (Some c) (held name changes)) (sym other) ∙ sym (looked name) ∙ e))

      -- something takes the place of it
      pub next_changed : IsZoneUnread object (string_bytes k) → TakesPlace listed object (string_bytes k) c.goes_on (zone_of c.zone) → Sofar ((k, u) ∷ rest) changes
          → Sofar rest (insert_entry same_text changes key c)
      next_changed unread takes s = record {
        distinct = later_distinct k u rest s.distinct;
        among = among_rest s;
        used = λ name d e. by_held name (Some d) e (λ same is. (u, ap (λ n. held n uses) same ∙ held_here s)) (λ other before. s.used name d before);
        unread = λ name d e. by_held name (Some d) e (λ same is. subst (IsZoneUnread object) (sym same) unread) (λ other before. s.unread name d before);
        replaced = λ name d e. by_held name (Some d) e
            (λ same is. subst (λ (v : Choice). TakesPlace listed object name v.goes_on (zone_of v.zone)) (same_Some c d is)
            (subst (λ n. TakesPlace listed object n c.goes_on (zone_of c.zone)) (sym same) takes))
            (λ other before. s.replaced name d before);
        kept = λ name e. by_held name None e (λ same is. absurd (none-some c (sym is))) (λ other before. left_rest name other (s.kept name before));
      }

  -- nothing is left
  pub all_made : (changes : List (String Y × Choice)) → Sofar [] changes → AreChanges listed object uses changes
  all_made changes s = record {
    used = s.used;
    unread = s.unread;
    replaced = s.replaced;
    kept = λ name u there e. was_used object uses name u there (s.kept name e);
  }

  -- as the loop has them: by what the iterator gave, and what `insert` left
  pub first_made : (left : List (String X × Use)) (changes : List (String Y × Choice)) → left ≡ uses → changes ≡ [] → IsDistinct same_text (keys_of uses) → Sofar left changes
  first_made left changes all none distinct = subst (λ l. Sofar l changes) (sym all) (subst (Sofar uses) (sym none) (none_yet distinct))

  pub step_read : (left : List (String X × Use)) (k : String X) (u : Use) (rest : List (String X × Use)) (changes : List (String Y × Choice)) → left ≡ (k, u) ∷ rest
      → IsZoneReadable object (string_bytes k) → Sofar left changes → Sofar rest changes
  step_read left k u rest changes is readable s = next_read k u rest changes readable (subst (λ l. Sofar l changes) is s)

  pub step_changed : (left : List (String X × Use)) (k : String X) (u : Use) (rest : List (String X × Use)) (changes new : List (String Y × Choice)) (key : String Y) (c : Choice)
      → left ≡ (k, u) ∷ rest → new ≡ insert_entry same_text changes key c → string_bytes key ≡ string_bytes k
      → IsZoneUnread object (string_bytes k) × TakesPlace listed object (string_bytes k) c.goes_on (zone_of c.zone) → Sofar left changes → Sofar rest new
  step_changed left k u rest changes new key c is put same needed s =
      subst (Sofar rest) (sym put) (next_changed k u rest changes key c same needed.0 needed.1 (subst (λ l. Sofar l changes) is s))

  pub held_use : (left : List (String X × Use)) (k : String X) (u : Use) (rest : List (String X × Use)) (changes : List (String Y × Choice)) → AreUses object uses → left ≡ (k, u) ∷ rest
      → Sofar left changes → IsUseFor object (string_bytes k) u
  held_use left k u rest changes are is s = use_for object uses (string_bytes k) u are (held_here k u rest changes (subst (λ l. Sofar l changes) is s))

  pub end_made : (left : List (String X × Use)) (changes : List (String Y × Choice)) → left ≡ [] → Sofar left changes → AreChanges listed object uses changes
  end_made left changes none s = all_made changes (subst (λ l. Sofar l changes) none s)
