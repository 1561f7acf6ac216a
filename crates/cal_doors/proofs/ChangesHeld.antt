-- What a table by names holds: after an entry is put in, and among the entries that are left.
use Rattle.std.proofs.Common.{◌≡◌, ◌∙◌, ap, sym, refl, ℕ, Bool, true, false, cond, List, [], ◌∷◌}
use Rattle.std.specs.Prelude.{Option, Some, None, String, string_bytes}
use Rattle.std.specs.List.{IsDistinct, AllByRecursion}
use Rattle.std.specs.Map.{keys_of}
use Rattle.std.specs.Str.{bytes_eq}
use Rattle.std.proofs.lemmas.Bool.{true≢false}
use Rattle.std.proofs.lemmas.Slice.Eq.{bytes_eq-Decides}
use Rattle.indexmap.specs.IndexMap.{insert_entry}
use Rattle.cal_doors.specs.Used.{held}

abbrev pub same_text : {Y : Type 0} → String Y → String Y → Bool
same_text a b = bytes_eq (string_bytes a) (string_bytes b)

pub same_name : (a b : List ℕ) → bytes_eq a b ≡ true → a ≡ b
same_name a b e = (bytes_eq-Decides a b).0 e

pub is_same : (a : List ℕ) → bytes_eq a a ≡ true
is_same a = (bytes_eq-Decides a a).1 refl

-- a name is this one or another
pub by_name : {P : Type 0} (name key : List ℕ) → (name ≡ key → P) → (bytes_eq name key ≡ false → P) → P
by_name {P} name key here other = go (bytes_eq name key) refl
  where
    go : (b : Bool) → bytes_eq name key ≡ b → P
    go true e = here (same_name name key e)
    go false e = other e

twice : {A : Type 0} (p q : Bool) (v w o : Option A) → p ≡ q → cond q v o ≡ cond p v (cond q w o)
twice true true v w o e = refl
twice false false v w o e = refl
twice true false v w o e = absurd (true≢false e)
twice false true v w o e = absurd (true≢false (sym e))

apart : {A : Type 0} (p q : Bool) (v w o : Option A) → (p ≡ true → q ≡ true → ⊥) → cond q w (cond p v o) ≡ cond p v (cond q w o)
apart true true v w o h = absurd (h refl refl)
apart true false v w o h = refl
apart false q v w o h = refl

module _ {Y A : Type 0} where
  -- under the name of an entry that was put in that entry's value, under another name what was there
  pub held_put : (name : List ℕ) (k : String Y) (v : A) (es : List (String Y × A))
      → held name (insert_entry same_text es k v) ≡ cond (bytes_eq name (string_bytes k)) (Some v) (held name es)
  held_put name k v [] = refl
  held_put name k v (e ∷ es) = go (same_text k e.0) refl (held_put name k v es)
    where
      go : (b : Bool) → same_text k e.0 ≡ b → held name (insert_entry same_text es k v) ≡ cond (bytes_eq name (string_bytes k)) (Some v) (held name es)
          → held name (cond b ((e.0, v) ∷ es) (e ∷ insert_entry same_text es k v)) ≡ cond (bytes_eq name (string_bytes k)) (Some v) (cond (bytes_eq name (string_bytes e.0)) (Some e.1) (held name es))
      go true h later =
          twice (bytes_eq name (string_bytes k)) (bytes_eq name (string_bytes e.0)) (Some v) (Some e.1) (held name es)
          (ap (bytes_eq name) (same_name (string_bytes k) (string_bytes e.0) h))
      go false h later =
          ap (cond (bytes_eq name (string_bytes e.0)) (Some e.1)) later
          ∙ apart (bytes_eq name (string_bytes k)) (bytes_eq name (string_bytes e.0)) (Some v) (Some e.1) (held name es)
          (λ one other. true≢false (sym ((bytes_eq-Decides (string_bytes k) (string_bytes e.0)).1 (sym (same_name name (string_bytes k) one) ∙ same_name name (string_bytes e.0) other)) ∙ h))

  -- the first entry is held under its name
  pub held_first : (k : String Y) (v : A) (es : List (String Y × A)) → held (string_bytes k) ((k, v) ∷ es) ≡ Some v
  held_first k v es = ap (λ b. cond b (Some v) (held (string_bytes k) es)) (is_same (string_bytes k))

  pub held_other : (name : List ℕ) (k : String Y) (v : A) (es : List (String Y × A)) → bytes_eq name (string_bytes k) ≡ false → held name ((k, v) ∷ es) ≡ held name es
  held_other name k v es e = ap (λ b. cond b (Some v) (held name es)) e

  not_later : (k : String Y) (es : List (String Y × A)) → AllByRecursion (λ (y : String Y). same_text k y ≡ false) (keys_of es) → held (string_bytes k) es ≡ None
  not_later k [] all = refl
  not_later k (e ∷ es) all = ap (λ b. cond b (Some e.1) (held (string_bytes k) es)) all.0 ∙ not_later k es all.1

  -- no later entry has the name of the first
  pub once : (k : String Y) (v : A) (es : List (String Y × A)) → IsDistinct same_text (keys_of ((k, v) ∷ es)) → held (string_bytes k) es ≡ None
  unfolding IsDistinct
  once k v es distinct = not_later k es distinct.0

  pub later_distinct : (k : String Y) (v : A) (es : List (String Y × A)) → IsDistinct same_text (keys_of ((k, v) ∷ es)) → IsDistinct same_text (keys_of es)
  unfolding IsDistinct
  later_distinct k v es distinct = distinct.1

  -- where nothing is held under any name there is no entry
  pub some_held : (es : List (String Y × A)) → (es ≡ [] → ⊥) → (name : List ℕ) × (v : A) × (held name es ≡ Some v)
  some_held [] some = absurd (some refl)
  some_held (e ∷ es) some = (string_bytes e.0, e.1, held_first e.0 e.1 es)
