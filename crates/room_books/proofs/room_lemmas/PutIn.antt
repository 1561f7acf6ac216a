-- What is put in the place of a meeting among the meetings.
-- Cited by Room::take_claims, put_in, renew.
use Rattle.std.proofs.Common.{◌≡◌, ℕ, ◌+◌, ◌<◌, ◌≤◌, Bool, true, false, not, cond, List, [], ◌∷◌, inl, inr, Option, None, Some, refl, sym, ap, ◌∙◌, subst, length, arith, zero, suc}
use Rattle.std.specs.Prelude.{slice_get, nat_lt}
use Rattle.std.specs.List.{position}
use Rattle.std.specs.Map.{lookup, keys_of, values_of}
use Rattle.std.proofs.lemmas.Bool.{both_ways, false_from_ne_true, cases_lt, lt-ltb, le-ltb}
use Rattle.std.proofs.lemmas.List.{length-map}
use Rattle.indexmap.specs.IndexMap.{insert_entry, set_value_at}
use Rattle.profile.specs.rooms.Revisions.{Part}
use Rattle.room_books.specs.declared.meeting.MeetingKey.{MeetingKey}
use Rattle.room_books.specs.declared.kept.Meeting.{Meeting}
use Rattle.room_books.specs.Meeting.{same_key}
use Rattle.room_books.specs.declared.kept.Changes.{Changes}
use Rattle.room_books.specs.Taking.{answers_by, answers_then, held_after, IsMadeOf}
use Rattle.room_books.specs.Room.{IsPutIn, IsRenewed}
use Rattle.std.specs.Cmp.{both_ways as same_tests}
use Rattle.room_books.proofs.shared_lemmas.Keys.{key_congr}
use Rattle.room_books.proofs.room_lemmas.Meetings.{key_from}
use Rattle.room_books.proofs.shared_lemmas.Places.{place_of, suc_is}

abbrev Entries : Type 0
Entries = List (MeetingKey × Meeting)

some_is : {X : Type 0} (a b : X) → Some a ≡ Some b → a ≡ b
some_is a b e = cc

-- a value that is set again in its place changes nothing
pub set_same : (es : Entries) (i : ℕ) (m : Meeting) → slice_get (values_of es) i ≡ Some m → set_value_at es i m ≡ es
set_same [] i m e = refl
set_same (x ∷ es) zero m e = ap (λ v. (x.0, v) ∷ es) (sym (some_is x.1 m e))
set_same (x ∷ es) (suc i) m e = ap (λ l. x ∷ l) (set_same es i m e)

-- a look-up by a key finds what is in its place
found_at : (k : MeetingKey) (x : MeetingKey × Meeting) (es : Entries) (t : Bool) → lookup (same_key k) es ≡ slice_get (values_of es) (place_of k es)
    → cond t (Some x.1) (lookup (same_key k) es) ≡ slice_get (x.1 ∷ values_of es) (cond (not t) (1 + place_of k es) 0)
found_at k x es true h = refl
found_at k x es false h = h ∙ ap (slice_get (x.1 ∷ values_of es)) (sym (suc_is (place_of k es)))

found : (k : MeetingKey) (es : Entries) → lookup (same_key k) es ≡ slice_get (values_of es) (place_of k es)
found k [] = refl
found k (x ∷ es) = found_at k x es (same_key k x.0) (found k es)

-- a value that is set in the place of a key that is there is put in by it
set_put_at : (k : MeetingKey) (m : Meeting) (x : MeetingKey × Meeting) (es : Entries) (t : Bool) → (place_of k es < length es → set_value_at es (place_of k es) m ≡ insert_entry same_key es k m)
    → cond (not t) (1 + place_of k es) 0 < suc (length es) → set_value_at (x ∷ es) (cond (not t) (1 + place_of k es) 0) m ≡ cond t ((x.0, m) ∷ es) (x ∷ insert_entry same_key es k m)
set_put_at k m x es true h within = refl
set_put_at k m x es false h within = ap (λ n. set_value_at (x ∷ es) n m) (suc_is (place_of k es)) ∙ ap (λ l. x ∷ l) (h (omega (arith, within)))

set_put : (k : MeetingKey) (m : Meeting) (es : Entries) → place_of k es < length es → set_value_at es (place_of k es) m ≡ insert_entry same_key es k m
set_put k m [] within = absurd (omega (arith, within))
set_put k m (x ∷ es) within = set_put_at k m x es (same_key k x.0) (set_put k m es) within

-- where the key is there, at its place
there : (n len place : ℕ) → cond (nat_lt n len) (Some n) None ≡ Some place → (n < len) × (n ≡ place)
there n len place e = elim (cases_lt n len) [
  | inl below ↦ (below, some_is n place (ap (λ b. cond b (Some n) None) (sym (lt-ltb n len below)) ∙ e))
  | inr above ↦ absurd (none_is place (ap (λ b. cond b (Some n) None) (sym (le-ltb n len above)) ∙ e))
]
  where
    none_is : (a : ℕ) → None ≡ Some a → ⊥
    none_is a e = absurd (cc)

pub renewed_put : (k : MeetingKey) (more : List Part) (changes : Changes) (place : ℕ) (old new : Entries) → position (same_key k) (keys_of old) ≡ Some place → IsRenewed place more changes old new
    → (place ≡ place_of k old) × IsPutIn k more changes old new
renewed_put k more changes place old new e r =
    let is = there (place_of k old) (length (keys_of old)) place e in
    let at = sym is.1 in (
      at,
      record {
        meeting = r.meeting;
        made = subst (λ (o : Option Meeting). IsMadeOf (held_after o more) (answers_then (answers_by o) changes) r.meeting) (sym (found k old ∙ ap (slice_get (values_of old)) is.1 ∙ r.was)) r.made;
        entries = r.entries ∙ ap (λ n. set_value_at old n r.meeting) at ∙ set_put k r.meeting old (omega (arith, is.0, length-map old (λ x. x.0)));
      },
    )

-- where it isn't
pub new_put : (k : MeetingKey) (more : List Part) (changes : Changes) (old new : Entries) (m : Meeting) → position (same_key k) (keys_of old) ≡ None → IsMadeOf more (answers_then [] changes) m → new ≡ insert_entry same_key old k m
    → IsPutIn k more changes old new
new_put k more changes old new m e made put = record {
  meeting = m;
  made = subst (λ (o : Option Meeting). IsMadeOf (held_after o more) (answers_then (answers_by o) changes) m) (sym (found k old ∙ missing (place_of k old) (length (keys_of old)) (values_of old) (length-map old (λ x. x.0) ∙ sym (length-map old (λ x. x.1))) e)) made;
  entries = put;
}
  where
    past : (vs : List Meeting) (n : ℕ) → length vs ≤ n → slice_get vs n ≡ None
    past [] n h = refl
    past (v ∷ vs) zero h = absurd (omega (arith, h))
    past (v ∷ vs) (suc n) h = past vs n (omega (arith, h))

    some_none : (a : ℕ) → Some a ≡ None → ⊥
    some_none a e = absurd (cc)

    missing : (n len : ℕ) (vs : List Meeting) → len ≡ length vs → cond (nat_lt n len) (Some n) None ≡ None → slice_get vs n ≡ None
    missing n len vs same e = elim (cases_lt n len) [
      | inl below ↦ absurd (some_none n (ap (λ b. cond b (Some n) None) (sym (lt-ltb n len below)) ∙ e))
      | inr above ↦ past vs n (omega (arith, same, above))
    ]

same_back : (k q : MeetingKey) → same_key k q ≡ true → same_key q k ≡ true
same_back k q e = sym (key_congr k q k e) ∙ key_from k k refl refl

-- what the look-ups find then
looked_up : (k q : MeetingKey) (m : Meeting) (x : MeetingKey × Meeting) (es : Entries) (own mine : Bool) → same_key k x.0 ≡ own → same_key q x.0 ≡ mine
    → lookup (same_key q) (insert_entry same_key es k m) ≡ cond (same_key k q) (Some m) (lookup (same_key q) es)
    → lookup (same_key q) (cond own ((x.0, m) ∷ es) (x ∷ insert_entry same_key es k m)) ≡ cond (same_key k q) (Some m) (cond mine (Some x.1) (lookup (same_key q) es))
looked_up k q m x es true true o e h =
    let same = key_congr k x.0 q o ∙ same_back q x.0 e in
    ap (λ b. cond b (Some m) (lookup (same_key q) es)) e ∙ ap (λ b. cond b (Some m) (Some x.1)) (sym same)
looked_up k q m x es true false o e h =
    let other = key_congr k x.0 q o ∙ false_from_ne_true _ (λ is. both_ways _ e (same_back x.0 q is)) in
    ap (λ b. cond b (Some m) (lookup (same_key q) es)) e ∙ ap (λ b. cond b (Some m) (lookup (same_key q) es)) (sym other)
looked_up k q m x es false true o e h =
    let other = false_from_ne_true _ (λ is. both_ways _ o (key_congr k q x.0 is ∙ e)) in
    ap (λ b. cond b (Some x.1) (lookup (same_key q) (insert_entry same_key es k m))) e ∙ ap (λ b. cond b (Some m) (Some x.1)) (sym other)
looked_up k q m x es false false o e h = ap (λ b. cond b (Some x.1) (lookup (same_key q) (insert_entry same_key es k m))) e ∙ h

pub lookup_put : (k q : MeetingKey) (m : Meeting) (es : Entries) → lookup (same_key q) (insert_entry same_key es k m) ≡ cond (same_key k q) (Some m) (lookup (same_key q) es)
lookup_put k q m [] = ap (λ b. cond b (Some m) None) (same_tests (same_key q k) (same_key k q) (same_back q k) (same_back k q))
lookup_put k q m (x ∷ es) = looked_up k q m x es (same_key k x.0) (same_key q x.0) refl refl (lookup_put k q m es)
