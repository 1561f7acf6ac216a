-- Which instants of an event EXDATE names, or other events replace: there is a list of them, ascending.
-- Behind kept_texts_pass, kept_texts_spell, served_texts_pass.
use Rattle.std.proofs.Common.{◌≡◌, ◌∙◌, ℤ, ◌<ℤ◌, ◌≤ℤ◌, T, Bool, true, false, not, ◌&&◌, ◌⊎◌, ℕ, List, [], ◌∷◌, get_or, Option, Some, None, inl, inr, refl, sym, ap, subst, arith}
use Rattle.std.specs.Prelude.{AllPairs, Contains}
use Rattle.std.specs.Int.Signed.{lt_z, lt_z_yes, lt_z_no}
use Rattle.std.specs.Str.{bytes_eq}
use Rattle.std.proofs.lemmas.Bool.{and_parts, and_from, true≢false, cases_Bool}
use Rattle.std.proofs.lemmas.Int.{ints}
use Rattle.std.proofs.lemmas.List.Elements.{All-contains, Contains-get_or}
use Rattle.std.proofs.lemmas.Option.{same_Some}
use Rattle.std.proofs.lemmas.Slice.Eq.{bytes_eq-Decides}
use Rattle.profile.specs.events.EventComponents.{EventComponent, meeting_said}
use Rattle.profile.specs.events.Confirmed.{AreAll, IsExcepted, IsReplacedAmong}
use Rattle.cal_events.proofs.shared_lemmas.InOneOrder.{cons_pairs, head_pairs, tail_pairs}
use Rattle.itip_order.proofs.Lists.{in_cons, in_head, in_tail, none_in_nil}

-- an ascending list, and one more instant
record IsPutIn (t : ℤ) (xs : List ℤ) : Type 0 where
  list : List ℤ
  ascending : AllPairs ◌<ℤ◌ list
  has : Contains list t
  keeps : (u : ℤ) → Contains xs u → Contains list u
  adds : (u : ℤ) → Contains list u → (t ≡ u) ⊎ Contains xs u

put_in : (t : ℤ) (xs : List ℤ) → AllPairs ◌<ℤ◌ xs → IsPutIn t xs
put_in t [] p = record {
  list = t ∷ [];
  ascending = cons_pairs ◌<ℤ◌ t [] (λ y c. absurd (none_in_nil y c)) p;
  has = in_head t [];
  keeps = λ u c. absurd (none_in_nil u c);
  adds = λ u c. in_cons t [] u c;
}
put_in t (x ∷ xs) p = by (put_in t xs (tail_pairs ◌<ℤ◌ x xs p)) (lt_z t x) (lt_z x t) refl refl
  where
    by : IsPutIn t xs → (a b : Bool) → lt_z t x ≡ a → lt_z x t ≡ b → IsPutIn t (x ∷ xs)
    by rest true b e f =
        let less : t <ℤ x = lt_z_yes (subst T (sym e) tt) in
        record {
          list = t ∷ x ∷ xs;
          ascending = cons_pairs ◌<ℤ◌ t (x ∷ xs)
              (λ y c. elim (in_cons x xs y c) [
                | inl here ↦ subst (λ (z : ℤ). t <ℤ z) here less
                | inr there ↦ let more = head_pairs ◌<ℤ◌ x y xs p there in omega (arith, ints, less, more)
              ]) p;
          has = in_head t (x ∷ xs);
          keeps = λ u c. in_tail t (x ∷ xs) u c;
          adds = λ u c. in_cons t (x ∷ xs) u c;
        }
    by rest false true e f =
        let more : x <ℤ t = lt_z_yes (subst T (sym f) tt) in
        record {
          list = x ∷ rest.list;
          ascending = cons_pairs ◌<ℤ◌ x rest.list
              (λ y c. elim (rest.adds y c) [ inl here ↦ subst (λ (z : ℤ). x <ℤ z) here more | inr there ↦ head_pairs ◌<ℤ◌ x y xs p there ]) rest.ascending;
          has = in_tail x rest.list t rest.has;
          keeps = λ u c. elim (in_cons x xs u c) [
            | inl here ↦ subst (λ (z : ℤ). Contains (x ∷ rest.list) z) here (in_head x rest.list)
            | inr there ↦ in_tail x rest.list u (rest.keeps u there)
          ];
          adds = λ u c. elim (in_cons x rest.list u c) [
            | inl here ↦ inr (subst (λ (z : ℤ). Contains (x ∷ xs) z) here (in_head x xs))
            | inr there ↦ elim (rest.adds u there) [ inl same ↦ inl same | inr among ↦ inr (in_tail x xs u among) ]
          ];
        }
    by rest false false e f =
        let low : x ≤ℤ t = lt_z_no (subst (λ b. T (not b)) (sym e) tt) in
        let high : t ≤ℤ x = lt_z_no (subst (λ b. T (not b)) (sym f) tt) in
        let same : x ≡ t = omega (arith, ints, low, high) in
        record {
          list = x ∷ xs;
          ascending = p;
          has = subst (λ (z : ℤ). Contains (x ∷ xs) z) same (in_head x xs);
          keeps = λ u c. c;
          adds = λ u c. inr c;
        }

-- ---- one more event

same_meeting : (a b : List ℕ × List ℕ) → (bytes_eq a.0 b.0 && bytes_eq a.1 b.1) ≡ true → a ≡ b
same_meeting a b h =
    let both = and_parts _ _ h in
    let first = (bytes_eq-Decides a.0 b.0).0 both.0 in
    let second = (bytes_eq-Decides a.1 b.1).0 both.1 in
    λ i. (first i, second i)

is_same_meeting : (a b : List ℕ × List ℕ) → a ≡ b → (bytes_eq a.0 b.0 && bytes_eq a.1 b.1) ≡ true
is_same_meeting a b e = and_from _ _ ((bytes_eq-Decides a.0 b.0).1 (ap (λ (m : List ℕ × List ℕ). m.0) e)) ((bytes_eq-Decides a.1 b.1).1 (ap (λ (m : List ℕ × List ℕ). m.1) e))

module _ (event : EventComponent) where
  -- the event replaces this instant
  abbrev Replaces : EventComponent → ℤ → Type 0
  Replaces other t = (meeting_said other ≡ meeting_said event) × (other.recurrence ≡ Some t)

  -- it replaces one, or none
  replaces : (other : EventComponent) → ((t : ℤ) × Replaces other t) ⊎ ((t : ℤ) → Replaces other t → ⊥)
  replaces other = by other.recurrence refl
    where
      test : Bool
      test = bytes_eq (meeting_said other).0 (meeting_said event).0 && bytes_eq (meeting_said other).1 (meeting_said event).1

      by : (r : Option ℤ) → other.recurrence ≡ r → ((t : ℤ) × Replaces other t) ⊎ ((t : ℤ) → Replaces other t → ⊥)
      by None e = inr (λ t s. none (sym e ∙ s.1))
        where
          none : {t : ℤ} → None ≡ Some t → ⊥
          none h = cc
      by (Some t) e = elim (cases_Bool test) [
        | inl same ↦ inl (t, (same_meeting _ _ same, e))
        | inr apart ↦ inr (λ u s. true≢false (sym (is_same_meeting _ _ s.0) ∙ apart))
      ]

  replaced_more : (other : EventComponent) (events : List EventComponent) (xs : List ℤ) → AreAll (IsReplacedAmong events event) xs → (ys : List ℤ) × AreAll (IsReplacedAmong (other ∷ events) event) ys
  replaced_more other events xs are = by (replaces other)
    where
      later : (t : ℤ) → IsReplacedAmong events event t → IsReplacedAmong (other ∷ events) event t
      later t r = record { override = r.override; among = (in_tail other events r.override r.among.0, r.among.1); is = r.is }

      at : (t : ℤ) → Contains xs t → IsReplacedAmong events event t
      at t c = All-contains (IsReplacedAmong events event) xs t are.each c

      by : ((t : ℤ) × Replaces other t) ⊎ ((t : ℤ) → Replaces other t → ⊥) → (ys : List ℤ) × AreAll (IsReplacedAmong (other ∷ events) event) ys
      by (inl (t, (of, is))) =
          let put = put_in t xs are.ascending in (
            put.list,
            record {
              each = λ i d l. each put (get_or put.list i d) (Contains-get_or put.list i d l);
              ascending = put.ascending;
              all = λ u r. elim (in_cons other events r.override r.among.0) [
                | inl here ↦ subst (λ (z : ℤ). Contains put.list z) (same_Some t u (sym is ∙ ap (λ (e : EventComponent). e.recurrence) here ∙ r.is)) put.has
                | inr there ↦ put.keeps u (are.all u (record { override = r.override; among = (there, r.among.1); is = r.is }))
              ];
            },
          )
        where
          each : (put : IsPutIn t xs) (u : ℤ) → Contains put.list u → IsReplacedAmong (other ∷ events) event u
          each put u c = elim (put.adds u c) [
            | inl here ↦ record { override = other; among = (in_head other events, of); is = is ∙ ap Some here }
            | inr there ↦ later u (at u there)
          ]
      by (inr none) = (
        xs,
        record {
          each = λ i d l. later (get_or xs i d) (are.each i d l);
          ascending = are.ascending;
          all = λ u r. elim (in_cons other events r.override r.among.0) [
            | inl here ↦ absurd (none u (subst (λ (e : EventComponent). Replaces e u) (sym here) (r.among.1, r.is)))
            | inr there ↦ are.all u (record { override = r.override; among = (there, r.among.1); is = r.is })
          ];
        },
      )

  -- the instants that some of the events replace
  replaced_by : (events : List EventComponent) → (xs : List ℤ) × AreAll (IsReplacedAmong events event) xs
  replaced_by [] = (
    [],
    record { each = λ i d l. absurd (omega (arith, l)); ascending = λ i j d l w. absurd (omega (arith, w)); all = λ t r. absurd (none_in_nil r.override r.among.0) },
  )
  replaced_by (other ∷ events) = let rest = replaced_by events in replaced_more other events rest.0 rest.1

  -- those that EXDATE names beside
  with_instants : (P : ℤ → Type 0) (ts xs : List ℤ) → AreAll P xs → (ys : List ℤ) × AreAll (λ u. Contains ts u ⊎ P u) ys
  with_instants P [] xs are = (
    xs,
    record { each = λ i d l. inr (are.each i d l); ascending = are.ascending; all = λ u h. elim h [ inl c ↦ absurd (none_in_nil u c) | inr p ↦ are.all u p ] },
  )
  with_instants P (t ∷ ts) xs are =
      let rest = with_instants P ts xs are in
      let put = put_in t rest.0 rest.1.ascending in (
        put.list,
        record {
          each = λ i d l. each rest put (get_or put.list i d) (Contains-get_or put.list i d l);
          ascending = put.ascending;
          all = λ u h. elim h [
            | inl c ↦ elim (in_cons t ts u c) [
              | inl here ↦ subst (λ (z : ℤ). Contains put.list z) here put.has
              | inr there ↦ put.keeps u (rest.1.all u (inl there))
            ]
            | inr p ↦ put.keeps u (rest.1.all u (inr p))
          ];
        },
      )
    where
      each : (rest : (ys : List ℤ) × AreAll (λ u. Contains ts u ⊎ P u) ys) (put : IsPutIn t rest.0) (u : ℤ) → Contains put.list u → Contains (t ∷ ts) u ⊎ P u
      each rest put u c = elim (put.adds u c) [
        | inl here ↦ inl (subst (λ (z : ℤ). Contains (t ∷ ts) z) here (in_head t ts))
        | inr there ↦ elim (All-contains (λ v. Contains ts v ⊎ P v) rest.0 u rest.1.each there) [ inl d ↦ inl (in_tail t ts u d) | inr p ↦ inr p ]
      ]

  pub excepted_by : (events : List EventComponent) → (xs : List ℤ) × AreAll (IsExcepted events event) xs
  excepted_by events = let replaced = replaced_by events in with_instants (IsReplacedAmong events event) event.exceptions replaced.0 replaced.1
