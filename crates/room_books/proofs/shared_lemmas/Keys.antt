-- Keys of meetings are equal where their octets are; the place of a key among the meetings.
-- Behind busy_beside of decide, busy_beside_series of decide, decide of decide, own_overlap of decide, is_among of gone, sort of gone and 34 more.
use Rattle.std.proofs.Common.{◌≡◌, ℕ, ◌<◌, true, ◌&&◌, cond, List, inl, inr, None, Some, sym, ap, ◌∙◌, subst, length, get_or, arith}
use Rattle.std.specs.Prelude.{◌==◌, nat_lt}
use Rattle.std.specs.Str.{bytes_eq}
use Rattle.std.specs.List.{position, position_or_len, IsDistinct}
use Rattle.std.proofs.lemmas.Bool.{and_parts, cases_Bool, cases_lt, lt-ltb, le-ltb, eq-eqb, ne_eqb, both_ways}
use Rattle.std.proofs.lemmas.List.Sums.{fails_before_first, passes_at_first}
use Rattle.std.proofs.lemmas.Map.Keys.{apart_from_distinct}
use Rattle.std.proofs.lemmas.Slice.Eq.{bytes_eq-Decides}
use Rattle.ical_values.specs.Octets.{address_octets, text_octets}
use Rattle.room_books.specs.declared.meeting.MeetingKey.{MeetingKey}
use Rattle.room_books.specs.Meeting.{same_key}
use Rattle.room_books.specs.Timeline.{is_own_place}

pub key_congr : (a b z : MeetingKey) → same_key a b ≡ true → same_key a z ≡ same_key b z
key_congr a b z e =
    let both = and_parts _ _ e in
    let o = (bytes_eq-Decides (address_octets a.organiser) (address_octets b.organiser)).0 both.0 in
    let u = (bytes_eq-Decides (text_octets a.uid) (text_octets b.uid)).0 both.1 in
    λ i. bytes_eq (o i) (address_octets z.organiser) && bytes_eq (u i) (text_octets z.uid)

at_place : (n i len : ℕ) → i < len → is_own_place (cond (nat_lt n len) (Some n) None) i ≡ (n == i)
at_place n i len l = elim (cases_lt n len) [
  | inl below ↦ ap (λ b. is_own_place (cond b (Some n) None) i) (lt-ltb n len below)
  | inr above ↦ ap (λ b. is_own_place (cond b (Some n) None) i) (le-ltb n len above) ∙ sym (ne_eqb n i (λ e. omega arith))
]

-- the first place of a key among keys that differ is its only one
module _ (k : MeetingKey) (ks : List MeetingKey) (distinct : IsDistinct same_key ks) (i : ℕ) (d : MeetingKey) (within : i < length ks) where
  first : ℕ
  first = position_or_len (same_key k) ks

  only : same_key k (get_or ks i d) ≡ true → first ≡ i
  unfolding first
  only e = elim (cases_lt first i) [
    | inl below ↦ absurd (both_ways _ (apart_from_distinct same_key ks first i d distinct below within)
        (sym (key_congr k (get_or ks first d) (get_or ks i d) (passes_at_first (same_key k) ks d (omega arith))) ∙ e))
    | inr above ↦ elim (cases_lt i first) [
      | inl later ↦ absurd (both_ways _ (fails_before_first (same_key k) ks i d later) e)
      | inr equal ↦ omega arith
    ]
  ]

  pub only_place : same_key k (get_or ks i d) ≡ true → position_or_len (same_key k) ks ≡ i
  unfolding first only
  only_place e = only e

  pub place_is_own : is_own_place (position (same_key k) ks) i ≡ same_key k (get_or ks i d)
  unfolding first only
  place_is_own = at_place first i (length ks) within ∙ elim (cases_Bool (same_key k (get_or ks i d))) [
    | inl own ↦ eq-eqb first i (only own) ∙ sym own
    | inr other ↦ ne_eqb first i (λ e. both_ways _ other (subst (λ (n : ℕ). same_key k (get_or ks n d) ≡ true) e (passes_at_first (same_key k) ks d (omega (arith, e))))) ∙ sym other
  ]
