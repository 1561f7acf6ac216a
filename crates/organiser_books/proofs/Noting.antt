-- The attendees in memory, with one more line.
use Rattle.std.proofs.Common.{◌≡◌, ◌∙◌, ℕ, ◌+◌, Bool, true, false, ◌||◌, cond, List, [], ◌∷◌, ◌++◌, map, Option, None, Some, refl, sym, ap, subst, append-nil, append_assoc, arith, inl, inr}
use Rattle.std.proofs.lemmas.List.{map-append}
use Rattle.std.specs.Prelude.{◌==◌}
use Rattle.std.specs.List.{flat_map, list_any}
use Rattle.std.specs.Map.{set_value, keys_of}
use Rattle.std.specs.Str.{bytes_eq}
use Rattle.std.proofs.lemmas.Bool.{or_parts, or_right, cases_Bool, eq-eqb, both_ways}
use Rattle.ical_values.specs.Octets.{address_octets}
use Rattle.ical_values.specs.declared.address.Address.{Address}
use Rattle.profile.specs.events.EventComponents.{Attendee}
use Rattle.profile.specs.rooms.Kept.{each_once}
use Rattle.organiser_books.specs.declared.attending.Attendance.{Attendance}
use Rattle.organiser_books.specs.Attending.{Entries, addresses_in, attendance_of, is_address, names, noted_too, schedules_line, IsNoted, Noted, AreNoted, AreUntold, is_told_in}
use Rattle.organiser_books.proofs.Lines.{among_lines, all_unnamed, names_push, once_push, same_is, same_itself, schedules_other, schedules_own, unnamed}

-- ---- look-ups

-- the addresses' own equality
abbrev pub same_address : Address → Address → Bool
same_address a b = bytes_eq (address_octets a) (address_octets b)

some_none : {X : Type 0} (x : X) → Some x ≡ None → ⊥
some_none x e = absurd (cc)

-- another value in the place of an address
pub set_own : (a : List ℕ) (es : Entries) (w : Attendance) → (was : Attendance) → attendance_of a es ≡ Some was → attendance_of a (set_value (is_address a) es w) ≡ Some w
set_own a [] w was e = absurd (some_none was (sym e))
set_own a (x ∷ es) w was e = by (is_address a x.0) refl (set_own a es w was) e
  where
    by : (t : Bool) → is_address a x.0 ≡ t → (attendance_of a es ≡ Some was → attendance_of a (set_value (is_address a) es w) ≡ Some w) → cond t (Some x.1) (attendance_of a es) ≡ Some was → attendance_of a (cond t ((x.0, w) ∷ es) (x ∷ set_value (is_address a) es w)) ≡ Some w
    by true s h f = ap (λ t. cond t (Some w) (attendance_of a es)) s
    by false s h f = ap (λ t. cond t (Some x.1) (attendance_of a (set_value (is_address a) es w))) s ∙ h f

pub set_other : (a q : List ℕ) (es : Entries) (w : Attendance) → bytes_eq a q ≡ false → attendance_of q (set_value (is_address a) es w) ≡ attendance_of q es
set_other a q [] w n = refl
set_other a q (x ∷ es) w n = by (is_address a x.0) (is_address q x.0) refl refl (set_other a q es w n)
  where
    by : (t s : Bool) → is_address a x.0 ≡ t → is_address q x.0 ≡ s → attendance_of q (set_value (is_address a) es w) ≡ attendance_of q es → attendance_of q (cond t ((x.0, w) ∷ es) (x ∷ set_value (is_address a) es w)) ≡ cond s (Some x.1) (attendance_of q es)
    by true true e f h = absurd (both_ways _ n (subst (λ z. bytes_eq a z ≡ true) (same_is _ _ e ∙ sym (same_is _ _ f)) (same_itself a)))
    by true false e f h = ap (λ t. cond t (Some w) (attendance_of q es)) f
    by false s e f h = ap (λ t. cond t (Some x.1) (attendance_of q (set_value (is_address a) es w))) f ∙ ap (cond s (Some x.1)) h

-- one more after them
pub push_own : (a : List ℕ) (k : Address) (v : Attendance) (es : Entries) → bytes_eq a (address_octets k) ≡ true → attendance_of a es ≡ None → attendance_of a (es ++ (k, v) ∷ []) ≡ Some v
push_own a k v [] e n = ap (λ t. cond t (Some v) None) e
push_own a k v (x ∷ es) e n = by (is_address a x.0) refl (push_own a k v es e) n
  where
    by : (t : Bool) → is_address a x.0 ≡ t → (attendance_of a es ≡ None → attendance_of a (es ++ (k, v) ∷ []) ≡ Some v) → cond t (Some x.1) (attendance_of a es) ≡ None → cond (is_address a x.0) (Some x.1) (attendance_of a (es ++ (k, v) ∷ [])) ≡ Some v
    by true s h f = absurd (some_none x.1 f)
    by false s h f = ap (λ t. cond t (Some x.1) (attendance_of a (es ++ (k, v) ∷ []))) s ∙ h f

pub push_other : (q : List ℕ) (k : Address) (v : Attendance) (es : Entries) → bytes_eq q (address_octets k) ≡ false → attendance_of q (es ++ (k, v) ∷ []) ≡ attendance_of q es
push_other q k v [] n = ap (λ t. cond t (Some v) None) n
push_other q k v (x ∷ es) n = ap (cond (is_address q x.0) (Some x.1)) (push_other q k v es n)

-- ---- one more line

-- where nothing changes for an address
noted_same : (done : List (List Attendee)) (place : ℕ) (own more : List Attendee) (q : List ℕ) (r : Option Attendance)
    → names q more ≡ names q own → schedules_line q more ≡ schedules_line q own → Noted done place own q r → Noted done place more q r
noted_same done place own more q None n s h = ap (λ b. list_any (names q) done || b) n ∙ h
noted_same done place own more q (Some a) n s h = record {
  named = ap (λ b. list_any (names q) done || b) n ∙ h.named;
  scheduled = h.scheduled ∙ ap (λ b. list_any (schedules_line q) done || b) (sym s);
  last = h.last ∙ sym n;
  up_to = h.up_to;
  untold = h.untold;
}

or_false : (b : Bool) → (b || false) ≡ b
or_false true = refl
or_false false = refl

or_true : (b : Bool) → (b || true) ≡ true
or_true true = refl
or_true false = refl

module _ (done : List (List Attendee)) (place : ℕ) (own : List Attendee) (a : Attendee) where
  abbrev more : List Attendee
  more = own ++ a ∷ []

  other_noted : (q : List ℕ) (r : Option Attendance) → bytes_eq a.address q ≡ false → Noted done place own q r → Noted done place more q r
  other_noted q r n h = noted_same done place own more q r (names_push q own a ∙ ap (λ b. names q own || b) n ∙ or_false (names q own)) (schedules_other q own a n) h

  own_named : names a.address more ≡ true
  own_named = names_push a.address own a ∙ or_right _ _ (same_itself a.address)

  -- who was known
  own_noted : (known : Attendance) → IsNoted done place own a.address known → IsNoted done place more a.address (noted_too known place a.scheduled)
  own_noted known h = by (known.component == place) refl
    where
      by : (b : Bool) → (known.component == place) ≡ b → IsNoted done place more a.address (cond b known (record known { scheduled = known.scheduled || a.scheduled; component = place }))
      by true e = record {
        named = or_right _ _ own_named;
        scheduled = h.scheduled ∙ ap (λ b. list_any (schedules_line a.address) done || b) (sym (schedules_own a.address own a (same_itself a.address) ∙ ap (λ b. cond b (schedules_line a.address own) a.scheduled) (sym h.last ∙ e)));
        last = e ∙ sym own_named;
        up_to = h.up_to;
        untold = h.untold;
      }
      by false e =
          let none : names a.address own ≡ false = sym h.last ∙ e in
          let before : known.scheduled ≡ list_any (schedules_line a.address) done = h.scheduled ∙ ap (λ b. list_any (schedules_line a.address) done || b) (unnamed a.address own none) ∙ or_false _ in
          let now : schedules_line a.address more ≡ a.scheduled = schedules_own a.address own a (same_itself a.address) ∙ ap (λ b. cond b (schedules_line a.address own) a.scheduled) none in
          record {
            named = or_right _ _ own_named;
            scheduled = λ i. before i || sym now i;
            last = eq-eqb place place refl ∙ sym own_named;
            up_to = omega arith;
            untold = h.untold;
          }

  -- who wasn't
  new_noted : Noted done place own a.address None → IsNoted done place more a.address (record { scheduled = a.scheduled; component = place; told = false })
  new_noted h =
      let both = or_parts _ _ h in
      let before : list_any (schedules_line a.address) done ≡ false = all_unnamed a.address done both.0 in
      let now : schedules_line a.address more ≡ a.scheduled = schedules_own a.address own a (same_itself a.address) ∙ ap (λ b. cond b (schedules_line a.address own) a.scheduled) both.1 in
      record {
        named = or_right _ _ own_named;
        scheduled = λ i. sym before i || sym now i;
        last = eq-eqb place place refl ∙ sym own_named;
        up_to = omega arith;
        untold = refl;
      }

  -- the addresses, each once
  addresses_more : flat_map addresses_in done ++ addresses_in more ≡ (flat_map addresses_in done ++ addresses_in own) ++ a.address ∷ []
  addresses_more = ap (λ l. flat_map addresses_in done ++ l) (map-append (λ (x : Attendee). x.address) own (a ∷ [])) ∙ sym (append_assoc (flat_map addresses_in done) (addresses_in own) (a.address ∷ []))

  once_more : each_once (flat_map addresses_in done ++ addresses_in more)
      ≡ each_once (flat_map addresses_in done ++ addresses_in own) ++ cond (list_any (names a.address) done || names a.address own) [] (a.address ∷ [])
  once_more = ap each_once addresses_more ∙ once_push (flat_map addresses_in done ++ addresses_in own) a.address
      ∙ ap (λ b. each_once (flat_map addresses_in done ++ addresses_in own) ++ cond b [] (a.address ∷ [])) (among_lines a.address done own)

  -- with a line of an address that is known
  pub noted_known : (es new : Entries) (known : Attendance) → attendance_of a.address es ≡ Some known → keys_of new ≡ keys_of es → new ≡ set_value (is_address a.address) es (noted_too known place a.scheduled)
      → AreNoted done place own es → AreNoted done place more new
  noted_known es new known e k w h = record {
    order = ap (map address_octets) k ∙ h.order ∙ sym (once_more ∙ ap (λ b. each_once (flat_map addresses_in done ++ addresses_in own) ++ cond b [] (a.address ∷ [])) is.named ∙ append-nil _);
    each = λ q. elim (cases_Bool (bytes_eq a.address q)) [
      | inl same ↦ subst (λ z. Noted done place more z (attendance_of z new)) (same_is _ _ same)
          (subst (Noted done place more a.address) (sym (ap (attendance_of a.address) w ∙ set_own a.address es _ known e)) (own_noted known is))
      | inr other ↦ subst (Noted done place more q) (sym (ap (attendance_of q) w ∙ set_other a.address q es _ other)) (other_noted q _ other (h.each q))
    ];
  }
    where
      is : IsNoted done place own a.address known
      is = subst (Noted done place own a.address) e (h.each a.address)

  -- with one of an address that isn't
  pub noted_new : (es new : Entries) (key : Address) → address_octets key ≡ a.address → attendance_of a.address es ≡ None → new ≡ es ++ (key, record { scheduled = a.scheduled; component = place; told = false }) ∷ []
      → AreNoted done place own es → AreNoted done place more new
  noted_new es new key k e w h = record {
    order = ap (λ l. map address_octets (keys_of l)) w ∙ ap (map address_octets) (map-append (λ (x : Address × Attendance). x.0) es _) ∙ map-append address_octets (keys_of es) (key ∷ [])
        ∙ (λ i. h.order i ++ k i ∷ [])
        ∙ sym (once_more ∙ ap (λ b. each_once (flat_map addresses_in done ++ addresses_in own) ++ cond b [] (a.address ∷ [])) is);
    each = λ q. elim (cases_Bool (bytes_eq a.address q)) [
      | inl same ↦ subst (λ z. Noted done place more z (attendance_of z new)) (same_is _ _ same)
          (subst (Noted done place more a.address) (sym (ap (attendance_of a.address) w ∙ push_own a.address key _ es (subst (λ z. bytes_eq a.address z ≡ true) (sym k) (same_itself a.address)) e)) (new_noted is))
      | inr other ↦ subst (Noted done place more q) (sym (ap (attendance_of q) w ∙ push_other q key _ es (not_key q other))) (other_noted q _ other (h.each q))
    ];
  }
    where
      is : Noted done place own a.address None
      is = subst (Noted done place own a.address) e (h.each a.address)

      not_key : (q : List ℕ) → bytes_eq a.address q ≡ false → bytes_eq q (address_octets key) ≡ false
      not_key q n = elim (cases_Bool (bytes_eq q (address_octets key))) [
        | inl same ↦ absurd (both_ways _ n (subst (λ z. bytes_eq a.address z ≡ true) (sym (same_is _ _ same ∙ k)) (same_itself a.address)))
        | inr none ↦ none
      ]

-- ---- components

-- none of them was told yet
pub none_told : (lists : List (List Attendee)) (place : ℕ) (es : Entries) → AreNoted lists place [] es → AreUntold es
none_told lists place es h q = at_entry (attendance_of q es) (h.each q)
  where
    at_entry : (r : Option Attendance) → Noted lists place [] q r → is_told_in r ≡ false
    at_entry None n = refl
    at_entry (Some a) n = n.untold
