-- Attendees in memory who were sent a message.
use Rattle.std.proofs.Common.{◌≡◌, ◌∙◌, ℕ, Bool, true, false, ◌&&◌, ◌||◌, is_some, List, [], ◌∷◌, ◌++◌, Option, None, Some, refl, sym, ap, subst, inl, inr}
use Rattle.std.specs.Prelude.{option_map}
use Rattle.std.specs.List.{list_any}
use Rattle.std.specs.Map.{keys_of, set_value}
use Rattle.std.specs.Str.{bytes_eq}
use Rattle.std.proofs.lemmas.Bool.{both_ways, cases_Bool}
use Rattle.std.proofs.Math.Bool.{or_assoc}
use Rattle.std.proofs.lemmas.List.Folds.{list_any-append}
use Rattle.profile.specs.events.EventComponents.{Attendee}
use Rattle.organiser_books.specs.declared.attending.Attendance.{Attendance}
use Rattle.organiser_books.specs.Attending.{AreAttending, AreSentTo, AreUntold, Entries, attendance_of, is_address, is_told, is_told_in, names, told_too}
use Rattle.organiser_books.proofs.Lines.{same_is, same_itself}
use Rattle.organiser_books.proofs.Noting.{set_other, set_own}
use Rattle.organiser_books.proofs.Said.{known_is}

or_true : (a : Bool) → (a || true) ≡ true
or_true true = refl
or_true false = refl

or_false : (a : Bool) → (a || false) ≡ a
or_false true = refl
or_false false = refl

-- nothing more was told
told_none : (r : Option Attendance) → option_map (told_too false) r ≡ r
told_none None = refl
told_none (Some k) = λ i. Some (record k { told = or_false k.told i })

-- this and that was told
told_both : (a b : Bool) (r : Option Attendance) → option_map (told_too b) (option_map (told_too a) r) ≡ option_map (told_too (a || b)) r
told_both a b None = refl
told_both a b (Some k) = λ i. Some (record k { told = or_assoc k.told a b i })

pub told_nobody : (es : Entries) → AreSentTo [] es es
told_nobody es = record { order = refl; each = λ q. sym (told_none (attendance_of q es)) }

pub told_then : (xs ys : List (List ℕ)) (es fs gs : Entries) → AreSentTo xs es fs → AreSentTo ys fs gs → AreSentTo (xs ++ ys) es gs
told_then xs ys es fs gs h k = record {
  order = k.order ∙ h.order;
  each = λ q.
      k.each q
      ∙ ap (option_map (told_too (list_any (bytes_eq q) ys))) (h.each q)
      ∙ told_both (list_any (bytes_eq q) xs) (list_any (bytes_eq q) ys) (attendance_of q es)
      ∙ ap (λ (b : Bool). option_map (told_too b) (attendance_of q es)) (sym (list_any-append (bytes_eq q) xs ys));
}

-- one who is known
pub told_known : (a : List ℕ) (es new : Entries) (known : Attendance) → attendance_of a es ≡ Some known → keys_of new ≡ keys_of es → new ≡ set_value (is_address a) es (record known { told = true }) → AreSentTo (a ∷ []) es new
told_known a es new known e k w = record {
  order = k;
  each = λ q. elim (cases_Bool (bytes_eq a q)) [
    | inl same ↦ subst (λ (z : List ℕ). attendance_of z new ≡ option_map (told_too (bytes_eq z a || false)) (attendance_of z es)) (same_is _ _ same)
        (ap (attendance_of a) w ∙ set_own a es _ known e ∙ (λ i. Some (record known { told = sym (or_true known.told) i })) ∙ sym ((λ i. option_map (told_too (itself i || false)) (e i))))
    | inr other ↦
        let none : (bytes_eq q a || false) ≡ false = ap (λ b. b || false) (apart q other) in
        ap (attendance_of q) w ∙ set_other a q es _ other ∙ sym (ap (λ (b : Bool). option_map (told_too b) (attendance_of q es)) none ∙ told_none (attendance_of q es))
  ];
}
  where
    itself : bytes_eq a a ≡ true
    itself = same_itself a

    apart : (q : List ℕ) → bytes_eq a q ≡ false → bytes_eq q a ≡ false
    apart q n = elim (cases_Bool (bytes_eq q a)) [
      | inl same ↦ absurd (both_ways _ n (subst (λ (z : List ℕ). bytes_eq a z ≡ true) (sym (same_is q a same)) (same_itself a)))
      | inr none ↦ none
    ]

-- ---- whom they are

-- they are those of them who were told, where nobody was before
pub told_are : (lists : List (List Attendee)) (to : List (List ℕ)) (es new : Entries) → AreAttending lists es → AreUntold es → AreSentTo to es new → (q : List ℕ) → is_told q new ≡ (list_any (names q) lists && list_any (bytes_eq q) to)
told_are lists to es new are untold t q = ap is_told_in (t.each q) ∙ at_entry (list_any (bytes_eq q) to) (attendance_of q es) (untold q) ∙ ap (λ b. b && list_any (bytes_eq q) to) (known_is lists es q are)
  where
    at_entry : (b : Bool) (r : Option Attendance) → is_told_in r ≡ false → is_told_in (option_map (told_too b) r) ≡ (is_some r && b)
    at_entry b None h = refl
    at_entry b (Some k) h = ap (λ t. t || b) h
