-- The instants that a recurrence keeps in order, and its starts.
-- Cited by Event::of of event, first_added of instances, is_wanted of instances, Recurrence::of of recurrence, starts_of of recurrence.
use Rattle.std.proofs.Common.{◌≡◌, ◌∙◌, ℕ, zero, suc, ◌+◌, ◌<◌, ◌≤◌, true, List, [], ◌∷◌, ◌++◌, length, map, get_or, take, take_all, refl, sym, ap, subst, arith, inl, inr, ◌⊎◌, ℤ, ◌<ℤ◌, ◌≤ℤ◌}
use Rattle.std.specs.Prelude.{Contains, Option, Some, None, ◌↔◌}
use Rattle.std.specs.declared.cmp.Ordering.{Ordering}
use Rattle.std.specs.declared.cmp.Ordering.TheVariants.{Less, Equal, Greater}
use Rattle.std.specs.Ordering.{int_cmp, int_eq, is_eq}
use Rattle.std.proofs.lemmas.Bool.{false≢true}
use Rattle.std.proofs.lemmas.Option.{same_Some}
use Rattle.std.proofs.lemmas.Cmp.{int_ranked, int_cmp_total, tied_itself}
use Rattle.std.proofs.lemmas.List.{take_more}
use Rattle.std.proofs.lemmas.List.Elements.{Contains-append_left, Contains-push, Contains-push_cases}
use Rattle.std.proofs.lemmas.List.Folds.{Any-from_list_any, list_any-from_Any}
use Rattle.profile.specs.checker.Instances.{horizon}
use Rattle.profile.specs.events.EventComponents.{EventComponent as SaidComponent}
use Rattle.profile.specs.events.Starts.{IsReplaced}
use Rattle.cal_events.specs.MeetingComponents.{instants_said}
use Rattle.cal_events.specs.declared.instances.Bound.{Bound}
use Rattle.cal_events.specs.Instants.{IsFirstFrom, HasInstant, IsAdmitted, AreStarts, AreStartsOf, AreReplacedIn}
use Rattle.cal_events.specs.Recurrence.{recurring}
use Rattle.cal_events.specs.declared.recurrence.Recurrence.{Recurrence}
use Rattle.cal_events.specs.Instances.{IsAfter, IsWanted, IsLeast}

-- ---- one of them is this one

equal_there : (x y : ℤ) (r : Ordering) → r ≡ int_cmp x y → is_eq r ≡ true → x ≡ y
equal_there x y Less e h = absurd (false≢true h)
equal_there x y Equal e h = int_ranked x y Equal e
equal_there x y Greater e h = absurd (false≢true h)

pub has_from : (xs : List ℤ) (t : ℤ) → Contains xs t → HasInstant xs t
has_from xs t c = list_any-from_Any (λ own. int_eq own t) xs (c.0, t, c.1, c.2, ap is_eq (tied_itself int_cmp_total t))

pub has_at : (xs : List ℤ) (t : ℤ) → HasInstant xs t → Contains xs t
has_at xs t h =
    let a = Any-from_list_any (λ own. int_eq own t) xs h in
    let same : a.1 ≡ t = equal_there a.1 t (int_cmp a.1 t) refl a.4 in
    subst (Contains xs) same (a.0, a.2, a.3)

-- ---- what hides a start

in_some : (xs : List ℤ) (t : ℤ) → Contains xs t → Contains (map Some xs) (Some t)
in_some [] t (k, w, e) = absurd (omega (arith, w))
in_some (x ∷ xs) t (zero, w, e) = (0, omega arith, ap Some e)
in_some (x ∷ xs) t (suc k, w, e) = let r = in_some xs t (k, omega (arith, w), e) in (suc r.0, omega (arith, r.1), r.2)

of_some : (xs : List ℤ) (t : ℤ) → Contains (map Some xs) (Some t) → Contains xs t
of_some [] t (k, w, e) = absurd (omega (arith, w))
of_some (x ∷ xs) t (zero, w, e) = (0, omega arith, same_Some x t e)
of_some (x ∷ xs) t (suc k, w, e) = let r = of_some xs t (k, omega (arith, w), e) in (suc r.0, omega (arith, r.1), r.2)

-- an override replaces this instant where one is for it
said_at : (os : List SaidComponent) (y : SaidComponent) (t : ℤ) → Contains os y → y.recurrence ≡ Some t → Contains (instants_said os) (Some t)
said_at [] y t (k, w, e) is = absurd (omega (arith, w))
said_at (o ∷ os) y t (zero, w, e) is = (0, omega arith, ap (λ (x : SaidComponent). x.recurrence) e ∙ is)
said_at (o ∷ os) y t (suc k, w, e) is = let c = said_at os y t (k, omega (arith, w), e) is in (suc c.0, omega (arith, c.1), c.2)

at_said : (os : List SaidComponent) (t : ℤ) → Contains (instants_said os) (Some t) → IsReplaced (Contains os) t
at_said [] t (k, w, e) = absurd (omega (arith, w))
at_said (o ∷ os) t (zero, w, e) = record { override = o; among = (0, omega arith, refl); is = e }
at_said (o ∷ os) t (suc k, w, e) = let r = at_said os t (k, omega (arith, w), e) in record { override = r.override; among = (suc r.among.0, omega (arith, r.among.1), r.among.2); is = r.is }

-- the instants that overrides are for are those that they replace
module _ (overrides : List SaidComponent) (instants : List ℤ) (said : map Some instants ≡ instants_said overrides) where
  pub replaced_at : (t : ℤ) → Contains instants t → IsReplaced (Contains overrides) t
  replaced_at t c = at_said overrides t (subst (λ (l : List (Option ℤ)). Contains l (Some t)) said (in_some instants t c))

  pub replaced_in : (exceptions : List ℤ) → ((t : ℤ) → Contains instants t → Contains exceptions t) → AreReplacedIn overrides exceptions
  replaced_in exceptions all t x =
      has_from exceptions t (all t (of_some instants t (subst (λ (l : List (Option ℤ)). Contains l (Some t)) (sym said) (said_at overrides x.override t x.among x.is))))

none_replaced : (t : ℤ) → IsReplaced (Contains []) t → ⊥
none_replaced t x = omega (arith, x.among.1)

-- an instant that isn't before the bound is wanted where it is a start
pub wanted_by : (r : Recurrence) (bound : Bound) (t : ℤ) → IsAfter bound t t → IsAdmitted r.exceptions t ↔ IsWanted (recurring r) [] bound t
wanted_by r bound t after = (
  (λ h. record { after = after; in_dates = h.0; not_excepted = h.1; not_replaced = none_replaced t }),
  λ w. (w.in_dates, w.not_excepted),
)

-- ---- those that are starts

pub all_admitted : (instants exceptions starts : List ℤ) → AreStartsOf instants exceptions starts → AreStarts starts exceptions
all_admitted instants exceptions starts are t h = ((are t).0 (has_at starts t h)).1

-- the first that isn't before the bound is the first that is wanted
pub first_wanted : (r : Recurrence) (bound : Bound) (from : ℤ) (found : Option ℤ) → AreStarts r.additions r.exceptions
    → ((t : ℤ) → t <ℤ horizon → IsAfter bound t t ↔ (from ≤ℤ t)) → IsFirstFrom r.additions from found → IsLeast (λ t. Contains r.additions t × IsWanted (recurring r) [] bound t) found
first_wanted r bound from None starts after h = λ t c. h t c.0 ((after t c.1.in_dates.1).0 c.1.after)
first_wanted r bound from (Some x) starts after h =
    let a = starts x (has_from r.additions x h.0) in (
      (h.0, record { after = (after x a.0.1).1 h.1; in_dates = a.0; not_excepted = a.1; not_replaced = none_replaced x }),
      λ u c. h.2 u c.0 ((after u c.1.in_dates.1).0 c.1.after),
    )

-- one more that is one, and one more that isn't
abbrev pub AreKept : (ℤ → Type 0) → List ℤ → List ℤ → Type 0
AreKept P xs starts = (t : ℤ) → Contains starts t ↔ (Contains xs t × P t)

module _ (P : ℤ → Type 0) (xs starts : List ℤ) (k : ℕ) (x : ℤ) (w : k < length xs) (e : get_or xs k x ≡ x) (are : AreKept P (take k xs) starts) where
  grown : take (k + 1) xs ≡ take k xs ++ x ∷ []
  grown = take_more xs k x w ∙ ap (λ y. take k xs ++ y ∷ []) e

  more : (t : ℤ) → Contains (take k xs) t → Contains (take (k + 1) xs) t
  more t c = subst (λ (l : List ℤ). Contains l t) (sym grown) (Contains-append_left (take k xs) (x ∷ []) t c)

  here : Contains (take (k + 1) xs) x
  here = subst (λ (l : List ℤ). Contains l x) (sym grown) (Contains-push (take k xs) x)

  less : (t : ℤ) → Contains (take (k + 1) xs) t → Contains (take k xs) t ⊎ (x ≡ t)
  less t c = Contains-push_cases (take k xs) x t (subst (λ (l : List ℤ). Contains l t) grown c)

  pub kept_more : (new : List ℤ) → new ≡ starts ++ x ∷ [] → P x → AreKept P (take (k + 1) xs) new
  kept_more new is p t = (
    (λ c. elim (Contains-push_cases starts x t (subst (λ (l : List ℤ). Contains l t) is c)) [
      | inl old ↦ let a = (are t).0 old in (more t a.0, a.1)
      | inr same ↦ subst (λ (y : ℤ). Contains (take (k + 1) xs) y × P y) same (here, p)
    ]),
    λ h. subst (λ (l : List ℤ). Contains l t) (sym is) (elim (less t h.0) [
      | inl old ↦ Contains-append_left starts (x ∷ []) t ((are t).1 (old, h.1))
      | inr same ↦ subst (λ (y : ℤ). Contains (starts ++ x ∷ []) y) same (Contains-push starts x)
    ]),
  )

  pub kept_past : (P x → ⊥) → AreKept P (take (k + 1) xs) starts
  kept_past not t = (
    (λ c. let a = (are t).0 c in (more t a.0, a.1)),
    λ h. elim (less t h.0) [ inl old ↦ (are t).1 (old, h.1) | inr same ↦ absurd (not (subst P (sym same) h.1)) ],
  )

pub kept_whole : (P : ℤ → Type 0) (xs starts sorted : List ℤ) (k : ℕ) → length xs ≤ k → AreKept P (take k xs) starts → ((t : ℤ) → Contains sorted t ↔ Contains starts t) → AreKept P xs sorted
kept_whole P xs starts sorted k le are same t =
    let all = subst (λ (l : List ℤ). AreKept P l starts) (take_all k xs le) are in (
      (λ c. (all t).0 ((same t).0 c)),
      λ h. (same t).1 ((all t).1 h),
    )
