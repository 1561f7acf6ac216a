-- How a walk begins and goes on.
use Rattle.std.proofs.Common.{◌≡◌, ◌∙◌, ap, sym, subst, inl, inr, ◌⊎◌, ℕ, refl, arith, ℤ, pos, ◌+ℤ◌, ◌<ℤ◌, ◌≤ℤ◌}
use Rattle.std.specs.Prelude.{Option, Some, None, ◌↔◌, IfSome, MatchOption}
use Rattle.std.proofs.lemmas.Int.{ints}
use Rattle.profile.specs.checker.Instances.{Instance as SaidInstance}
use Rattle.profile.specs.events.Properties.{first_second}
use Rattle.profile.specs.events.Events.{Event}
use Rattle.cal_events.specs.Series.{AreKnownByStart}
use Rattle.cal_events.specs.declared.sweep.Span.{Span}
use Rattle.cal_events.proofs.shared_lemmas.WholeLists.{order}
use Rattle.clash_check.specs.Draws.{IsInstanceSpan, IsSpanBetween}
use Rattle.clash_check.specs.Walks.{IsBelow, place_of_walk, IsWalkedPast, IsLastWalkedPast, IsWalkThrough, BeginsAtFirst, PassesOne, IsLaterEnd}
use Rattle.clash_check.specs.declared.walk.Walk.{Walk}

-- ---- of the series

pub below_one : (series : Event) (bound : ℤ) → AreKnownByStart series → (s e f : ℤ) → IsBelow series bound s e → IsBelow series bound s f → e ≡ f
below_one series bound known s e f ((b, is, p, q), l) ((c, it, u, v), m) = sym q ∙ ap (λ (x : SaidInstance). x.end) (known.one b c is it (p ∙ sym u)) ∙ v

pub span_dates : (series : Event) → AreKnownByStart series → (s e : ℤ) → IsInstanceSpan series s e → first_second ≤ℤ s
span_dates series known s e (b, is, p, q) = let d = (known.dates b is).0 in omega (arith, ints, d, p)

-- ---- one more is drawn

module _ (Is Old New : ℤ → ℤ → Type 0) (bound from : ℤ) (below : (s e : ℤ) → Is s e → s <ℤ bound) (left : (s e : ℤ) → Old s e ↔ (Is s e × (from ≤ℤ s))) where
  -- the first of those that come, or none comes
  abbrev pub Gives : Option Span → Type 0
  Gives found = MatchOption found ((s e : ℤ) → Old s e → ⊥) (λ x. Old x.start x.end × ((s e : ℤ) → Old s e → x.start ≤ℤ s))

  abbrev pub Leaves : Option Span → Type 0
  Leaves found = (s e : ℤ) → New s e ↔ (Old s e × IfSome found (λ x. x.start <ℤ s))

  pub next_one : (found : Option Span) → Gives found → IfSome found (λ x. Is x.start x.end)
  next_one None g = tt
  next_one (Some x) g = ((left x.start x.end).0 g.0).0

  pub none_before : (found : Option Span) → Gives found → (s e : ℤ) → Is s e → from ≤ℤ s → place_of_walk bound found ≤ℤ s
  none_before None g s e is l = absurd (g s e ((left s e).1 (is, l)))
  none_before (Some x) g s e is l = g.1 s e ((left s e).1 (is, l))

  pub further : (found : Option Span) → Gives found → from ≤ℤ bound → from ≤ℤ place_of_walk bound found
  further None g l = l
  further (Some x) g l = ((left x.start x.end).0 g.0).1

  pub rest_is : (found : Option Span) → Gives found → Leaves found → (s e : ℤ) → New s e ↔ (Is s e × (place_of_walk bound found <ℤ s))
  rest_is None g r s e = (λ n. absurd (g s e ((r s e).0 n).0), λ h. let l = below s e h.0 in absurd (omega (arith, ints, h.1, l)))
  rest_is (Some x) g r s e = (
    λ n. let o = (r s e).0 n in (((left s e).0 o.0).0, o.1),
    λ h. let l = ((left x.start x.end).0 g.0).1 in (r s e).1 ((left s e).1 (h.0, omega (arith, ints, h.1, l)), h.1),
  )

  pub begun : ((s e : ℤ) → Is s e → from ≤ℤ s) → (found : Option Span) → Gives found → Leaves found → (i : ℕ) → BeginsAtFirst Is New bound (record { series = i; next = found; last = None })
  begun early found g r i = record {
    is_walk = record {
      next = next_one found g;
      rest = rest_is found g r;
      last = λ s e h. let l = none_before found g s e h.0 (early s e h.0) in absurd (omega (arith, ints, h.1, l));
    };
    none = refl;
  }

-- ---- at the first

pub at_first : (series : Event) (bound : ℤ) (Old New : ℤ → ℤ → Type 0) (from : ℤ) → AreKnownByStart series → from ≤ℤ first_second
    → ((s e : ℤ) → Old s e ↔ IsSpanBetween series from bound s e) → (found : Option Span)
    → MatchOption found ((s e : ℤ) → Old s e → ⊥) (λ x. Old x.start x.end × ((s e : ℤ) → Old s e → x.start ≤ℤ s))
    → ((s e : ℤ) → New s e ↔ (Old s e × IfSome found (λ x. x.start <ℤ s)))
    → (i : ℕ) → BeginsAtFirst (IsBelow series bound) New bound (record { series = i; next = found; last = None })
at_first series bound Old New from known least old found g r i =
    begun (IsBelow series bound) Old New bound first_second (λ s e is. is.1)
    (λ s e. (
      λ o. let b = (old s e).0 o in ((b.0, b.2), span_dates series known s e b.0),
      λ h. (old s e).1 (h.0.0, omega (arith, ints, h.1, least), h.0.1),
    ))
    (λ s e is. span_dates series known s e is.0) found g r i

-- ---- past one

module _ (Is Old New : ℤ → ℤ → Type 0) (bound : ℤ) (below : (s e : ℤ) → Is s e → s <ℤ bound) (one : (s e f : ℤ) → Is s e → Is s f → e ≡ f)
    (walk : Walk) (is : IsWalkThrough Is Old bound walk) (next : Span) (at : walk.next ≡ Some next) where
  abbrev pub here : ℤ
  here = place_of_walk bound walk.next

  starts : here ≡ next.start
  starts = ap (place_of_walk bound) at

  own : Is next.start next.end
  own = subst (λ (o : Option Span). IfSome o (λ x. Is x.start x.end)) at is.next

  abbrev pub from : ℤ
  from = here +ℤ pos 1

  pub left : (s e : ℤ) → Old s e ↔ (Is s e × (from ≤ℤ s))
  left s e = (λ o. let h = (is.rest s e).0 o in (h.0, omega (arith, ints, h.1)), λ h. (is.rest s e).1 (h.0, omega (arith, ints, h.1)))

  module _ (after : Option Span) (g : Gives Is Old New bound from below left after) (r : Leaves Is Old New bound from below left after) where
    abbrev there : ℤ
    there = place_of_walk bound after

    onward : here <ℤ there
    onward =
        let b = below next.start next.end own in
        let f = further Is Old New bound from below left after g (omega (arith, ints, b, starts)) in
        omega (arith, ints, f)

    was : (s e : ℤ) → IsWalkedPast Is there s e → IsWalkedPast Is here s e ⊎ ((s ≡ next.start) × (e ≡ next.end))
    was s e h = elim (order s here) [
      | inl l ↦ inl (h.0, l)
      | inr o ↦ elim o [
        | inl same ↦ let at_next : s ≡ next.start = same ∙ starts in inr (at_next, one next.start e next.end (subst (λ x. Is x e) at_next h.0) own)
        | inr l ↦ let f = none_before Is Old New bound from below left after g s e h.0 (omega (arith, ints, l)) in absurd (omega (arith, ints, h.1, f))
      ]
    ]

    ends_before : (last : Option Span) (later : Span) → IsLastWalkedPast Is here last → IfSome last (λ l. l.end ≤ℤ later.end) → (s e : ℤ) → IsWalkedPast Is here s e → e ≤ℤ later.end
    ends_before None later l m s e h = absurd (l s e h)
    ends_before (Some x) later l m s e h = let k = l.1 s e h in omega (arith, ints, k, m)

    later_behind : (later : Span) → (walk.last ≡ Some later) ⊎ (later ≡ next) → IsWalkedPast Is there later.start later.end
    later_behind later (inl e) =
        let h = (subst (IsLastWalkedPast Is here) e is.last).0 in
        let f = onward in
        (h.0, omega (arith, ints, h.1, f))
    later_behind later (inr e) = let f = onward in subst (λ (x : Span). IsWalkedPast Is there x.start x.end) (sym e) (own, omega (arith, ints, f, starts))

    pub gone_past : (later : Span) → IsLaterEnd walk.last next later → (i : ℕ) → PassesOne Is New bound next walk (record { series = i; next = after; last = Some later })
    gone_past later ends i = record {
      is_walk = record {
        next = next_one Is Old New bound from below left after g;
        rest = rest_is Is Old New bound from below left after g r;
        last = (
          later_behind later ends.one,
          λ s e h. elim (was s e h) [
            | inl old ↦ ends_before walk.last later is.last ends.than_old s e old
            | inr same ↦ let k = ends.than_next in let q = same.1 in omega (arith, ints, k, q)
          ],
        );
      };
      further = onward;
      one = was;
    }
