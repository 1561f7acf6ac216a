-- The zones that have the onsets after an instant. For `single_after` and `pair_of_runs`.
use Rattle.std.proofs.Common.{◌≡◌, ◌∙◌, sym, refl, subst, arith, inl, inr, ℕ, ◌==◌, true, List, ℤ, ◌+ℤ◌}
use Rattle.std.specs.Prelude.{Option, Some, None, Result, Ok, Err, IfSome, IfOk}
use Rattle.std.specs.Result.{result_ok}
use Rattle.std.specs.Int.Signed.{◌<ℤ◌}
use Rattle.std.proofs.lemmas.Int.{ints}
use Rattle.std.proofs.lemmas.Bool.Decides.{nat_tests}
use Rattle.profile.specs.series.Zones.{Observance, Zone, Pair, Onset, IsOnset, begins_on, local_time}
use Rattle.profile.specs.series.GeneralZones.{Run, IsGeneralOnset}
use Rattle.cal_doors.specs.Passing.{PassesOnly, PassesPair}
use Rattle.cal_doors.specs.After.{HasOnsetsAfter, IsOnceAt}

-- an observance without a rule begins on its DTSTART alone
on_start : (o : Observance) → o.rule ≡ None → begins_on o o.day ≡ true
on_start o e = rw e (grind (arith, nat_tests))

only_start : (o : Observance) (day : ℕ) → o.rule ≡ None → begins_on o day ≡ true → day ≡ o.day
only_start o day e h = let t : (day == o.day) ≡ true = rw e at h in grind (arith, nat_tests)

same_onset : (x y : Onset) → x.instant ≡ y.instant → x.before ≡ y.before → x.after ≡ y.after → x ≡ y
same_onset x y e f g = rw (e, f, g) refl

pub one_onset : (zone : List Run) (instant only from to : ℤ) (z : Zone) (x : Onset) → IsGeneralOnset zone x → x.instant ≡ only → x.before ≡ from → x.after ≡ to
    → ((y : Onset) → IsGeneralOnset zone y → PassesOnly instant only from to y) → IsOnceAt only from to z → HasOnsetsAfter zone instant z
one_onset zone instant only from to z x listed at before after all once =
    let o = once.o in
    subst (HasOnsetsAfter zone instant) (sym once.is) (record {
      there = λ y later is.
          let p = all y is later in
          let e = p.0 in
          let l = once.local in
          let b = once.before in
          record {
            day = o.day;
            begins = on_start o once.no_rule;
            read = omega (arith, ints, e, l, b);
            before = p.1 ∙ sym once.before;
            after = p.2 ∙ sym once.after;
          };
      back = λ y later is.
          let r : y.instant +ℤ o.offset_from ≡ local_time o.day o.second = subst (λ d. y.instant +ℤ o.offset_from ≡ local_time d o.second) (only_start o is.day once.no_rule is.begins) is.read in
          let l = once.local in
          let b = once.before in
          let e : x.instant ≡ y.instant = omega (arith, ints, r, l, b, at) in
          subst (IsGeneralOnset zone) (same_onset x y e (before ∙ sym once.before ∙ sym is.before) (after ∙ sym once.after ∙ sym is.after)) listed;
      sides = tt;
    })

pub two_rules : (zone : List Run) (instant : ℤ) (a b : Observance) (z : Zone) → z ≡ Pair a b → ((x : Onset) → IsGeneralOnset zone x → PassesPair instant a b x)
    → ((x : Onset) → IsOnset a x → instant <ℤ x.instant → IsGeneralOnset zone x) → ((x : Onset) → IsOnset b x → instant <ℤ x.instant → IsGeneralOnset zone x)
    → a.offset_to <ℤ a.offset_from → HasOnsetsAfter zone instant z
two_rules zone instant a b z e all one other back = subst (HasOnsetsAfter zone instant) (sym e) (record {
  there = λ x later is. all x is later;
  back = λ x later is. elim is [ inl h ↦ one x h later | inr h ↦ other x h later ];
  sides = back;
})

pub turned : (zone : List Run) (instant : ℤ) (a b : Observance) → ((x : Onset) → IsGeneralOnset zone x → PassesPair instant a b x) → (x : Onset) → IsGeneralOnset zone x → PassesPair instant b a x
turned zone instant a b all x is later = elim (all x is later) [ inl h ↦ inr h | inr h ↦ inl h ]

-- ---- what comes out of a call

pub some_map : {A : Type 0} (r : Option A) (P Q : A → Type 0) → ((a : A) → P a → Q a) → IfSome r P → IfSome r Q
some_map None P Q f h = tt
some_map (Some a) P Q f h = f a h

pub of_ok : {A E : Type 0} (r : Result A E) (o : Option A) (P : A → Type 0) → o ≡ result_ok r → IfOk r P → IfSome o P
of_ok (Ok a) o P e h = subst (λ p. IfSome p P) (sym e) h
of_ok (Err x) o P e h = subst (λ p. IfSome p P) (sym e) tt
