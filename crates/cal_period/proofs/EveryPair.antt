-- Pairs of series by their places.
use Rattle.std.proofs.Common.{◌≡◌, ◌∙◌, ℕ, ◌<◌, List, length, map, get_or, subst, sym, ap}
use Rattle.std.specs.Prelude.{Option, Some, None, option_map, MatchOption}
use Rattle.std.specs.List.{slice_get}
use Rattle.std.proofs.lemmas.Option.{same_Some, slice_get-get_or, slice_get-map}
use Rattle.profile.specs.checker.Instances as instances
use Rattle.profile.specs.checker.Instances.{Instance as SaidInstance, AreClashing}
use Rattle.profile.specs.events.Events.{Event}
use Rattle.profile.specs.events.Starts.{IsInstance}
use Rattle.cal_events.specs.Calendar.{instance_of}
use Rattle.cal_events.specs.Series.{series_said}
use Rattle.cal_events.specs.declared.instance.Instance.{Instance}
use Rattle.cal_events.specs.declared.series.Series.{Series}
use Rattle.cal_period.specs.Clear.{AreSeriesClear, IsSeriesClear, ArePair, AreTwo}
use Rattle.cal_period.specs.Onward.{IsSharedByPair, IsSharedAlone}
use Rattle.cal_period.specs.Every.{IsPairClear, PairShares, IsAtShared}

-- ---- what was found

pub where_none : {X : Type 0} (o : Option X) (P : Type 0) (Q : X → Type 0) → o ≡ None → MatchOption o P Q → P
where_none None P Q e h = h
where_none (Some x) P Q e h = absurd (never e)
  where
    never : Some x ≡ None → ⊥
    never e = cc

pub where_some : {X : Type 0} (o : Option X) (P : Type 0) (Q : X → Type 0) (x : X) → o ≡ Some x → MatchOption o P Q → Q x
where_some {X = X} o P Q x e h = subst (λ (y : Option X). MatchOption y P Q) e h

pub none_exit : {X : Type 0} (o : Option X) (P : Type 0) (Q : X → Type 0) → o ≡ None → P → MatchOption o P Q
none_exit {X = X} o P Q e p = subst (λ (y : Option X). MatchOption y P Q) (sym e) p

-- ---- a place

-- the series at a place of a slice
pub said_at : (xs : List Series) (i : ℕ) (s : Series) → i < length xs → s ≡ get_or xs i s → slice_get (map series_said xs) i ≡ Some (series_said s)
said_at xs i s w e = slice_get-map series_said xs i ∙ ap (option_map series_said) (slice_get-get_or xs i s w ∙ ap Some (sym e))

-- two series are clear
pub clear_pair : (a b : Event) → AreSeriesClear a b → instances.AreClear (IsInstance a) (IsInstance b)
clear_pair a b clear x y t h k c = clear x y h k (record { instant = t; before = c.before; in_first = c.in_first; in_second = c.in_second })

pub clear_alone : (a : Event) → IsSeriesClear a → instances.AreClear (IsInstance a) (IsInstance a)
clear_alone a clear x y t h k c = clear x y h k c.differ (record { instant = t; before = c.before; in_first = c.in_first; in_second = c.in_second })

module _ (all : List Event) (i j : ℕ) where
  pub at_pair : (a b : Event) (shared : Option (Instance × Instance)) → slice_get all i ≡ Some a → slice_get all j ≡ Some b → (i ≡ j → ⊥) → IsSharedByPair a b shared → IsAtShared all i j shared
  at_pair a b shared at_i at_j apart = go shared
    where
      go : (o : Option (Instance × Instance)) → MatchOption o (AreSeriesClear a b) (λ p. ArePair a b (instance_of p.0) (instance_of p.1))
          → MatchOption o (IsPairClear all i j) (λ p. PairShares all i j (instance_of p.0) (instance_of p.1))
      go None clear = λ c d e f.
          let same : a ≡ c = same_Some a c (sym at_i ∙ e) in
          let same' : b ≡ d = same_Some b d (sym at_j ∙ f) in
          subst (λ m. instances.AreClear (IsInstance m) (IsInstance d)) same (subst (λ m. instances.AreClear (IsInstance a) (IsInstance m)) same' (clear_pair a b clear))
      go (Some p) is = record { a = a; b = b; at_first = at_i; at_second = at_j; first = is.first; second = is.second; differ = λ e. absurd (apart e); shared = is.shared }

  pub at_alone : (a : Event) (shared : Option (Instance × Instance)) → slice_get all i ≡ Some a → i ≡ j → IsSharedAlone a shared → IsAtShared all i j shared
  at_alone a shared at_i same = go shared
    where
      at_j : slice_get all j ≡ Some a
      at_j = sym (ap (slice_get all) same) ∙ at_i

      go : (o : Option (Instance × Instance)) → MatchOption o (IsSeriesClear a) (λ p. AreTwo a (instance_of p.0) (instance_of p.1))
          → MatchOption o (IsPairClear all i j) (λ p. PairShares all i j (instance_of p.0) (instance_of p.1))
      go None clear = λ c d e f.
          let one : a ≡ c = same_Some a c (sym at_i ∙ e) in
          let two : a ≡ d = same_Some a d (sym at_j ∙ f) in
          subst (λ m. instances.AreClear (IsInstance m) (IsInstance d)) one (subst (λ m. instances.AreClear (IsInstance a) (IsInstance m)) two (clear_alone a clear))
      go (Some p) is = record { a = a; b = a; at_first = at_i; at_second = at_j; first = is.first; second = is.second; differ = λ e. is.differ; shared = is.shared }
