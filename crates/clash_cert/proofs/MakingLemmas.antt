-- Which of two clashing instances is named first.
use Rattle.std.proofs.Common.{◌≡◌, ◌≢◌, ℕ, Bool, true, false, ◌<◌, ◌≤◌, ℤ, ◌≤ℤ◌, List, [], ◌∷◌, length, get_or, subst, sym, refl, ap, inl, inr, ◌∙◌, arith, Ordering, map}
use Rattle.std.specs.Prelude.{Option, Some, None, option_map, is_some, Contains, MatchBool}
use Rattle.std.specs.declared.cmp.Ordering.TheVariants.{Less, Equal, Greater}
use Rattle.std.specs.Ordering.{is_lt, int_cmp, ordering_then, ordering_reverse}
use Rattle.std.specs.Cmp.{IsTotalOrder}
use Rattle.std.proofs.lemmas.Cmp.{on_total, then_total, int_cmp_total}
use Rattle.std.proofs.lemmas.Int.{ints}
use Rattle.std.specs.List.{slice_get}
use Rattle.std.proofs.lemmas.List.{length-map}
use Rattle.std.proofs.lemmas.Bool.{false≢true, cases_lt}
use Rattle.std.proofs.lemmas.Option.{same_Some, slice_get-get_or, slice_get_within, get_or_from_slice_get}
use Rattle.profile.specs.checker.Instances.{Key, Instance as SaidInstance, IsClear, AreClashing, AreClear, instance_cmp, key_cmp}
use Rattle.profile.specs.events.Events.{Event}
use Rattle.profile.specs.events.Starts.{IsInstance, SharesInstant}
use Rattle.profile.specs.events.Confirmed.{Confirmed, IsInSeries, IsOneOf}
use Rattle.cal_events.specs.Calendar.{instance_of, owned_key_of, HaveOwnKeys}
use Rattle.cal_events.specs.Series.{series_said}
use Rattle.cal_events.specs.declared.series.Series.{Series}
use Rattle.cal_period.proofs.EveryPair.{said_at}
use Rattle.cal_period.specs.Clear.{ShareStart}
use Rattle.cal_events.specs.declared.instance.Instance.{Instance}
use Rattle.cal_events.specs.declared.instance.OwnedKey.{OwnedKey}
use Rattle.cal_events.proofs.draft_lemmas.KeyLemmas.{key_total, key_exact}
use Rattle.clash_cert.specs.declared.making.Clash.{Clash}
use Rattle.clash_cert.specs.Makings.{HasKeys, IsNamedClash, IsNamedAs, AreBothNamed, IsLaterStart, NamesOf}
use Rattle.ical_values.proofs.Facts.{is_lt_true}

booked_total : IsTotalOrder instance_cmp
booked_total = then_total (on_total (λ (b : SaidInstance). b.start) int_cmp_total) (on_total (λ (b : SaidInstance). b.key) key_total)

then_equal : (r s : Ordering) → ordering_then r s ≡ Equal → s ≡ Equal
then_equal Less s e = cc
then_equal Equal s e = e
then_equal Greater s e = cc

then_less : (r s : Ordering) → ordering_then r s ≡ Less → r ≡ Greater → ⊥
then_less Less s e f = cc
then_less Equal s e f = cc
then_less Greater s e f = cc

not_after : (a b : ℤ) → (int_cmp a b ≡ Greater → ⊥) → a ≤ℤ b
not_after a b h = grind (arith, ints)

-- a clash the other way round
pub turned : (a b : SaidInstance) (t : ℤ) → AreClashing a b t → AreClashing b a t
turned a b t h = record { differ = λ e. h.differ (sym e); before = h.before; in_first = h.in_second; in_second = h.in_first }

-- what comes before is less
pub less_from_before : (a b : SaidInstance) → is_lt (instance_cmp a b) ≡ true → instance_cmp a b ≡ Less
less_from_before a b h = is_lt_true (instance_cmp a b) h

turned_less : (a b : SaidInstance) → (a.key ≡ b.key → ⊥) → (r : Ordering) → instance_cmp b a ≡ r → is_lt r ≡ false → instance_cmp a b ≡ Less
turned_less a b differ Less e h = cc
turned_less a b differ Equal e h = absurd (differ (sym (key_exact b.key a.key (then_equal (int_cmp b.start a.start) (key_cmp b.key a.key) e))))
turned_less a b differ Greater e h = booked_total.antisymm a b ∙ ap ordering_reverse e

-- of two keys that differ, what doesn't come after is less
pub less_from_not_before : (a b : SaidInstance) → (a.key ≡ b.key → ⊥) → is_lt (instance_cmp b a) ≡ false → instance_cmp a b ≡ Less
less_from_not_before a b differ h = turned_less a b differ (instance_cmp b a) refl h

-- ---- naming

not_later : (a b : SaidInstance) → instance_cmp a b ≡ Less → a.start ≤ℤ b.start
not_later a b e = not_after a.start b.start (λ g. then_less (int_cmp a.start b.start) (key_cmp a.key b.key) e g)

-- two instances that share an instant, named by their order, are a clash
module _ (all : Confirmed) (a b : SaidInstance) (clash : Clash) (in_a : IsOneOf all a) (in_b : IsOneOf all b) (differ : a.key ≡ b.key → ⊥) (s : SharesInstant a.start a.end b.start b.end) where
  clashing : IsLaterStart a b clash.instant → AreClashing a b clash.instant
  clashing l =
      let most : clash.instant ≤ℤ s.instant = elim l.2 [
        | inl e ↦ omega (arith, ints, e, s.in_first.0)
        | inr e ↦ omega (arith, ints, e, s.in_second.0)
      ] in
      record {
        differ = differ;
        before = omega (arith, ints, most, s.before);
        in_first = (l.0, omega (arith, ints, most, s.in_first.1));
        in_second = (l.1, omega (arith, ints, most, s.in_second.1));
      }

  go : (r : Ordering) → instance_cmp b a ≡ r → MatchBool (is_lt r) (HasKeys b a clash.instant clash) (HasKeys a b clash.instant clash) → IsLaterStart a b clash.instant → IsNamedClash all clash
  go Less e keys l =
      let before = not_later b a e in
      record {
        a = b;
        b = a;
        keys = keys;
        first = in_b;
        second = in_a;
        is = turned a b clash.instant (clashing l);
        less = e;
        later = elim l.2 [ inl same ↦ same | inr same ↦ omega (arith, ints, same, before, l.0) ];
      }
  go Equal e keys l = absurd (differ (sym (key_exact b.key a.key (then_equal (int_cmp b.start a.start) (key_cmp b.key a.key) e))))
  go Greater e keys l =
      let less : instance_cmp a b ≡ Less = booked_total.antisymm a b ∙ ap ordering_reverse e in
      let before = not_later a b less in
      record {
        a = a;
        b = b;
        keys = keys;
        first = in_a;
        second = in_b;
        is = clashing l;
        less = less;
        later = elim l.2 [ inl same ↦ omega (arith, ints, same, before, l.1) | inr same ↦ same ];
      }

  pub named_clash : IsNamedAs a b clash → IsNamedClash all clash
  named_clash n = go (instance_cmp b a) refl n.0 n.1

-- the same of instances that are these
pub named_by : (all : Confirmed) (a b x y : SaidInstance) (clash : Clash) → x ≡ a → y ≡ b → IsOneOf all a → IsOneOf all b → (a.key ≡ b.key → ⊥) → SharesInstant a.start a.end b.start b.end
    → IsNamedAs x y clash → IsNamedClash all clash
named_by all a b x y clash ea eb in_a in_b differ s n =
    named_clash all a b clash in_a in_b differ s (subst (λ v. IsNamedAs a v clash) eb (subst (λ u. IsNamedAs u y clash) ea n))

-- so named, they are of their kinds
pub names_of : (These Those : SaidInstance → Type 0) (a b x y : SaidInstance) (clash : Clash) → x ≡ a → y ≡ b → These a → Those b → IsNamedAs x y clash → NamesOf These Those clash
names_of These Those a b x y clash ea eb in_a in_b n =
    keyed (is_lt (instance_cmp b a)) (subst (λ v. IsNamedAs a v clash) eb (subst (λ u. IsNamedAs u y clash) ea n)).0
  where
    keyed : (r : Bool) → MatchBool r (HasKeys b a clash.instant clash) (HasKeys a b clash.instant clash) → NamesOf These Those clash
    keyed true keys = record { a = b; b = a; keys = keys; of = inr (in_b, in_a) }
    keyed false keys = record { a = a; b = b; keys = keys; of = inl (in_a, in_b) }

-- the lesser is named first
pub named_first : (a b : SaidInstance) (t : ℤ) (clash : Clash) (r : Bool) → is_lt (instance_cmp b a) ≡ r → MatchBool r (HasKeys b a t clash) (HasKeys a b t clash) → AreBothNamed a b t clash
named_first a b t clash r e h = subst (λ v. MatchBool v (HasKeys b a t clash) (HasKeys a b t clash)) (sym e) h

-- ---- singles by their places

-- a place holds one
pub there : {X : Type 0} (f : X → SaidInstance) (all : List SaidInstance) (i : ℕ) (o : Option X) → option_map f o ≡ slice_get all i → i < length all → is_some o ≡ true
there f all i (Some x) e w = refl
there f all i None e w = absurd (false≢true (ap (λ r. is_some r) (e ∙ slice_get-get_or all i (some_of all w) w)))
  where
    some_of : (xs : List SaidInstance) → i < length xs → SaidInstance
    some_of [] w = absurd (omega (arith, w))
    some_of (x ∷ xs) w = x

pub key_there : {X : Type 0} (f : X → Key) (all : List SaidInstance) (i : ℕ) (o : Option X) → option_map f o ≡ option_map (λ b. b.key) (slice_get all i) → i < length all → is_some o ≡ true
key_there f all i (Some x) e w = refl
key_there f all i None e w = absurd (false≢true (ap (λ r. is_some r) (e ∙ ap (λ r. option_map (λ (b : SaidInstance). b.key) r) (slice_get-get_or all i (some_of all w) w))))
  where
    some_of : (xs : List SaidInstance) → i < length xs → SaidInstance
    some_of [] w = absurd (omega (arith, w))
    some_of (x ∷ xs) w = x

-- and that is what is there
pub held : {X : Type 0} (f : X → SaidInstance) (all : List SaidInstance) (i : ℕ) (o : Option X) (x : X) (a : SaidInstance) → option_map f o ≡ slice_get all i → o ≡ Some x → i < length all → get_or all i a ≡ a → f x ≡ a
held f all i o x a e is w at = same_Some (f x) a (sym (ap (option_map f) is) ∙ e ∙ slice_get-get_or all i a w ∙ ap Some at)

-- and this is its key
pub own_key : (all : List SaidInstance) (place : ℕ) (o : Option Instance) (i : Instance) (k : Option OwnedKey) (key : OwnedKey) → option_map instance_of o ≡ slice_get all place → o ≡ Some i
    → option_map owned_key_of k ≡ option_map (λ b. b.key) (slice_get all place) → k ≡ Some key → owned_key_of key ≡ (instance_of i).key
own_key all place o i k key e is f at =
    same_Some (owned_key_of key) (instance_of i).key
    (sym (ap (option_map owned_key_of) at) ∙ f ∙ ap (option_map (λ (b : SaidInstance). b.key)) (sym e ∙ ap (option_map instance_of) is))

-- the instance at a place, as it was lent
pub lent : (all : List SaidInstance) (place : ℕ) (o : Option Instance) (i : Instance) (b : SaidInstance) → option_map instance_of o ≡ slice_get all place → o ≡ Some i → slice_get all place ≡ Some b → instance_of i ≡ b
lent all place o i b e is at = same_Some (instance_of i) b (sym (ap (option_map instance_of) is) ∙ e ∙ at)

-- ---- series by their places

-- the series at a place of a slice
pub series_there : (xs : List Series) (all : List Event) (i : ℕ) (s : Series) (m : Event) → map series_said xs ≡ all → i < length all → s ≡ get_or xs i s → slice_get all i ≡ Some m → m ≡ series_said s
series_there xs all i s m e w is at =
    let long = length-map xs series_said in
    let here : slice_get all i ≡ Some (series_said s) = ap (λ l. slice_get l i) (sym e) ∙ said_at xs i s (omega (arith, w, long, ap length e)) is in
    same_Some m (series_said s) (sym at ∙ here)

-- two instances of series, of which the later comes second, have different keys
pub keys_apart : (all : Confirmed) → HaveOwnKeys all → (i j : ℕ) (a b : Event) (x y : SaidInstance) → i ≤ j → j < length all.series → slice_get all.series i ≡ Some a → slice_get all.series j ≡ Some b
    → IsInstance a x → IsInstance b y → (i ≡ j → x.key ≢ y.key) → x.key ≢ y.key
keys_apart all own i j a b x y l w at_first at_second first second differ =
    elim (cases_lt i j) [
      | inl less ↦ λ same.
          own.0 i j b less w x y
          (subst (λ (m : Event). IsInstance m x) (sym (get_or_from_slice_get all.series i a b at_first)) first)
          (subst (λ (m : Event). IsInstance m y) (sym (get_or_from_slice_get all.series j b b at_second)) second) same
      | inr from ↦ differ (omega (arith, l, from))
    ]

-- the single at a place is one of what is confirmed
pub single_in : (all : Confirmed) (place : ℕ) (b : SaidInstance) → slice_get all.singles place ≡ Some b → IsOneOf all b
single_in all place b e = inl (place, slice_get_within all.singles place b e, get_or_from_slice_get all.singles place b b e)

-- and so is an instance of the series at a place
pub series_in : (all : Confirmed) (place : ℕ) (series : Event) (b : SaidInstance) → slice_get all.series place ≡ Some series → IsInstance series b → IsOneOf all b
series_in all place series b e h = inr (series, (place, slice_get_within all.series place series e, get_or_from_slice_get all.series place series series e), h)

-- two instances that clash share an instant
pub shares : (a b : SaidInstance) (t : ℤ) → AreClashing a b t → SharesInstant a.start a.end b.start b.end
shares a b t c = record { instant = t; before = c.before; in_first = c.in_first; in_second = c.in_second }

pub shares_turned : (start end from to : ℤ) → SharesInstant start end from to → SharesInstant from to start end
shares_turned start end from to s = record { instant = s.instant; before = s.before; in_first = s.in_second; in_second = s.in_first }

pub shares_start : (a b : SaidInstance) → ShareStart a b → SharesInstant a.start a.end b.start b.end
shares_start a b s = record { instant = s.instant; before = s.before; in_first = s.in_first; in_second = s.in_second }

-- ---- what is clear

-- where two singles never clash, and no single shares an instant with a series, no single clashes
pub singles_clear : (all : Confirmed) → IsClear (Contains all.singles)
    → ((single : SaidInstance) → Contains all.singles single → (b : SaidInstance) → IsInSeries all.series b → SharesInstant b.start b.end single.start single.end → ⊥)
    → AreClear (Contains all.singles) (IsOneOf all)
singles_clear all clear apart a b t x (inl y) c = clear a b t x y c
singles_clear all clear apart a b t x (inr y) c = apart a x b y (record { instant = t; before = c.before; in_first = c.in_second; in_second = c.in_first })

-- no instance of the series at one place clashes with an instance of the series at another
abbrev pub IsPairClear : List Event → ℕ → ℕ → Type 0
IsPairClear all i j = (a b : Event) → slice_get all i ≡ Some a → slice_get all j ≡ Some b → AreClear (IsInstance a) (IsInstance b)

-- and where all pairs of series are clear, all are
module _ (all : Confirmed) (singles : AreClear (Contains all.singles) (IsOneOf all)) (pairs : (p q : ℕ) → p ≤ q → q < length all.series → IsPairClear all.series p q) where
  series_clear : (a b : SaidInstance) (t : ℤ) → IsInSeries all.series a → IsInSeries all.series b → AreClashing a b t → ⊥
  series_clear a b t (m, (i, w, e), h) (n, (j, v, f), k) c =
      let at_m : slice_get all.series i ≡ Some m = slice_get-get_or all.series i m w ∙ ap Some e in
      let at_n : slice_get all.series j ≡ Some n = slice_get-get_or all.series j n v ∙ ap Some f in
      elim (cases_lt j i) [
        | inl less ↦ pairs j i (omega (arith, less)) w n m at_n at_m b a t k h (turned a b t c)
        | inr from ↦ pairs i j from v m n at_m at_n a b t h k c
      ]

  pub all_clear : AreClear (IsOneOf all) (IsOneOf all)
  all_clear a b t (inl x) y c = singles a b t x y c
  all_clear a b t (inr x) (inl y) c = singles b a t y (inr x) (turned a b t c)
  all_clear a b t (inr x) (inr y) c = series_clear a b t x y c
