-- Series beside singles and beside one another: instances that share an instant, as loops look for them.
-- Cited by busy_beside_series of decide, alone of recurring, clash_from of recurring, clash_with of recurring, push_all of recurring, series_at of recurring and 2 more.
use Rattle.std.proofs.Common.{◌≡◌, ◌∙◌, ◌+◌, ◌<◌, ◌≤◌, ℕ, ℤ, ◌≤ℤ◌, ◌⊎◌, inl, inr, suc, List, [], ◌∷◌, ◌++◌, length, take, drop, get_or, map, append_assoc, subst, sym, ap, arith, length-drop, Option, None, Some}
use Rattle.std.specs.Prelude.{slice_get, option_map}
use Rattle.std.specs.List.{Contains}
use Rattle.std.proofs.Math.Seq.{drop-cons}
use Rattle.std.proofs.lemmas.Int.{ints}
use Rattle.std.proofs.lemmas.List.{map-append}
use Rattle.std.proofs.lemmas.Option.{slice_get-get_or, get_or_from_slice_get}
use Rattle.itip_order.proofs.Lists.{in_cons}
use Rattle.profile.specs.checker.Instances.{Key, Instance as SaidInstance}
use Rattle.profile.specs.events.Starts.{IsInstance, IsFirstSharer, SharesInstant}
use Rattle.cal_period.specs.Clear.{AreSeriesClear, AreTwo, IsSeriesClear, ShareStart}
use Rattle.cal_events.specs.Calendar.{instance_of}
use Rattle.cal_events.specs.Series.{series_said, AreKnownByStart}
use Rattle.cal_events.specs.declared.instance.Instance.{Instance}
use Rattle.cal_events.specs.declared.instance.Single.{Single}
use Rattle.cal_events.specs.declared.series.Series.{Series}
use Rattle.cal_events.specs.declared.sweep.Span.{Span}
use Rattle.room_books.specs.declared.recurring.Recurring.{Recurring}
use Rattle.room_books.specs.Gone.{HaveInstant, Overlap}
use Rattle.room_books.specs.Recurring.{AreBeside, IsSharedByItself}
use Rattle.room_books.specs.Meeting.{instance_span, Recurs}
use Rattle.room_books.proofs.shared_lemmas.Loops.{one_more}

-- ---- spans

-- spans that share an instant share the later start
pub overlap_of : (a b : Span) → SharesInstant a.start a.end b.start b.end → Overlap a b
overlap_of a b s t later =
    let x = s.in_first.0 in let y = s.in_first.1 in let z = s.in_second.0 in let w = s.in_second.1 in let before = s.before in
    let most : t ≤ℤ s.instant = elim later.one [ inl e ↦ omega (arith, ints, e, x) | inr e ↦ omega (arith, ints, e, z) ] in
    record {
      in_first = (later.first, omega (arith, ints, most, y));
      in_second = (later.second, omega (arith, ints, most, w));
      before = omega (arith, ints, most, before);
    }

pub overlap_turned : (a b : Span) → Overlap a b → Overlap b a
overlap_turned a b o t later =
    let h = o t (record { first = later.second; second = later.first; one = elim later.one [ inl e ↦ inr e | inr e ↦ inl e ] }) in
    record { in_first = h.in_second; in_second = h.in_first; before = h.before }

pub turned : (a b : Span) (t : ℤ) → HaveInstant a b t → HaveInstant b a t
turned a b t h = record { in_first = h.in_second; in_second = h.in_first; before = h.before }

-- of two instances, where the span of the first is that of `x`
pub overlap_at : (a b : Span) (x : SaidInstance) → a ≡ instance_span x → SharesInstant x.start x.end b.start b.end → Overlap a b
overlap_at a b x e s = subst (λ (z : Span). Overlap z b) (sym e) (overlap_of (instance_span x) b s)

pub overlap_start : (a b : Span) (x y : SaidInstance) → a ≡ instance_span x → b ≡ instance_span y → ShareStart x y → Overlap a b
overlap_start a b x y e f s =
    subst (λ (z : Span). Overlap z b) (sym e) (subst (λ (z : Span). Overlap (instance_span x) z) (sym f)
    (overlap_of (instance_span x) (instance_span y) (record { instant = s.instant; before = s.before; in_first = s.in_first; in_second = s.in_second })))

pub shares_of : (a b : Span) (t : ℤ) → HaveInstant a b t → SharesInstant a.start a.end b.start b.end
shares_of a b t h = record { instant = t; before = h.before; in_first = h.in_first; in_second = h.in_second }

-- ---- an instance by its original start and its span

pub recurs_as : (s : Series) (b : SaidInstance) (x : Single) → IsInstance (series_said s) b → x.slot ≡ b.key.slot → x.span.start ≡ b.start → x.span.end ≡ b.end → Recurs s x
recurs_as s b x is slot start end = record { booked = b; is = is; slot = slot; span = λ i. record { start = start i; end = end i } }

pub span_as : (b : SaidInstance) (x : Single) → x.span.start ≡ b.start → x.span.end ≡ b.end → x.span ≡ instance_span b
span_as b x start end = λ i. record { start = start i; end = end i }

-- none shares an instant with a span
pub none_shared : (s : Series) (span : Span) (found : Option Instance) → IsFirstSharer (series_said s) span.start span.end (option_map instance_of found) → found ≡ None
    → (x : Single) (t : ℤ) → Recurs s x → HaveInstant span x.span t → ⊥
none_shared s span found first none x t r h =
    let clear = subst (λ (o : Option Instance). IsFirstSharer (series_said s) span.start span.end (option_map instance_of o)) none first in
    let shared : HaveInstant span (instance_span r.booked) t = subst (λ (z : Span). HaveInstant span z t) r.span h in
    clear r.booked r.is (record { instant = t; before = shared.before; in_first = shared.in_second; in_second = shared.in_first })

-- the first that does
pub first_shared : (s : Series) (span : Span) (found : Option Instance) (i : Instance) (x : Single) → IsFirstSharer (series_said s) span.start span.end (option_map instance_of found) → found ≡ Some i
    → x.slot ≡ i.key.slot → x.span.start ≡ i.start → x.span.end ≡ i.end → Recurs s x × Overlap span x.span
first_shared s span found i x first some slot start end =
    let is = subst (λ (o : Option Instance). IsFirstSharer (series_said s) span.start span.end (option_map instance_of o)) some first in (
      recurs_as s (instance_of i) x is.0 slot start end,
      overlap_turned x.span span (overlap_at x.span span (instance_of i) (span_as (instance_of i) x start end) is.1.0),
    )

-- ---- two series, and one alone

pub none_of_pair : (a b : Series) → AreSeriesClear (series_said a) (series_said b) → (x y : Single) (t : ℤ) → Recurs a x → Recurs b y → HaveInstant x.span y.span t → ⊥
none_of_pair a b clear x y t r q h =
    clear r.booked q.booked r.is q.is (shares_of (instance_span r.booked) (instance_span q.booked) t
    (subst (λ (z : Span). HaveInstant z (instance_span q.booked) t) r.span (subst (λ (z : Span). HaveInstant x.span z t) q.span h)))

pub none_alone : (s : Series) → IsSeriesClear (series_said s) → IsSharedByItself s None
none_alone s clear a b t r q differ h =
    clear r.booked q.booked r.is q.is (λ e. differ (r.slot ∙ ap (λ (k : Key). k.slot) e ∙ sym q.slot))
    (shares_of (instance_span r.booked) (instance_span q.booked) t
    (subst (λ (z : Span). HaveInstant z (instance_span q.booked) t) r.span (subst (λ (z : Span). HaveInstant a.span z t) q.span h)))

pub two_alone : (s : Series) → AreKnownByStart (series_said s) → (a b : SaidInstance) (x y : Single) → AreTwo (series_said s) a b → x.slot ≡ a.key.slot → x.span.start ≡ a.start → x.span.end ≡ a.end
    → y.slot ≡ b.key.slot → y.span.start ≡ b.start → y.span.end ≡ b.end → IsSharedByItself s (Some (x, y))
two_alone s known a b x y two xslot xstart xend yslot ystart yend = (
  recurs_as s a x two.first xslot xstart xend,
  recurs_as s b y two.second yslot ystart yend,
  (λ e. two.differ (ap (λ (z : SaidInstance). z.key) (known.one a b two.first two.second (sym (known.slots a two.first) ∙ sym xslot ∙ e ∙ yslot ∙ known.slots b two.second)))),
  overlap_start x.span y.span a b (span_as a x xstart xend) (span_as b y ystart yend) two.shared,
)

-- ---- loops that find nothing

module _ {X : Type 0} (P : X → Type 0) (xs : List X) where
  -- if it holds of those that are left, it does of all
  abbrev pub HoldsIfLeft : ℕ → Type 0
  HoldsIfLeft k = ((x : X) → Contains (drop k xs) x → P x) → (x : X) → Contains xs x → P x

  pub holds_more : (k : ℕ) (d : X) → k < length xs → P (get_or xs k d) → HoldsIfLeft k → HoldsIfLeft (k + 1)
  holds_more k d within this before rest = before (λ x c.
      elim (in_cons (get_or xs k d) (drop (suc k) xs) x (subst (λ (l : List X). Contains l x) (drop-cons xs k d within) c)) [
        | inl here ↦ subst P here this
        | inr later ↦ rest x (subst (λ (n : ℕ). Contains (drop n xs) x) next later)
      ])
    where
      next : suc k ≡ k + 1
      next = omega arith

  -- where a slice of them is looked through
  pub more_lent : (ys : List X) → ys ≡ xs → (k : ℕ) (d : X) → k < length ys → P (get_or ys k d) → HoldsIfLeft k → HoldsIfLeft (k + 1)
  more_lent ys e k d within this = holds_more k d (subst (λ (l : List X). k < length l) e within) (subst (λ (l : List X). P (get_or l k d)) e this)

  pub holds_all : (k : ℕ) → length xs ≤ k → HoldsIfLeft k → (x : X) → Contains xs x → P x
  holds_all k end h = h (λ x c. absurd (past x c))
    where
      past : (x : X) → Contains (drop k xs) x → ⊥
      past x c = let w = c.1 in let l = length-drop k xs in omega (arith, w, l, end)

-- nothing of one series of the list shares an instant with a single, nor with what is of those
abbrev pub IsFreeOf : Single → Recurring → Type 0
IsFreeOf single r = (other : Single) (t : ℤ) → Recurs r.series.now other → HaveInstant single.span other.span t → ⊥

abbrev pub AreFreeOf : (Single → Type 0) → Recurring → Type 0
AreFreeOf those r = (single : Single) → those single → IsFreeOf single r

-- each series from a place on, up to another, is clear of those before it, and by itself
abbrev pub AreClearTo : List Recurring → ℕ → ℕ → Type 0
AreClearTo all from to = (place : ℕ) (r : Recurring) → from ≤ place → place < to → slice_get all place ≡ Some r
    → AreBeside (Recurs r.series.now) (take place all) None × IsSharedByItself r.series.now None

-- one more
pub clear_to_more : (all : List Recurring) (from k : ℕ) (d : Recurring) → k < length all → AreBeside (Recurs (get_or all k d).series.now) (take k all) None → IsSharedByItself (get_or all k d).series.now None
    → AreClearTo all from k → AreClearTo all from (k + 1)
clear_to_more all from k d within beside alone before place r first last at = elim (at_end place last) [
  | inl e ↦
      let same : get_or all k d ≡ r = ap (λ n. get_or all n d) (sym e) ∙ get_or_from_slice_get all place r d at in (
        subst (λ (n : ℕ). AreBeside (Recurs r.series.now) (take n all) None) (sym e) (subst (λ (z : Recurring). AreBeside (Recurs z.series.now) (take k all) None) same beside),
        subst (λ (z : Recurring). IsSharedByItself z.series.now None) same alone,
      )
  | inr less ↦ before place r first less at
]
  where
    at_end : (n : ℕ) → n < k + 1 → (n ≡ k) ⊎ (n < k)
    at_end n l = search arith

-- the series in a place
pub at_place : (all : List Recurring) (k : ℕ) (d : Recurring) → k < length all → slice_get all k ≡ Some (get_or all k d)
at_place all k d within = slice_get-get_or all k d within

-- one more of a list is pushed, as it is seen
pub mapped_more : {X Y Z : Type 0} (f : X → Z) (g : Y → Z) (old now new : List X) (ys : List Y) (k : ℕ) (x : X) (y : Y) → k < length ys → y ≡ get_or ys k y → f x ≡ g y → new ≡ now ++ x ∷ []
    → map f now ≡ map f old ++ map g (take k ys) → map f new ≡ map f old ++ map g (take (k + 1) ys)
mapped_more f g old now new ys k x y within at same pushed before =
    ap (map f) pushed ∙ map-append f now (x ∷ []) ∙ ap (λ l. l ++ f x ∷ []) before ∙ append_assoc (map f old) (map g (take k ys)) (f x ∷ [])
    ∙ ap (λ z. map f old ++ (map g (take k ys) ++ z ∷ [])) same
    ∙ ap (λ l. map f old ++ l) (sym (ap (map g) (one_more ys k y within at) ∙ map-append g (take k ys) (y ∷ [])))
