-- What a meeting asks for beside all that stays: which two instances clash, and that none do.
-- Cited by Room::clash_in_series, Room::clash_of_new.
use Rattle.std.proofs.Common.{◌≡◌, ◌≢◌, ◌∙◌, ◌+◌, ◌<◌, ◌≤◌, ℕ, zero, suc, ℤ, ◌⊎◌, inl, inr, List, [], ◌∷◌, ◌++◌, length, take, map, append_assoc, subst, sym, refl, ap, arith, length-append, Option, None, Some}
use Rattle.std.specs.Prelude.{is_some, slice_get}
use Rattle.std.specs.List.{Contains}
use Rattle.std.proofs.lemmas.Bool.{true≢false}
use Rattle.std.proofs.lemmas.List.{get_or-take, length-map, map-append, length-take-le}
use Rattle.std.proofs.lemmas.List.Elements.{Contains-append_left, Contains-append_right, Contains-append_cases}
use Rattle.std.proofs.lemmas.Option.{same_Some, slice_get_within, slice_get-get_or, get_or_from_slice_get}
use Rattle.itip_order.proofs.Lists.{none_in_nil, in_head, in_tail}
use Rattle.profile.specs.checker.Instances.{Key, Instance, AreClashing, IsClear}
use Rattle.profile.specs.events.Events.{Event as Whole}
use Rattle.profile.specs.events.Starts.{IsInstance}
use Rattle.profile.specs.events.Confirmed.{Confirmed, IsInSeries, IsOneOf}
use Rattle.profile.specs.rooms.Rooms.{NamesClash}
use Rattle.clash_cert.specs.declared.making.Clash.{Clash}
use Rattle.clash_cert.specs.Makings.{AreBothNamed}
use Rattle.cal_events.specs.Calendar.{owned_key_of}
use Rattle.cal_events.specs.declared.instance.Single.{Single}
use Rattle.cal_events.specs.declared.series.Series.{Series}
use Rattle.room_books.specs.declared.decide.SharedInstant.{SharedInstant}
use Rattle.room_books.specs.declared.meeting.MeetingKey.{MeetingKey}
use Rattle.room_books.specs.declared.recurring.Recurring.{Recurring}
use Rattle.room_books.specs.Gone.{HaveInstant, IsLater, Overlap}
use Rattle.room_books.specs.Recurring.{AreAllOf, AreBeside, AreClearFrom, AreNewClear, IsSharedByItself, keyed_of, recurring_said}
use Rattle.room_books.specs.Taking.{AreOfOneMeeting}
use Rattle.room_books.specs.Meeting.{keyed_instance, instance_list, joined, series_list, series_of, instance_span, AreBusyIn, IsClearIn, Recurs, RecursIn}
use Rattle.room_books.proofs.decide_lemmas.Deciding.{names_these}
use Rattle.room_books.proofs.shared_lemmas.Pairs.{map_at, map_from}
use Rattle.room_books.proofs.shared_lemmas.Places.{in_booked, booked_from}
use Rattle.room_books.proofs.shared_lemmas.Recurrings.{turned}
use Rattle.room_books.proofs.shared_lemmas.Rekeyed.{of_series, to_series}

-- ---- places of lists

pub none_some : {X : Type 0} (x : X) → None ≡ Some x → ⊥
none_some x e = true≢false (sym (ap (λ o. is_some o) e))

module _ {X : Type 0} where
  pub at_in : (xs : List X) (p : ℕ) (x : X) → slice_get xs p ≡ Some x → Contains xs x
  at_in xs p x h = (p, slice_get_within xs p x h, get_or_from_slice_get xs p x x h)

  pub in_at : (xs : List X) (x : X) → Contains xs x → (p : ℕ) × (p < length xs) × (slice_get xs p ≡ Some x)
  in_at xs x (p, w, e) = (p, w, slice_get-get_or xs p x w ∙ ap Some e)

  pub at_take : (xs : List X) (p q : ℕ) (x : X) → slice_get xs p ≡ Some x → p < q → q ≤ length xs → Contains (take q xs) x
  at_take xs p q x h l w = (p, (let n = length-take-le q xs w in omega (arith, n, l)), get_or-take q xs p x l ∙ get_or_from_slice_get xs p x x h)

  -- what is in a place of two lists, by which of them it is in
  pub at_both : (xs ys : List X) (p : ℕ) (x : X) → slice_get (xs ++ ys) p ≡ Some x → ((p < length xs) × Contains xs x) ⊎ ((length xs ≤ p) × Contains ys x)
  at_both [] ys p x h = inr (omega arith, at_in ys p x h)
  at_both (z ∷ xs) ys zero x h = inl (omega arith, subst (Contains (z ∷ xs)) (same_Some z x h) (in_head z xs))
  at_both (z ∷ xs) ys (suc p) x h = elim (at_both xs ys p x h) [
    | inl l ↦ (let w = l.0 in inl (omega (arith, w), in_tail z xs x l.1))
    | inr r ↦ (let w = r.0 in inr (omega (arith, w), r.1))
  ]

  pub left_at : (xs ys : List X) (x : X) → Contains xs x → (p : ℕ) × (p < length xs) × (slice_get (xs ++ ys) p ≡ Some x)
  left_at xs ys x (p, w, e) = let l = length-append xs ys in (p, w, go xs p x w (slice_get-get_or xs p x w ∙ ap Some e))
    where
      go : (zs : List X) (q : ℕ) (x : X) → q < length zs → slice_get zs q ≡ Some x → slice_get (zs ++ ys) q ≡ Some x
      go [] q x w h = absurd (omega (arith, w))
      go (z ∷ zs) zero x w h = h
      go (z ∷ zs) (suc q) x w h = go zs q x (omega (arith, w)) h

  pub right_at : (xs ys : List X) (x : X) → Contains ys x → (p : ℕ) × (length xs ≤ p) × (slice_get (xs ++ ys) p ≡ Some x)
  right_at xs ys x (p, w, e) = go xs
    where
      go : (zs : List X) → (q : ℕ) × (length zs ≤ q) × (slice_get (zs ++ ys) q ≡ Some x)
      go [] = (p, omega arith, slice_get-get_or ys p x w ∙ ap Some e)
      go (z ∷ zs) = let r = go zs in let l = r.1 in (suc r.0, omega (arith, l), r.2)

module _ {X Y : Type 0} (f : X → Y) where
  pub at_mapped : (xs : List X) (p : ℕ) (x : X) → slice_get xs p ≡ Some x → slice_get (map f xs) p ≡ Some (f x)
  at_mapped [] p x h = absurd (none_some x h)
  at_mapped (z ∷ xs) zero x h = ap Some (ap f (same_Some z x h))
  at_mapped (z ∷ xs) (suc p) x h = at_mapped xs p x h

  pub mapped_at : (xs : List X) (p : ℕ) (y : Y) → slice_get (map f xs) p ≡ Some y → (x : X) × (slice_get xs p ≡ Some x) × (f x ≡ y)
  mapped_at [] p y h = absurd (none_some y h)
  mapped_at (z ∷ xs) zero y h = (z, refl, same_Some (f z) y h)
  mapped_at (z ∷ xs) (suc p) y h = mapped_at xs p y h

-- ---- all series, by their places: those of the others, those that the meeting keeps, and those that it asks for

module _ (others : Confirmed) (k : MeetingKey) (own singles : List Single) (kept wanted : List Series) (first all : List Recurring) (from : ℕ)
    (of_others : AreAllOf others.series first)
    (from_is : from ≡ length first + length kept)
    (all_is : map keyed_of all ≡ map keyed_of first ++ map (λ one. (k, one)) (kept ++ wanted)) where
  abbrev own_keyed : Series → MeetingKey × Series
  own_keyed one = (k, one)

  abbrev said : MeetingKey × Series → Whole
  said p = series_of p.0 p.1

  abbrev now : Confirmed
  now = joined others k (own ++ singles) (kept ++ wanted)

  abbrev before : Confirmed
  before = joined others k own kept

  long : length all ≡ length first + (length kept + length wanted)
  long =
      let a = length-map all keyed_of in let b = length-map first keyed_of in let c = length-map (kept ++ wanted) own_keyed in
      omega (arith, a, b, c, ap length all_is, length-append (map keyed_of first) (map own_keyed (kept ++ wanted)), length-append kept wanted)

  -- a series of all: of the others, or of the meeting
  data IsOf (p : ℕ) (r : Recurring) : Type 0 where
    of_other : p < length first → Contains others.series (recurring_said r) → IsOf p r
    of_own : length first ≤ p → r.key.now ≡ k → Contains (kept ++ wanted) r.series.now → IsOf p r

  which : (p : ℕ) (r : Recurring) → slice_get all p ≡ Some r → IsOf p r
  which p r at = elim (at_both (map keyed_of first) (map own_keyed (kept ++ wanted)) p (keyed_of r) (sym (ap (λ l. slice_get l p) all_is) ∙ at_mapped keyed_of all p r at)) [
    | inl l ↦
        let w = l.0 in let n = length-map first keyed_of in
        let x = map_at keyed_of first (keyed_of r) l.1 in
        of_other (omega (arith, w, n)) ((of_others (recurring_said r)).1 (subst (Contains (map recurring_said first)) (ap said x.2) (map_from recurring_said first x.0 x.1)))
    | inr l ↦
        let w = l.0 in let n = length-map first keyed_of in
        let x = map_at own_keyed (kept ++ wanted) (keyed_of r) l.1 in
        of_own (omega (arith, w, n)) (sym (ap (λ (z : MeetingKey × Series). z.0) x.2)) (subst (Contains (kept ++ wanted)) (ap (λ (z : MeetingKey × Series). z.1) x.2) x.1)
  ]

  -- the same, by what was clear before and what is asked for
  abbrev split : List (MeetingKey × Series)
  split = (map keyed_of first ++ map own_keyed kept) ++ map own_keyed wanted

  split_is : map keyed_of all ≡ split
  split_is = all_is ∙ ap (λ l. map keyed_of first ++ l) (map-append own_keyed kept wanted) ∙ sym (append_assoc (map keyed_of first) (map own_keyed kept) (map own_keyed wanted))

  from_at : from ≡ length (map keyed_of first ++ map own_keyed kept)
  from_at = let n = length-map first keyed_of in let m = length-map kept own_keyed in omega (arith, n, m, from_is, length-append (map keyed_of first) (map own_keyed kept))

  -- from a place on those that it asks for
  asked_from : (p : ℕ) (r : Recurring) → slice_get all p ≡ Some r → from ≤ p → (r.key.now ≡ k) × Contains wanted r.series.now
  asked_from p r at l = elim (at_both (map keyed_of first ++ map own_keyed kept) (map own_keyed wanted) p (keyed_of r) (sym (ap (λ l. slice_get l p) split_is) ∙ at_mapped keyed_of all p r at)) [
    | inl x ↦ (let w = x.0 in absurd (omega (arith, w, l, from_at)))
    | inr x ↦ (let y = map_at own_keyed wanted (keyed_of r) x.1 in
        (sym (ap (λ (z : MeetingKey × Series). z.0) y.2), subst (Contains wanted) (ap (λ (z : MeetingKey × Series). z.1) y.2) y.1))
  ]

  -- an instance of all series represents one that recurs: of one before the place, which was clear, or of one that it asks for
  data IsWhen (p : ℕ) (r : Recurring) (x : Single) (b : Instance) : Type 0 where
    was : p < from → IsOneOf before b → IsWhen p r x b
    is_asked : from ≤ p → r.key.now ≡ k → RecursIn wanted x → IsWhen p r x b

  record RecursAt (b : Instance) : Type 0 where
    place : ℕ
    recurring : Recurring
    single : Single
    at : slice_get all place ≡ Some recurring
    recurs : Recurs recurring.series.now single
    is : b ≡ keyed_instance recurring.key.now single
    when : IsWhen place recurring single b

  -- of the series in a place
  recurs_at : (p : ℕ) (b : Instance) (q : MeetingKey × Series) → slice_get (map keyed_of all) p ≡ Some q → IsInstance (said q) b
      → ((p < from) × IsOneOf before b) ⊎ ((from ≤ p) × ((x : Single) → Recurs q.1 x → RecursIn wanted x)) → RecursAt b
  recurs_at p b q at is placed =
      let r = mapped_at keyed_of all p q at in
      let x = of_series r.0.key.now r.0.series.now b (subst (λ (z : MeetingKey × Series). IsInstance (said z) b) (sym r.2) is) in
      record {
        place = p;
        recurring = r.0;
        single = x.0;
        at = r.1;
        recurs = x.1;
        is = x.2;
        when = elim placed [
          | inl l ↦ was l.0 l.1
          | inr l ↦ is_asked l.0 (asked_from p r.0 r.1 l.0).0 (l.1 x.0 (subst (λ (z : MeetingKey × Series). Recurs z.1 x.0) r.2 x.1))
        ];
      }

  recurs_old : (b : Instance) (s : Series) → IsInstance (series_of k s) b → Contains kept s → RecursAt b
  recurs_old b s is c =
      let p = left_at (map keyed_of first ++ map own_keyed kept) (map own_keyed wanted) (own_keyed s) (Contains-append_right (map keyed_of first) (map own_keyed kept) (own_keyed s) (map_from own_keyed kept s c)) in
      let w = p.1 in
      recurs_at p.0 b (own_keyed s) (ap (λ l. slice_get l p.0) split_is ∙ p.2) is
      (inl (omega (arith, w, from_at), inr (series_of k s, Contains-append_right others.series (series_list k kept) (series_of k s) (map_from (series_of k) kept s c), is)))

  recurs_new : (b : Instance) (s : Series) → IsInstance (series_of k s) b → Contains wanted s → RecursAt b
  recurs_new b s is c =
      let p = right_at (map keyed_of first ++ map own_keyed kept) (map own_keyed wanted) (own_keyed s) (map_from own_keyed wanted s c) in
      let w = p.1 in
      recurs_at p.0 b (own_keyed s) (ap (λ l. slice_get l p.0) split_is ∙ p.2) is (inr (omega (arith, w, from_at), λ x r. (s, c, r)))

  recurs_there : (b : Instance) → IsInSeries (others.series ++ series_list k (kept ++ wanted)) b → RecursAt b
  recurs_there b (one, among, is) = elim (Contains-append_cases others.series (series_list k (kept ++ wanted)) one among) [
    | inl other ↦
        let x = map_at recurring_said first one ((of_others one).0 other) in
        let p = left_at (map keyed_of first) (map own_keyed (kept ++ wanted)) (keyed_of x.0) (map_from keyed_of first x.0 x.1) in
        let w = p.1 in let n = length-map first keyed_of in
        recurs_at p.0 b (keyed_of x.0) (ap (λ l. slice_get l p.0) all_is ∙ p.2) (subst (λ (z : Whole). IsInstance z b) (sym x.2) is)
        (inl (omega (arith, w, n, from_is), inr (one, Contains-append_left others.series (series_list k kept) one other, is)))
    | inr mine ↦
        let x = map_at (series_of k) (kept ++ wanted) one mine in
        elim (Contains-append_cases kept wanted x.0 x.1) [
          | inl old ↦ recurs_old b x.0 (subst (λ (z : Whole). IsInstance z b) (sym x.2) is) old
          | inr new ↦ recurs_new b x.0 (subst (λ (z : Whole). IsInstance z b) (sym x.2) is) new
        ]
  ]

  -- ---- none clash

  -- a single stays, or is asked for
  single_when : (b : Instance) → Contains (others.singles ++ instance_list k (own ++ singles)) b
      → Contains (others.singles ++ instance_list k own) b ⊎ ((s : Single) × Contains singles s × (keyed_instance k s ≡ b))
  single_when b c = elim (Contains-append_cases others.singles (instance_list k (own ++ singles)) b c) [
    | inl other ↦ inl (Contains-append_left others.singles (instance_list k own) b other)
    | inr mine ↦
        let s = in_booked k (own ++ singles) b mine in
        elim (Contains-append_cases own singles s.0 s.1) [
          | inl old ↦ inl (Contains-append_right others.singles (instance_list k own) b (subst (Contains (instance_list k own)) s.2 (booked_from k own s.0 old)))
          | inr new ↦ inr (s.0, new, s.2)
        ]
  ]

  shared_by : (a b : Instance) (x y : Instance) (t : ℤ) → a ≡ x → b ≡ y → AreClashing a b t → HaveInstant (instance_span x) (instance_span y) t
  shared_by a b x y t e f c =
      subst (λ (z : Instance). HaveInstant (instance_span z) (instance_span y) t) e (subst (λ (z : Instance). HaveInstant (instance_span a) (instance_span z) t) f
      (record { in_first = c.in_first; in_second = c.in_second; before = c.before }))

  turned_clash : (a b : Instance) (t : ℤ) → AreClashing a b t → AreClashing b a t
  turned_clash a b t c = record { differ = λ e. c.differ (sym e); before = c.before; in_first = c.in_second; in_second = c.in_first }

  module _ (was_clear : IsClearIn before) (singles_clear : IsClear (Contains (others.singles ++ instance_list k (own ++ singles))))
      (single_clear : AreBeside (Contains singles) all None) (new_clear : AreNewClear (others.singles ++ instance_list k own) all from wanted None) where
    single_and_series : (a b : Instance) (t : ℤ) → Contains (others.singles ++ instance_list k (own ++ singles)) a → RecursAt b → AreClashing a b t → ⊥
    single_and_series a b t c f clash = elim (single_when a c) [
      | inl old ↦ by_when f.when old
      | inr (s, new, e) ↦ single_clear s new f.recurring f.single t (at_in all f.place f.recurring f.at) f.recurs (shared_by a b (keyed_instance k s) (keyed_instance f.recurring.key.now f.single) t (sym e) f.is clash)
    ]
      where
        by_when : IsWhen f.place f.recurring f.single b → Contains (others.singles ++ instance_list k own) a → ⊥
        by_when (was less one) old = was_clear a b t (inl old) one clash
        by_when (is_asked from_on key recurs) old = new_clear.1 f.single recurs a t old (turned (instance_span a) f.single.span t (shared_by a b a (keyed_instance f.recurring.key.now f.single) t refl f.is clash))

    -- the first comes before the second
    ordered : (a b : Instance) (t : ℤ) (f : RecursAt a) (g : RecursAt b) → f.place < g.place → from ≤ g.place → RecursIn wanted g.single → AreClashing a b t → ⊥
    ordered a b t f g less from_on recurs clash =
        let within = slice_get_within all g.place g.recurring g.at in
        (new_clear.0 (λ e. none_in_nil recurs.0 (subst (λ (l : List Series). Contains l recurs.0) e recurs.1)) g.place g.recurring from_on g.at).0
        g.single g.recurs f.recurring f.single t (at_take all f.place g.place f.recurring f.at less (omega (arith, within))) f.recurs
        (turned f.single.span g.single.span t (shared_by a b (keyed_instance f.recurring.key.now f.single) (keyed_instance g.recurring.key.now g.single) t f.is g.is clash))

    -- both are of one series
    both_of : (a b : Instance) (t : ℤ) (f : RecursAt a) (g : RecursAt b) → f.place ≡ g.place → from ≤ g.place → RecursIn wanted g.single → AreClashing a b t → ⊥
    both_of a b t f g e from_on recurs clash =
        let same : f.recurring ≡ g.recurring = same_Some f.recurring g.recurring (sym f.at ∙ ap (slice_get all) e ∙ g.at) in
        let is = f.is ∙ ap (λ (r : Recurring). keyed_instance r.key.now f.single) same in
        (new_clear.0 (λ e. none_in_nil recurs.0 (subst (λ (l : List Series). Contains l recurs.0) e recurs.1)) g.place g.recurring from_on g.at).1
        f.single g.single t (subst (λ (r : Recurring). Recurs r.series.now f.single) same f.recurs) g.recurs
        (λ slots. clash.differ (ap (λ (z : Instance). z.key) is ∙ key_of_slot g.recurring.key.now f.single g.single slots ∙ sym (ap (λ (z : Instance). z.key) g.is)))
        (shared_by a b (keyed_instance g.recurring.key.now f.single) (keyed_instance g.recurring.key.now g.single) t is g.is clash)
      where
        key_of_slot : (q : MeetingKey) (s r : Single) → s.slot ≡ r.slot → (keyed_instance q s).key ≡ (keyed_instance q r).key
        key_of_slot q s r e = λ i. record { organiser = (keyed_instance q s).key.organiser; uid = (keyed_instance q s).key.uid; slot = e i }

    two_series : (a b : Instance) (t : ℤ) → RecursAt a → RecursAt b → AreClashing a b t → ⊥
    two_series a b t f g clash = by_when f.when g.when
      where
        compare : (m n : ℕ) → (m < n) ⊎ ((n < m) ⊎ (m ≡ n))
        compare m n = grind arith

        by_when : IsWhen f.place f.recurring f.single a → IsWhen g.place g.recurring g.single b → ⊥
        by_when (was l one) (was m other) = was_clear a b t one other clash
        by_when (was l one) (is_asked m key recurs) = ordered a b t f g (omega (arith, l, m)) m recurs clash
        by_when (is_asked l key recurs) (was m other) = ordered b a t g f (omega (arith, l, m)) l recurs (turned_clash a b t clash)
        by_when (is_asked l key recurs) (is_asked m key' recurs') = elim (compare f.place g.place) [
          | inl less ↦ ordered a b t f g less m recurs' clash
          | inr rest ↦ elim rest [
            | inl more ↦ ordered b a t g f more l recurs (turned_clash a b t clash)
            | inr same ↦ both_of a b t f g same m recurs' clash
          ]
        ]

    pub all_clear : IsClearIn now
    all_clear a b t (inl x) (inl y) c = singles_clear a b t x y c
    all_clear a b t (inl x) (inr y) c = single_and_series a b t x (recurs_there b y) c
    all_clear a b t (inr x) (inl y) c = single_and_series b a t y (recurs_there a x) (turned_clash a b t c)
    all_clear a b t (inr x) (inr y) c = two_series a b t (recurs_there a x) (recurs_there b y) c

  -- ---- two clash

  module _ (apart_singles : (x : Single) (b : Instance) → Contains others.singles b → b.key ≢ (keyed_instance k x).key) (apart_series : (x : Single) (b : Instance) → IsInSeries others.series b → b.key ≢ (keyed_instance k x).key)
      (one : AreOfOneMeeting (own ++ singles) (kept ++ wanted)) where
    slots_of_keys : (x y : Single) → (keyed_instance k x).key ≡ (keyed_instance k y).key → x.slot ≡ y.slot
    slots_of_keys x y e = ap (λ (z : Key). z.slot) e

    -- an instance of a series of all is one of those that are confirmed then
    in_series : (p : ℕ) (r : Recurring) (x : Single) → slice_get all p ≡ Some r → Recurs r.series.now x → IsOneOf now (keyed_instance r.key.now x)
    in_series p r x at is = go (which p r at)
      where
        instance : IsInstance (recurring_said r) (keyed_instance r.key.now x)
        instance = to_series r.key.now r.series.now x is

        go : IsOf p r → IsOneOf now (keyed_instance r.key.now x)
        go (of_other l c) = inr (recurring_said r, Contains-append_left others.series (series_list k (kept ++ wanted)) (recurring_said r) c, instance)
        go (of_own l key c) = inr (
          series_of k r.series.now,
          Contains-append_right others.series (series_list k (kept ++ wanted)) (series_of k r.series.now) (map_from (series_of k) (kept ++ wanted) r.series.now c),
          subst (λ (q : MeetingKey). IsInstance (series_of q r.series.now) (keyed_instance r.key.now x)) key instance,
        )

    -- a single of the meeting and an instance of a series have different keys
    single_differs : (s : Single) (p : ℕ) (r : Recurring) (x : Single) → Contains (own ++ singles) s → slice_get all p ≡ Some r → Recurs r.series.now x → (keyed_instance k s).key ≢ (keyed_instance r.key.now x).key
    single_differs s p r x in_s at is e = go (which p r at)
      where
        go : IsOf p r → ⊥
        go (of_other l c) = apart_series s (keyed_instance r.key.now x) (recurring_said r, c, to_series r.key.now r.series.now x is) (sym e)
        go (of_own l key c) = one.apart s x r.series.now in_s c is (slots_of_keys s x (e ∙ ap (λ (q : MeetingKey). (keyed_instance q x).key) key))

    -- an instance that is asked for, and one of a series before its own
    series_differ : (p q : ℕ) (r u : Recurring) (x y : Single) → slice_get all p ≡ Some r → r.key.now ≡ k → slice_get all q ≡ Some u → q < p → Recurs u.series.now y → (keyed_instance k x).key ≢ (keyed_instance u.key.now y).key
    series_differ p q r u x y at key at_u less is e = go (which q u at_u)
      where
        within : p < length all
        within = slice_get_within all p r at

        go : IsOf q u → ⊥
        go (of_other l c) = apart_series x (keyed_instance u.key.now y) (recurring_said u, c, to_series u.key.now u.series.now y is) (sym e)
        go (of_own l key c) = let w = within in let few = one.one in omega (arith, w, few, less, l, long, length-append kept wanted)

    module _ (x : SharedInstant) (clash : Clash) (later : IsLater x.asked.span x.booked.span clash.instant) (named : AreBothNamed (keyed_instance k x.asked) (keyed_instance x.other.now x.booked) clash.instant clash) where
      abbrev Named : Type 0
      Named = NamesClash (IsOneOf now) (owned_key_of clash.first) (owned_key_of clash.second) clash.instant

      -- the two are these
      named_by : IsOneOf now (keyed_instance k x.asked) → IsOneOf now (keyed_instance x.other.now x.booked) → (keyed_instance k x.asked).key ≢ (keyed_instance x.other.now x.booked).key → Overlap x.asked.span x.booked.span → Named
      named_by in_a in_b differ overlap = names_these (IsOneOf now) (keyed_instance k x.asked) (keyed_instance x.other.now x.booked) clash in_a in_b differ overlap later named

      -- a single that is asked for, and an instance of a series
      pub single_named : AreBeside (Contains singles) all (Some x) → Named
      single_named (in_s, among, overlap) =
          let p = in_at all among.recurring among.among in
          let both = Contains-append_right own singles x.asked in_s in
          let key = ap (λ (q : MeetingKey). keyed_instance q x.booked) among.of in
          named_by (inl (Contains-append_right others.singles (instance_list k (own ++ singles)) (keyed_instance k x.asked) (booked_from k (own ++ singles) x.asked both)))
          (subst (IsOneOf now) key (in_series p.0 among.recurring x.booked p.2 among.is))
          (λ e. single_differs x.asked p.0 among.recurring x.booked both p.2 among.is (e ∙ sym (ap (λ (z : Instance). z.key) key))) overlap

      -- an instance of a series that is asked for, and one of a series before it
      before_named : (p : ℕ) (r : Recurring) → from ≤ p → slice_get all p ≡ Some r → AreBeside (Recurs r.series.now) (take p all) (Some x) → Named
      before_named p r from_on at (recurs, among, overlap) =
          let asked = asked_from p r at from_on in
          let q = in_at (take p all) among.recurring among.among in
          let within = slice_get_within all p r at in
          let less : q.0 < p = (let w = q.1 in let n = length-take-le p all (omega (arith, within)) in omega (arith, w, n)) in
          let at_q : slice_get all q.0 ≡ Some among.recurring =
          slice_get-get_or all q.0 among.recurring (omega (arith, less, within)) ∙ ap Some (sym (get_or-take p all q.0 among.recurring less) ∙ get_or_from_slice_get (take p all) q.0 among.recurring among.recurring q.2) in
          let key = ap (λ (q : MeetingKey). keyed_instance q x.booked) among.of in
          named_by (subst (λ (q : MeetingKey). IsOneOf now (keyed_instance q x.asked)) asked.0 (in_series p r x.asked at recurs))
          (subst (IsOneOf now) key (in_series q.0 among.recurring x.booked at_q among.is))
          (λ e. series_differ p q.0 r among.recurring x.asked x.booked at asked.0 at_q less among.is (e ∙ sym (ap (λ (z : Instance). z.key) key))) overlap

      -- two of one series
      alone_named : (p : ℕ) (r : Recurring) → from ≤ p → slice_get all p ≡ Some r → IsSharedByItself r.series.now (Some (x.asked, x.booked)) → x.other.now ≡ r.key.now → Named
      alone_named p r from_on at (first_is, second_is, slots, overlap) other =
          let asked = asked_from p r at from_on in
          named_by (subst (λ (q : MeetingKey). IsOneOf now (keyed_instance q x.asked)) asked.0 (in_series p r x.asked at first_is))
          (subst (λ (q : MeetingKey). IsOneOf now (keyed_instance q x.booked)) (sym other) (in_series p r x.booked at second_is))
          (λ e. slots (slots_of_keys x.asked x.booked (e ∙ ap (λ (q : MeetingKey). (keyed_instance q x.booked).key) (other ∙ asked.0)))) overlap

      -- an instance of a series that is asked for, and a single that stays
      busy_named : AreBusyIn (others.singles ++ instance_list k own) (RecursIn wanted) (Some x) → Named
      busy_named ((s, among, recurs), in_b, overlap) =
          named_by (inr (series_of k s, Contains-append_right others.series (series_list k (kept ++ wanted)) (series_of k s) (map_from (series_of k) (kept ++ wanted) s (Contains-append_right kept wanted s among)), to_series k s x.asked recurs))
          (inl (elim (Contains-append_cases others.singles (instance_list k own) (keyed_instance x.other.now x.booked) in_b) [
            | inl other ↦ Contains-append_left others.singles (instance_list k (own ++ singles)) (keyed_instance x.other.now x.booked) other
            | inr mine ↦ (let z = in_booked k own (keyed_instance x.other.now x.booked) mine in
                Contains-append_right others.singles (instance_list k (own ++ singles)) (keyed_instance x.other.now x.booked) (subst (Contains (instance_list k (own ++ singles))) z.2 (booked_from k (own ++ singles) z.0 (Contains-append_left own singles z.0 z.1))))
          ]))
          (λ e. elim (Contains-append_cases others.singles (instance_list k own) (keyed_instance x.other.now x.booked) in_b) [
            | inl other ↦ apart_singles x.asked (keyed_instance x.other.now x.booked) other (sym e)
            | inr mine ↦ (let z = in_booked k own (keyed_instance x.other.now x.booked) mine in
                one.apart z.0 x.asked s (Contains-append_left own singles z.0 z.1) (Contains-append_right kept wanted s among) recurs (slots_of_keys z.0 x.asked (ap (λ (w : Instance). w.key) z.2 ∙ sym e)))
          ]) overlap

      pub new_named : AreNewClear (others.singles ++ instance_list k own) all from wanted (Some x) → Named
      new_named (inr busy) = busy_named busy
      new_named (inl (p, r, from_on, found)) = go found.found
        where
          go : AreBeside (Recurs r.series.now) (take p all) (Some x) ⊎ (IsSharedByItself r.series.now (Some (x.asked, x.booked)) × (x.other.now ≡ r.key.now)) → Named
          go (inl beside) = before_named p r from_on found.at beside
          go (inr (alone, other)) = alone_named p r from_on found.at alone other

-- nothing of what is asked for clashes, or these two do
pub new_clear : (booked : List Instance) (all : List Recurring) (from : ℕ) (wanted : List Series) (found : Option SharedInstant) → AreClearFrom all from None → AreBusyIn booked (RecursIn wanted) found → AreNewClear booked all from wanted found
new_clear booked all from wanted None clear busy = ((λ _. clear), busy)
new_clear booked all from wanted (Some x) clear busy = inr busy
