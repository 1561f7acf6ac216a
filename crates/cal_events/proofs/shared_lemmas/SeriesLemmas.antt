-- Series: what they are of their masters, and that they are one for each.
-- Cited by EventComponent::series of component, Series::by_rule, Series::copy, Series::except, Series::key, Series::of, Series::without of series, all_starts of whole, known_by_start of whole.
use Rattle.std.proofs.Common.{◌≡◌, ◌∙◌, zero, suc, Bool, true, ◌&&◌, List, [], ◌∷◌, length, get_or, subst, sym, refl, ap, inl, inr, ◌⊎◌, arith, ℤ, ◌<ℤ◌, map}
use Rattle.std.specs.Prelude.{Option, Some, None, false, Contains, is_some, option_map, ◌↔◌}
use Rattle.std.specs.List.{AllZip}
use Rattle.std.specs.List.Sorted.{IsPermutation}
use Rattle.std.proofs.lemmas.Bool.{false≢true}
use Rattle.std.proofs.lemmas.Option.{same_Some}
use Rattle.std.proofs.lemmas.Int.{ints}
use Rattle.std.proofs.lemmas.List.{get_or_default}
use Rattle.ical_values.specs.Octets.{text_octets}
use Rattle.std.proofs.lemmas.List.Elements.{All-contains}
use Rattle.std.proofs.lemmas.List.Sorted.{Contains-permutation, IsPermutation-sym}
use Rattle.profile.specs.checker.Instances.{Key, Instance}
use Rattle.profile.specs.series.Rules.{Rule}
use Rattle.profile.specs.events.EventComponents.{EventComponent as SaidComponent, meeting_said}
use Rattle.profile.specs.events.Events.{Event as Whole, is_master}
use Rattle.profile.specs.events.ZonedTimes.{EventTimes, clock_of}
use Rattle.profile.specs.events.Starts.{key_at, IsGiven, IsRuleStart, IsInstance, EndsAt}
use Rattle.profile.specs.events.Confirmed.{IsReplacedAmong, IsInstanceAmong, IsOfSeries, IsByItsRule, IsExcepted, by_its_rule, IsSeries}
use Rattle.cal_events.specs.Clocks.{IsSteady}
use Rattle.cal_events.specs.Calendar.{key_in}
use Rattle.cal_events.specs.Entries.{Name}
use Rattle.cal_events.specs.Names.{name_said}
use Rattle.cal_events.specs.Draft.{override_key, override_keys}
use Rattle.cal_events.specs.Ruled.{IsLeftOf, IsOfRule, IsRuled, IsRuledBeside}
use Rattle.cal_events.specs.Recurrence.{name_of, organiser_of, master_of}
use Rattle.cal_events.specs.Instants.{AreStartsOf}
use Rattle.cal_events.specs.Said.{AreSaidWith}
use Rattle.cal_events.specs.Times.{none_written, times_of}
use Rattle.profile.specs.events.Spans.{IsSaidSeries}
use Rattle.std.proofs.Math.Logic.{∥∥₁_map}
use Rattle.cal_events.specs.Series.{IsSeriesOf, IsSeriesWithout}
use Rattle.cal_events.specs.MeetingComponents.{IsInEventDates}
use Rattle.cal_events.specs.Overlapping.{HaveOneEnd, AreDated}
use Rattle.cal_events.specs.Component.{component_of}
use Rattle.cal_events.specs.Event.{said_meeting}
use Rattle.cal_events.specs.declared.recurrence.EventName.{EventName}
use Rattle.cal_events.specs.declared.recurrence.Recurrence.{Recurrence}
use Rattle.cal_events.specs.declared.event.Event as declared
use Rattle.std.specs.List.{filter_map}
use Rattle.cal_events.proofs.shared_lemmas.DraftKeys.{some_there, replaced_key, key_replaced, entry_overrides}
use Rattle.cal_events.proofs.shared_lemmas.InOneOrder.{later, none_in, one_order}
use Rattle.cal_events.proofs.shared_lemmas.OneInstance.{end_one, booked_same}
use Rattle.cal_events.proofs.shared_lemmas.OwnSingles.{IsAtStart, of_master, at_start, from_start, master_alone, alone_master, of_both, not_a_master}

-- ---- what a rule gives

given_rule : (times : EventTimes) (o : Option Rule) (t : ℤ) → is_some o ≡ true → IsGiven times o t → (rule : Rule) × (o ≡ Some rule) × IsRuleStart times rule t
given_rule times None t h g = absurd (false≢true h)
given_rule times (Some rule) t h g = (rule, refl, g)

pub rule_gives : (times : EventTimes) (o : Option Rule) (rule : Rule) (t : ℤ) → o ≡ Some rule → IsRuleStart times rule t → IsGiven times o t
rule_gives times o rule t e h = subst (λ (x : Option Rule). IsGiven times x t) (sym e) h

no_recurrence : (event : SaidComponent) → is_master event ≡ true → event.recurrence ≡ None
no_recurrence event h = elim (of_both event) [ inl e ↦ e | inr (slot, e) ↦ absurd (not_a_master event slot e h) ]

-- ---- a master by its rule alone

-- the instance is at a start that the master's rule gives, and at which this doesn't hold
pub record IsAtRuleStart (master : SaidComponent) (excepted : ℤ → Type 0) (b : Instance) : Type 0 where
  pub given : IsGiven master.times master.rule b.start
  pub in_dates : IsInEventDates b.start
  pub shown : excepted b.start → ⊥
  pub key : b.key ≡ key_at master b.start
  pub ends : EndsAt master.times b.start b.end

module _ (master : SaidComponent) (excepted : ℤ → Type 0) (series : Whole) (s : IsByItsRule master excepted series) where
  abbrev ruled : SaidComponent
  ruled = by_its_rule master s.exceptions

  pub of_ruled : (b : Instance) → IsInstance series b → IsAtRuleStart master excepted b
  of_ruled b h =
      let x = at_start ruled b (subst (λ (m : Whole). IsInstance m b) s.is h) in
      record {
        given = elim x.starts.given [ inl g ↦ g | inr c ↦ absurd (none_in b.start c) ];
        in_dates = x.starts.in_dates;
        shown = λ p. x.starts.not_excepted (s.are.all b.start p);
        key = x.key;
        ends = x.ends;
      }

  pub to_ruled : (b : Instance) → IsAtRuleStart master excepted b → IsInstance series b
  to_ruled b h =
      subst (λ (m : Whole). IsInstance m b) (sym s.is)
      (from_start ruled b (record {
        starts = record {
          given = inl h.given;
          in_dates = h.in_dates;
          not_excepted = λ c. h.shown (All-contains excepted s.exceptions b.start s.are.each c);
          not_replaced = λ x. none_in x.override x.among;
        };
        key = h.key;
        ends = h.ends;
      }))

  -- the same, where something else holds of the same instants
  pub ruled_so : (other : ℤ → Type 0) → ((t : ℤ) → excepted t → other t) → ((t : ℤ) → other t → excepted t) → IsByItsRule master other series
  ruled_so other f g = record {
    exceptions = s.exceptions;
    are = record { each = λ k d w. f (get_or s.exceptions k d) (s.are.each k d w); ascending = s.are.ascending; all = λ t h. s.are.all t (g t h) };
    is = s.is;
  }

-- an instance of a master alone that its rule gives
pub at_rule_start : (master : SaidComponent) (excepted : ℤ → Type 0) (b : Instance) → IsAtStart master b → IsGiven master.times master.rule b.start → (excepted b.start → ⊥) → IsAtRuleStart master excepted b
at_rule_start master excepted b x given shown = record { given = given; in_dates = x.starts.in_dates; shown = shown; key = x.key; ends = x.ends }

pub rule_start_at : (master : SaidComponent) (excepted : ℤ → Type 0) (b : Instance) → IsAtRuleStart master excepted b → ((t : ℤ) → Contains master.exceptions t → excepted t) → IsAtStart master b
rule_start_at master excepted b x own = record {
  starts = record { given = inl x.given; in_dates = x.in_dates; not_excepted = λ c. x.shown (own b.start c); not_replaced = λ y. none_in y.override y.among };
  key = x.key;
  ends = x.ends;
}

-- there is one
pub one_ruled : (master : SaidComponent) (excepted : ℤ → Type 0) (a b : Whole) → IsByItsRule master excepted a → IsByItsRule master excepted b → a ≡ b
one_ruled master excepted a b s t =
    let same : s.exceptions ≡ t.exceptions =
    one_order ◌<ℤ◌ (λ x l. absurd (omega (arith, ints, l))) (λ x y z l m. omega (arith, ints, l, m)) s.exceptions t.exceptions s.are.ascending t.are.ascending
    (λ x c. t.are.all x (All-contains excepted s.exceptions x s.are.each c)) (λ x c. s.are.all x (All-contains excepted t.exceptions x t.are.each c)) in
    s.is ∙ ap (λ l. of_master (by_its_rule master l)) same ∙ sym t.is

-- ---- the series of a master

module _ (events : List SaidComponent) (master : SaidComponent) (is : is_master master ≡ true) (series : Whole) (s : IsSeries events master series) where
  -- what is of the series is an instance of the master at a start that its rule gives
  pub of_its_series : is_some master.rule ≡ true → (b : Instance) → IsInstance series b → IsInstanceAmong events master b × IsOfSeries master b
  of_its_series some b h =
      let x = of_ruled master (IsExcepted events master) series s b h in
      let r = given_rule master.times master.rule b.start some x.given in (
        record {
          is = alone_master master b (no_recurrence master is) (rule_start_at master (IsExcepted events master) b x (λ t c. inl c));
          shown = λ _ t. x.shown (inr t);
        },
        record { master = is; rule = r.0; has = r.1; starts = r.2 },
      )

  -- and what is such an instance is of the series
  pub in_its_series : (b : Instance) → IsInstanceAmong events master b → IsOfSeries master b → IsInstance series b
  in_its_series b among of =
      let y = master_alone master b (no_recurrence master is) among.is in
      to_ruled master (IsExcepted events master) series s b
      (at_rule_start master (IsExcepted events master) b y (rule_gives master.times master.rule of.rule b.start of.has of.starts) (λ p. elim p [ inl c ↦ y.starts.not_excepted c | inr r ↦ among.shown is r ]))

-- ---- what overrides replace

module _ (events : List SaidComponent) (entries : List Name) (said : entries ≡ map name_said events) (event : SaidComponent) (slot : ℤ) where
  abbrev own : Key
  own = key_in (meeting_said event) slot

  pub replaced_at : Contains (override_keys entries) own → IsReplacedAmong events event slot
  replaced_at c =
      let r = replaced_key events own (subst (λ (ks : List Key). Contains ks own) (entry_overrides entries events said) c) in
      let same_slot : slot ≡ r.2.0 = ap (λ (key : Key). key.slot) r.2.2 in
      record { override = r.0; among = (r.1, sym (ap (λ (key : Key). (key.organiser, key.uid)) r.2.2)); is = r.2.1 ∙ ap Some (sym same_slot) }

  pub at_replaced : IsReplacedAmong events event slot → Contains (override_keys entries) own
  at_replaced r =
      subst (λ (ks : List Key). Contains ks own) (sym (entry_overrides entries events said))
      (subst (Contains (filter_map override_key (map name_said events))) (ap (λ m. key_in m slot) r.among.1) (key_replaced events r.override slot r.among.0 r.is))

-- what is made by the keys of the entries is the series
pub series_made : (events : List SaidComponent) (entries : List Name) → entries ≡ map name_said events → (keys : List Key) → IsPermutation (override_keys entries) keys
    → (master : SaidComponent) (series : Whole) → IsRuledBeside keys master series → IsSeries events master series
series_made events entries said keys same master series h =
    ruled_so master (λ t. Contains master.exceptions t ⊎ Contains keys (key_in (meeting_said master) t)) series h (IsExcepted events master)
    (λ t e. elim e [
      | inl c ↦ inl c
      | inr c ↦ inr (replaced_at events entries said master t (Contains-permutation keys (override_keys entries) (key_in (meeting_said master) t) (IsPermutation-sym (override_keys entries) keys same) c))
    ])
    (λ t e. elim e [
      | inl c ↦ inl c
      | inr r ↦ inr (Contains-permutation (override_keys entries) keys (key_in (meeting_said master) t) same (at_replaced events entries said master t r))
    ])

-- ---- a master alone

pub alone_ends : (master : SaidComponent) → IsSteady (clock_of master.times.zone) → HaveOneEnd (of_master master)
alone_ends master clock a b h k start slot =
    let x = at_start master a h in
    let y = at_start master b k in
    end_one master.times b.start a.end b.end clock (subst (λ (t : ℤ). EndsAt master.times t a.end) start x.ends) y.ends

pub alone_dated : (master : SaidComponent) → AreDated (of_master master)
alone_dated master a h =
    let x = at_start master a h in
    (subst IsInEventDates (sym (ap (λ (key : Key). key.slot) x.key)) x.starts.in_dates, x.starts.in_dates)

-- ---- lists that are related element by element

pub zip_with : {A V : Type 0} (R : A → V → Type 0) (xs : List A) (vs : List V) (x : A) → AllZip R xs vs → Contains xs x → (v : V) × Contains vs v × R x v
zip_with R [] vs x h c = absurd (none_in x c)
zip_with R (y ∷ xs) [] x h c = absurd h
zip_with R (y ∷ xs) (v ∷ vs) x h (zero, w, e) = (v, (zero, omega arith, refl), subst (λ z. R z v) e h.0)
zip_with R (y ∷ xs) (v ∷ vs) x h (suc k, w, e) = let r = zip_with R xs vs x h.1 (k, omega (arith, w), e) in (r.0, later v r.0 vs r.1, r.2)

pub zip_back : {A V : Type 0} (R : A → V → Type 0) (xs : List A) (vs : List V) (v : V) → AllZip R xs vs → Contains vs v → (x : A) × Contains xs x × R x v
zip_back R xs [] v h c = absurd (none_in v c)
zip_back R [] (u ∷ vs) v h c = absurd h
zip_back R (x ∷ xs) (u ∷ vs) v h (zero, w, e) = (x, (zero, omega arith, refl), subst (R x) e h.0)
zip_back R (x ∷ xs) (u ∷ vs) v h (suc k, w, e) = let r = zip_back R xs vs v h.1 (k, omega (arith, w), e) in (r.0, later x r.0 xs r.1, r.2)

-- of what was mapped
pub zip_mapped : {A B V W : Type 0} (R : A → B → Type 0) (S : V → W → Type 0) (f : V → A) (g : W → B) → ((v : V) (w : W) → S v w → R (f v) (g w)) → (vs : List V) (ws : List W) → AllZip S vs ws → AllZip R (map f vs) (map g ws)
zip_mapped R S f g h [] [] z = tt
zip_mapped R S f g h [] (w ∷ ws) z = absurd z
zip_mapped R S f g h (v ∷ vs) [] z = absurd z
zip_mapped R S f g h (v ∷ vs) (w ∷ ws) z = (h v w z.0, zip_mapped R S f g h vs ws z.1)

-- ---- the starts of a series

pub empty_list : {X : Type 0} (xs : List X) → length xs ≡ 0 → xs ≡ []
empty_list [] h = refl
empty_list (x ∷ xs) h = absurd (omega (arith, h))

-- the event of a recurrence alone represents it
pub alone_said : (event : declared.Event) → length event.overrides.items ≡ 0 → (m : Recurrence) → event.recurrence ≡ Some m → said_meeting event ≡ of_master (master_of event.name m)
alone_said event none m is =
    let e = empty_list event.overrides.items none in λ i. record { master = option_map (master_of event.name) (is i); overrides = map component_of (e i) }

-- the recurrence of a series
pub own_master : (event : declared.Event) → IsRuled event → (m : Recurrence) × (event.recurrence ≡ Some m) × (said_meeting event ≡ of_master (master_of event.name m))
own_master event r = let m = some_there event.recurrence r.0 in (m.0, m.1, alone_said event r.1.1 m.0 m.1)

-- its instances differ in their starts
pub one_start : (event : declared.Event) → IsRuled event → (a b : Instance) → IsInstance (said_meeting event) a → IsInstance (said_meeting event) b → a.start ≡ b.start → a.key.slot ≡ b.key.slot → a ≡ b
one_start event r a b h k start slot =
    let m = own_master event r in
    let master = master_of event.name m.0 in
    let x = at_start master a (subst (λ (w : Whole). IsInstance w a) m.2 h) in
    let y = at_start master b (subst (λ (w : Whole). IsInstance w b) m.2 k) in
    booked_same a b (x.key ∙ ap (key_at master) start ∙ sym y.key) start (event.ends a b h k start slot)

-- their slots are their starts, in the dates
pub at_its_start : (event : declared.Event) → IsRuled event → (a : Instance) → IsInstance (said_meeting event) a → (a.key.slot ≡ a.start) × IsInEventDates a.start
at_its_start event r a h =
    let m = own_master event r in
    let x = at_start (master_of event.name m.0) a (subst (λ (w : Whole). IsInstance w a) m.2 h) in
    (ap (λ (k : Key). k.slot) x.key, x.starts.in_dates)

-- their keys are of that name, at their starts
pub key_of_start : (event : declared.Event) → IsRuled event → (b : Instance) → IsInstance (said_meeting event) b → b.key ≡ key_in (name_of event.name) b.start
key_of_start event r b h =
    let m = own_master event r in
    (at_start (master_of event.name m.0) b (subst (λ (w : Whole). IsInstance w b) m.2 h)).key

-- ---- how series are made

module _ (name : EventName) (r : Recurrence) (none : r.additions ≡ []) where
  -- the master that they represent, as it is by its rule
  module _ (master : SaidComponent) (is : IsOfRule (organiser_of name) (text_octets name.uid) r.times r.rule master) where
    as_ruled : master_of name r ≡ by_its_rule master r.exceptions
    as_ruled i = record {
      uid = sym is.uid_is i;
      organiser = sym is.organiser_is i;
      stamp = None;
      sequence = 0;
      cancelled = false;
      recurrence = None;
      times = sym is.times_are i;
      rule = sym is.rule_is i;
      additions = none i;
      exceptions = r.exceptions;
      written = none_written;
      summary = [];
      attendees = [];
    }

    pub ruled_made : (series : Whole) → series ≡ of_master (master_of name r) → (exceptions : List ℤ) → ((t : ℤ) → Contains r.exceptions t ↔ Contains exceptions t) → IsByItsRule master (Contains exceptions) series
    ruled_made series said exceptions same = record {
      exceptions = r.exceptions;
      are = record {
        each = λ k d w. (same (get_or r.exceptions k d)).0 (k, w, get_or_default r.exceptions k (get_or r.exceptions k d) d w);
        ascending = r.ascending;
        all = λ t c. (same t).1 c;
      };
      is = said ∙ ap of_master as_ruled;
    }

-- nothing is added to what takes no additions
pub none_added : (exceptions starts : List ℤ) → AreStartsOf [] exceptions starts → starts ≡ []
none_added exceptions [] are = refl
none_added exceptions (t ∷ ts) are = absurd (none_in t ((are t).0 (0, omega arith, refl)).0)

pub said_alone : (event : declared.Event) (name : EventName) (r : Recurrence) → event.name ≡ name → event.recurrence ≡ Some r → event.overrides.items ≡ [] → said_meeting event ≡ of_master (master_of name r)
said_alone event name r own is none = λ i. record { master = option_map (master_of (own i)) (is i); overrides = map component_of (none i) }

-- a series is by the rule of its own recurrence
pub itself_ruled : (event : declared.Event) → IsRuled event → (r : Recurrence) → event.recurrence ≡ Some r → IsByItsRule (master_of event.name r) (Contains r.exceptions) (said_meeting event)
itself_ruled event ruled r is =
    ruled_made event.name r (empty_list r.additions (ruled.1.0 r is).1) (master_of event.name r) (record { organiser_is = refl; uid_is = refl; times_are = refl; rule_is = refl })
    (said_meeting event) (alone_said event ruled.1.1 r is) r.exceptions (λ t. ((λ c. c), λ c. c))

-- some VEVENT says its times and its rule
pub said_times : (event : declared.Event) → ∥ IsSaidSeries (said_meeting event) ∥₁ → (r : Recurrence) → (said_meeting event).master ≡ Some (master_of event.name r) → (rule : Option Rule) → rule ≡ r.rule
    → ∥ AreSaidWith (times_of r.times) rule ∥₁
said_times event said r is rule same = ∥∥₁_map said (λ s.
    let own : s.master ≡ master_of event.name r = same_Some s.master (master_of event.name r) (sym (ap (λ (m : Whole). m.master) s.is) ∙ is) in
    record {
      words = s.words;
      room = s.room;
      named = s.named;
      object = s.object;
      method = s.method;
      lines = s.lines;
      event = s.event;
      says = s.says;
      times_are = ap (λ (m : SaidComponent). m.times) (sym own) ∙ s.times;
      rule_is = same ∙ ap (λ (m : SaidComponent). m.rule) (sym own) ∙ s.rule;
    })

-- ---- the series of an event by itself

pub series_of : (event : SaidComponent) → is_master event ≡ true → is_some event.rule ≡ true → (series : Whole) → IsByItsRule event (Contains event.exceptions) series → IsSeriesOf event series
series_of event is some series s = record {
  has = both (is_master event) (is_some event.rule) is some;
  instances = λ b. (
    (λ h.
        let x = of_ruled event (Contains event.exceptions) series s b h in
        let r = given_rule event.times event.rule b.start some x.given in
        (alone_master event b (no_recurrence event is) (rule_start_at event (Contains event.exceptions) b x (λ t c. c)), record { master = is; rule = r.0; has = r.1; starts = r.2 })),
    λ h.
        let y = master_alone event b (no_recurrence event is) h.0 in
        to_ruled event (Contains event.exceptions) series s b
        (at_rule_start event (Contains event.exceptions) b y (rule_gives event.times event.rule h.1.rule b.start h.1.has h.1.starts) y.starts.not_excepted),
  );
  ruled = s;
}
  where
    both : (a b : Bool) → a ≡ true → b ≡ true → (a && b) ≡ true
    both a b p q = rw p (q)

-- a series without some of its instances: nothing is added to its master
pub left_of : (master : SaidComponent) → length master.additions ≡ 0 → (starts : List ℤ) (series rest : Whole) → series ≡ of_master master → IsLeftOf master (Contains starts) rest → IsSeriesWithout series starts rest
left_of master none starts series rest said s = record {
  instances = λ b. (
    (λ h.
        let x = of_ruled master excepted rest s b h in
        (subst (λ (m : Whole). IsInstance m b) (sym said) (from_start master b (rule_start_at master excepted b x (λ t c. inl c))), λ c. x.shown (inr c))),
    λ h.
        let x = at_start master b (subst (λ (m : Whole). IsInstance m b) said h.0) in
        let given : IsGiven master.times master.rule b.start =
        elim x.starts.given [ inl g ↦ g | inr c ↦ absurd (none_in b.start (subst (λ (l : List ℤ). Contains l b.start) (empty_list master.additions none) c)) ] in
        to_ruled master excepted rest s b (at_rule_start master excepted b x given (λ p. elim p [ inl c ↦ x.starts.not_excepted c | inr c ↦ h.1 c ])),
  );
  ruled = λ own is. subst (λ (m : SaidComponent). IsLeftOf m (Contains starts) rest) (same_Some master own (sym (ap (λ (m : Whole). m.master) said) ∙ is)) s;
}
  where
    excepted : ℤ → Type 0
    excepted t = Contains master.exceptions t ⊎ Contains starts t
