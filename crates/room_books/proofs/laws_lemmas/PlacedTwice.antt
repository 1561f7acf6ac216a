-- An event, and one that says the same times again, take place alike in a room, whatever its zone: the instances of one there are those of the
-- other. Of what takes starts away, the other needs to say only what may take one.
-- Behind kept_texts_pass, kept_texts_spell, served_texts_pass; and schedules_hold of sched_laws.
use Rattle.std.proofs.Common.{◌≡◌, ◌∙◌, refl, sym, ap, subst, inl, inr, ◌⊎◌, ℤ, true, not, ◌||◌, ◌&&◌, List, [], ◌∷◌, Option, Some, None, filter}
use Rattle.std.specs.Prelude.{◌↔◌, Contains, is_some}
use Rattle.std.specs.List.{AllZip}
use Rattle.profile.specs.checker.Instances.{Instance}
use Rattle.profile.specs.events.Confirmed.{AreApart, AreOfRule, IsOfSeries, alone, has_series}
use Rattle.profile.specs.events.EventComponents.{EventComponent, meeting_said}
use Rattle.profile.specs.events.Events.{Event, is_master}
use Rattle.profile.specs.events.Occurrences.{Time}
use Rattle.profile.specs.events.Placed.{IsAt, IsInstantIn, IsPlaced, zone_in}
use Rattle.profile.specs.events.Properties.{BothOrNeither, Form, Fixed, Floating, WholeDay, is_fixed, is_floating, is_whole_day}
use Rattle.profile.specs.events.Starts.{EndsAt, IsGiven, IsInstance, IsRuleStart, IsStart, key_at}
use Rattle.profile.specs.events.ZonedTimes.{EventTimes, clock_of}
use Rattle.profile.specs.rooms.Messages.{instants_in, is_in_dates, is_of_form, may_take}
use Rattle.profile.specs.series.Rules.{Rule}
use Rattle.profile.specs.series.Zones.{IsOneMeaning, Zone}
use Rattle.cal_events.proofs.shared_lemmas.InOneOrder.{in_filtered, in_mapped, of_filtered}
use Rattle.cal_events.proofs.shared_lemmas.OwnSingles.{IsAtStart, IsItself, master_alone, alone_master, override_alone, alone_override, of_both}
use Rattle.itip_order.proofs.Lists.{in_head, in_tail}
use Rattle.itip_messages.proofs.body_lemmas.TimeLists.{of_form, start_dates}
use Rattle.itip_messages.specs.SentLaw.{IsSameRule}
use Rattle.room_books.proofs.shared_lemmas.Loops.{zip_from, zip_to}

-- the same instants of each form
abbrev pub SameTimes : List Time → List Time → Type 0
SameTimes xs ys = (form : Form) (i : ℤ) → Contains (instants_in form xs) i ↔ Contains (instants_in form ys) i

-- `said` is of the meeting of `event`, and says the same times, whichever instance of the meeting it is
pub record SaysTwice (event said : EventComponent) : Type 0 where
  pub meeting : meeting_said said ≡ meeting_said event
  pub times : said.times ≡ event.times
  pub rule : IsSameRule event.rule said.rule
  pub adds : SameTimes event.written.additions said.written.additions
  pub takes : SameTimes (filter may_take event.written.exceptions) said.written.exceptions

-- two events take place alike
pub record AreAlike (p q : EventComponent) : Type 0 where
  pub meeting : meeting_said q ≡ meeting_said p
  pub recurrence : q.recurrence ≡ p.recurrence
  pub times : q.times ≡ p.times
  pub rule : IsSameRule p.rule q.rule
  pub adds : (t : ℤ) → Contains p.additions t ↔ Contains q.additions t
  pub takes : (t : ℤ) → is_in_dates t ≡ true → Contains p.exceptions t ↔ Contains q.exceptions t

-- ---- times of two lists

own_form : (time : Time) → is_of_form time.form time ≡ true
own_form time = by time.form refl
  where
    by : (form : Form) → time.form ≡ form → is_of_form form time ≡ true
    by Fixed e = ap is_fixed e
    by Floating e = ap is_floating e
    by WholeDay e = ap is_whole_day e

in_own : (times : List Time) (time : Time) → Contains times time → Contains (instants_in time.form times) time.instant
in_own times time c = in_mapped (λ (t : Time). t.instant) (filter (is_of_form time.form) times) time (in_filtered (is_of_form time.form) times time c (own_form time))

-- what may take a start away is among all
among_all : (times : List Time) (form : Form) (i : ℤ) → Contains (instants_in form (filter may_take times)) i → Contains (instants_in form times) i
among_all times form i c =
    of_form form (filter may_take times) (λ form i. Contains (instants_in form times) i) (λ time d. in_own times time (of_filtered may_take times time d).0) i c

module _ (zone : Option Zone) (one : IsOneMeaning (clock_of zone)) where
  instant_one : (form : Form) (t u v : ℤ) → IsInstantIn zone form t u → IsInstantIn zone form t v → u ≡ v
  instant_one Fixed t u v h k = h ∙ sym k
  instant_one Floating t u v h k = one t u v h k
  instant_one WholeDay t u v h k = one t u v h k

  pub slot_one : (time : Option Time) (a b : Option ℤ) → BothOrNeither (IsAt zone) time a → BothOrNeither (IsAt zone) time b → a ≡ b
  slot_one None None None h k = refl
  slot_one None None (Some b) h k = absurd k
  slot_one None (Some a) b h k = absurd h
  slot_one (Some time) None b h k = absurd h
  slot_one (Some time) (Some a) None h k = absurd k
  slot_one (Some time) (Some a) (Some b) h k = ap Some (instant_one time.form time.instant a b h k)

  -- what a time means is among what times mean that have its form and its instant among them
  meant : (times : List Time) (instants : List ℤ) → AllZip (IsAt zone) times instants → (time : Time) (t : ℤ) → IsAt zone time t → Contains (instants_in time.form times) time.instant → Contains instants t
  meant times instants z time t at c =
      let found = of_form time.form times (λ form i. (u : ℤ) × Contains instants u × IsInstantIn zone form i u) (λ other d. zip_to (IsAt zone) times instants other z d) time.instant c in
      subst (Contains instants) (instant_one time.form time.instant found.0 t found.2 at) found.1

  -- a time that means an instant where a start may be may take it away
  may_there : (time : Time) (t : ℤ) → is_in_dates t ≡ true → IsAt zone time t → may_take time ≡ true
  may_there time t dated at = go time.form at
    where
      go : (form : Form) → IsInstantIn zone form time.instant t → (not (is_fixed form) || is_in_dates time.instant) ≡ true
      go Fixed e = ap is_in_dates (sym e) ∙ dated
      go Floating m = refl
      go WholeDay m = refl

  module _ (xs ys : List Time) (us vs : List ℤ) (x : AllZip (IsAt zone) xs us) (y : AllZip (IsAt zone) ys vs) where
    meant_too : ((form : Form) (i : ℤ) → Contains (instants_in form xs) i → Contains (instants_in form ys) i) → (t : ℤ) → Contains us t → Contains vs t
    meant_too same t c =
        let (time, among, at) = zip_from (IsAt zone) xs us t x c in
        meant ys vs y time t at (same time.form time.instant (in_own xs time among))

    taken_too : ((form : Form) (i : ℤ) → Contains (instants_in form (filter may_take xs)) i → Contains (instants_in form ys) i) → (t : ℤ) → is_in_dates t ≡ true → Contains us t → Contains vs t
    taken_too same t dated c =
        let (time, among, at) = zip_from (IsAt zone) xs us t x c in
        meant ys vs y time t at (same time.form time.instant (in_own (filter may_take xs) time (in_filtered may_take xs time among (may_there time t dated at))))

  -- ---- in a room

  start_one : (a b : EventTimes) → b ≡ a → (t u : ℤ) → IsInstantIn zone a.form a.start t → IsInstantIn zone b.form b.start u → u ≡ t
  start_one a b e t u h k = instant_one a.form a.start u t (subst (λ (x : EventTimes). IsInstantIn zone x.form x.start u) e k) h

  pub placed_twice : (event said p q : EventComponent) → IsPlaced zone event p → IsPlaced zone said q → SaysTwice event said → q.recurrence ≡ p.recurrence → AreAlike p q
  placed_twice event said p q h k s slot =
      let start = start_one event.times said.times s.times h.start k.start h.starts k.starts in
      let adds_p : p.additions ≡ h.additions = ap (λ (e : EventComponent). e.additions) h.is in
      let adds_q : q.additions ≡ k.additions = ap (λ (e : EventComponent). e.additions) k.is in
      let takes_p : p.exceptions ≡ h.exceptions = ap (λ (e : EventComponent). e.exceptions) h.is in
      let takes_q : q.exceptions ≡ k.exceptions = ap (λ (e : EventComponent). e.exceptions) k.is in
      record {
        meeting = ap meeting_said k.is ∙ s.meeting ∙ sym (ap meeting_said h.is);
        recurrence = slot;
        times =
            ap (λ (e : EventComponent). e.times) k.is
            ∙ (λ i. record (s.times i) { zone = zone_in zone (s.times i).form (s.times i).zone; start = start i })
            ∙ sym (ap (λ (e : EventComponent). e.times) h.is);
        rule = subst (λ (r : Option Rule). IsSameRule r q.rule) (sym (ap (λ (e : EventComponent). e.rule) h.is)) (subst (IsSameRule event.rule) (sym (ap (λ (e : EventComponent). e.rule) k.is)) s.rule);
        adds = λ t. (
          λ c. subst (λ (l : List ℤ). Contains l t) (sym adds_q)
              (meant_too event.written.additions said.written.additions h.additions k.additions h.adds k.adds (λ form i. (s.adds form i).0) t (subst (λ (l : List ℤ). Contains l t) adds_p c)),
          λ c. subst (λ (l : List ℤ). Contains l t) (sym adds_p)
              (meant_too said.written.additions event.written.additions k.additions h.additions k.adds h.adds (λ form i. (s.adds form i).1) t (subst (λ (l : List ℤ). Contains l t) adds_q c)),
        );
        takes = λ t dated. (
          λ c. subst (λ (l : List ℤ). Contains l t) (sym takes_q)
              (taken_too event.written.exceptions said.written.exceptions h.exceptions k.exceptions h.takes k.takes (λ form i. (s.takes form i).0) t dated (subst (λ (l : List ℤ). Contains l t) takes_p c)),
          λ c. subst (λ (l : List ℤ). Contains l t) (sym takes_p)
              (meant_too said.written.exceptions event.written.exceptions k.exceptions h.exceptions k.takes h.takes (λ form i d. among_all event.written.exceptions form i ((s.takes form i).1 d)) t
              (subst (λ (l : List ℤ). Contains l t) takes_q c)),
        );
      }

-- the other is placed there, too, where its slot is
module _ (zone : Option Zone) where
  -- times that all mean something, with what they mean
  all_meant : (times : List Time) → ((time : Time) → Contains times time → (t : ℤ) × IsAt zone time t) → (instants : List ℤ) × AllZip (IsAt zone) times instants
  all_meant [] f = ([], tt)
  all_meant (time ∷ times) f =
      let here = f time (in_head time times) in
      let rest = all_meant times (λ other c. f other (in_tail time times other c)) in
      (here.0 ∷ rest.0, (here.1, rest.1))

  means_something : (xs ys : List Time) (us : List ℤ) → AllZip (IsAt zone) xs us → ((form : Form) (i : ℤ) → Contains (instants_in form ys) i → Contains (instants_in form xs) i)
      → (time : Time) → Contains ys time → (t : ℤ) × IsAt zone time t
  means_something xs ys us x same time c =
      of_form time.form xs (λ form i. (t : ℤ) × IsInstantIn zone form i t) (λ other d. let found = zip_to (IsAt zone) xs us other x d in (found.0, found.2)) time.instant (same time.form time.instant (in_own ys time c))

  pub placed_again : (event said p : EventComponent) → IsPlaced zone event p → SaysTwice event said → (slot : Option ℤ) → BothOrNeither (IsAt zone) said.written.recurrence slot
      → (q : EventComponent) × IsPlaced zone said q × (q.recurrence ≡ slot)
  placed_again event said p h s slot at =
      let adds = all_meant said.written.additions (means_something event.written.additions said.written.additions h.additions h.adds (λ form i. (s.adds form i).1)) in
      let takes =
      all_meant said.written.exceptions (means_something event.written.exceptions said.written.exceptions h.exceptions h.takes (λ form i d. among_all event.written.exceptions form i ((s.takes form i).1 d))) in
      let starts : IsInstantIn zone said.times.form said.times.start h.start = subst (λ (x : EventTimes). IsInstantIn zone x.form x.start h.start) (sym s.times) h.starts in (
        record said {
          recurrence = slot;
          times = record said.times { zone = zone_in zone said.times.form said.times.zone; start = h.start };
          additions = adds.0;
          exceptions = takes.0;
        },
        record { start = h.start; recurrence = slot; additions = adds.0; exceptions = takes.0; starts = starts; slot = at; adds = adds.1; takes = takes.1; is = refl },
        refl,
      )

-- ---- what takes place alike

same_back : (rule back : Option Rule) → IsSameRule rule back → IsSameRule back rule
same_back None None same = same
same_back (Some rule) (Some back) same = λ day. sym (same day)
same_back None (Some back) same = absurd same
same_back (Some rule) None same = absurd same

pub alike_back : (p q : EventComponent) → AreAlike p q → AreAlike q p
alike_back p q a = record {
  meeting = sym a.meeting;
  recurrence = sym a.recurrence;
  times = sym a.times;
  rule = same_back p.rule q.rule a.rule;
  adds = λ t. ((a.adds t).1, (a.adds t).0);
  takes = λ t dated. ((a.takes t dated).1, (a.takes t dated).0);
}

-- a rule of the same days gives the same starts
module _ (times : EventTimes) where
  given_too : (rule back : Option Rule) → IsSameRule rule back → (t : ℤ) → IsGiven times rule t → IsGiven times back t
  given_too None None same t g = g
  given_too (Some rule) (Some back) same t g = record { first = g.first; second = g.second; on = g.on; day = g.day; listed = same g.day ∙ g.listed; means = g.means }
  given_too None (Some back) same t g = absurd same
  given_too (Some rule) None same t g = absurd same

  ruled_too : (rule back : Option Rule) → IsSameRule rule back → (t : ℤ) → (r : Rule) → rule ≡ Some r → IsRuleStart times r t → (b : Rule) × (back ≡ Some b) × IsRuleStart times b t
  ruled_too None back same t r is g = cc
  ruled_too (Some rule) None same t r is g = absurd same
  ruled_too (Some rule) (Some back) same t r is g =
      (back, refl, given_too (Some rule) (Some back) same t (subst (λ (o : Option Rule). IsGiven times o t) (sym is) g))

some_too : (rule back : Option Rule) → IsSameRule rule back → is_some back ≡ is_some rule
some_too None None same = refl
some_too (Some rule) (Some back) same = refl
some_too None (Some back) same = absurd same
some_too (Some rule) None same = absurd same

module _ (p q : EventComponent) (a : AreAlike p q) where
  key_too : (t : ℤ) → key_at p t ≡ key_at q t
  key_too t = λ i. record { organiser = (sym a.meeting i).0; uid = (sym a.meeting i).1; slot = t }

  -- what holds of the times of one holds of those of the other
  times_too : (P : EventTimes → Type 0) → P p.times → P q.times
  times_too P h = subst P (sym a.times) h

  start_too : (t : ℤ) → IsStart p [] t → IsStart q [] t
  start_too t h = record {
    given = elim h.given [
      | inl g ↦ inl (times_too (λ times. IsGiven times q.rule t) (given_too p.times p.rule q.rule a.rule t g))
      | inr c ↦ inr ((a.adds t).0 c)
    ];
    in_dates = h.in_dates;
    not_excepted = λ c. h.not_excepted ((a.takes t (start_dates t h.in_dates)).1 c);
    not_replaced = h.not_replaced;
  }

  at_start_too : (b : Instance) → IsAtStart p b → IsAtStart q b
  at_start_too b h = record {
    starts = start_too b.start h.starts;
    key = h.key ∙ key_too b.start;
    ends = times_too (λ times. EndsAt times b.start b.end) h.ends;
  }

  itself_too : (b : Instance) → IsItself p b → IsItself q b
  itself_too b h = record {
    slot = a.recurrence ∙ h.slot;
    key = h.key ∙ key_too b.key.slot;
    starts = times_too (λ times. b.start ≡ times.start) h.starts;
    ends = times_too (λ times. EndsAt times b.start b.end) h.ends;
  }

  pub instance_alike : (b : Instance) → IsInstance (alone p) b → IsInstance (alone q) b
  instance_alike b h = go (of_both p)
    where
      go : (p.recurrence ≡ None) ⊎ ((slot : ℤ) × (p.recurrence ≡ Some slot)) → IsInstance (alone q) b
      go (inl none) = alone_master q b (a.recurrence ∙ none) (at_start_too b (master_alone p b none h))
      go (inr (slot, is)) = alone_override q b slot (a.recurrence ∙ is) (itself_too b (override_alone p b slot is h))

  pub master_alike : is_master q ≡ is_master p
  master_alike = ap (λ (r : Option ℤ). not (is_some r)) a.recurrence

  pub series_alike : (b : Instance) → IsOfSeries p b → IsOfSeries q b
  series_alike b h =
      let (rule, has, starts) = ruled_too p.times p.rule q.rule a.rule b.start h.rule h.has h.starts in
      record { master = master_alike ∙ h.master; rule = rule; has = has; starts = times_too (λ times. IsRuleStart times rule b.start) starts }

  pub has_alike : has_series q ≡ has_series p
  has_alike = λ i. master_alike i && some_too p.rule q.rule a.rule i

-- ---- what is asked for where one takes place is asked for where the other does

module _ (p q : EventComponent) (a : AreAlike p q) where
  pub apart_alike : (singles : List Instance) → AreApart p singles → AreApart q singles
  apart_alike singles s = record {
    each = λ i d l. let own = s.each i d l in (instance_alike p q a _ own.0, λ h. own.1 (series_alike q p (alike_back p q a) _ h));
    ordered = s.ordered;
    all = λ b h apart. s.all b (instance_alike q p (alike_back p q a) b h) (λ h. apart (series_alike p q a b h));
  }

  pub rule_alike : (series : Option Event) → AreOfRule p series → AreOfRule q series
  rule_alike None h = has_alike p q a ∙ h
  rule_alike (Some series) h = (
    has_alike p q a ∙ h.0,
    λ b. (
      λ is. let own = (h.1 b).0 is in (instance_alike p q a b own.0, series_alike p q a b own.1),
      λ own. (h.1 b).1 (instance_alike q p (alike_back p q a) b own.0, series_alike q p (alike_back p q a) b own.1),
    ),
  )
