-- What a text of a line says on the clocks of the zones that a room reads in its object is what the room makes of it.
-- Behind instances_are_on_clocks.
use Rattle.std.proofs.Common.{◌≡◌, ◌∙◌, ℕ, false, List, [], ◌∷◌, codes, subst, sym, refl, ap, arith, ℤ, zero, suc}
use Rattle.std.specs.Prelude.{Option, Some, None, Contains}
use Rattle.std.specs.Option.{option_to_list}
use Rattle.std.specs.List.{AllZip}
use Rattle.std.proofs.lemmas.Option.{same_Some}
use Rattle.profile.specs.text.Lines.{line_value, line_param}
use Rattle.profile.specs.text.Trees.{Tree}
use Rattle.profile.specs.series.Zones.{Zone, IsOneMeaning, Means}
use Rattle.profile.specs.events.Properties.{Form, Fixed, Floating, WholeDay, lines_named, OccursAtMostOnce, BothOrNeither, Says}
use Rattle.profile.specs.events.ZonedTimes.{SpellsForm, SaysZonedText, clock_of}
use Rattle.profile.specs.events.Occurrences.{Time, ListedTime, IsListed, IsRecurrenceLine, entries_named}
use Rattle.profile.specs.events.Placed.{IsInstantIn, IsAt, zone_in}
use Rattle.profile.specs.doors.InstancesOnClocks.{Clock, Read, General, MeansOn, IsClockInRoom, SpellsClockTime, IsClockOf, SaysInstantOn, ListsOn, ReplacesOn, counted_by}
use Rattle.profile.proofs.ListedTimes.{entry_among, entry_of}
use Rattle.ical_tree.proofs.OneLine.{the_line, only_line}
use Rattle.cal_events.proofs.shared_lemmas.Meanings.{utc_means, utc_instant}
use Rattle.cal_events.proofs.shared_lemmas.OneTimes.{Lines, OneZonedTime, text_instant}
use Rattle.cal_events.proofs.shared_lemmas.Placing.{instant_one}
use Rattle.cal_events.proofs.shared_lemmas.InOneOrder.{later}

-- the instant that a room makes of a text
pub record SaysIn (room : Option Zone) (object : Tree) (line text : List ℕ) (form : Form) (instant u : ℤ) : Type 0 where
  pub zone : Option Zone
  pub local : ℤ
  pub says : SaysZonedText object line text form zone local
  pub means : Means (clock_of zone) local instant
  pub read : IsInstantIn room form instant u

module _ (room : Option Zone) (object : Tree) where
  abbrev Named : List ℕ → Clock → Type 0
  Named = IsClockInRoom object

  -- ---- on clocks, and in the room

  -- the clocks of a text, and the zone that it is in
  pub zone_of_clock : (form : Form) (name : Option (List ℕ)) (text : List ℕ) (local : ℤ) (c : Clock) → SpellsClockTime form name text local → IsClockOf Named room form name c
      → (zone : Option Zone) × SpellsForm object name text form zone local × (c ≡ Read (clock_of (zone_in room form zone))) × (counted_by form c ≡ Read (clock_of zone))
  zone_of_clock Fixed None text local c spelled shown = (None, spelled, shown, shown)
  zone_of_clock Fixed (Some name) text local (Read zone) spelled shown = (Some zone, (spelled, shown), refl, refl)
  zone_of_clock Fixed (Some name) text local (General zone) spelled shown = absurd shown
  zone_of_clock Floating name text local c spelled shown = (None, (spelled.0, refl, spelled.1), shown, refl)
  zone_of_clock WholeDay name text local c spelled shown = (None, (spelled.0, refl, spelled.1), shown, refl)

  -- the other way
  pub clock_of_zone : (form : Form) (name : Option (List ℕ)) (text : List ℕ) (zone : Option Zone) (local : ℤ) → SpellsForm object name text form zone local
      → SpellsClockTime form name text local × IsClockOf Named room form name (Read (clock_of (zone_in room form zone)))
      × (counted_by form (Read (clock_of (zone_in room form zone))) ≡ Read (clock_of zone))
  clock_of_zone Fixed None text None local spelled = (spelled, refl, refl)
  clock_of_zone Fixed None text (Some zone) local spelled = absurd spelled
  clock_of_zone Fixed (Some name) text None local spelled = absurd spelled
  clock_of_zone Fixed (Some name) text (Some zone) local spelled = (spelled.0, spelled.1, refl)
  clock_of_zone Floating name text z local spelled = ((spelled.0, spelled.2), refl, ap (λ o. Read (clock_of o)) (sym spelled.1))
  clock_of_zone WholeDay name text z local spelled = ((spelled.0, spelled.2), refl, ap (λ o. Read (clock_of o)) (sym spelled.1))

  -- the instant on the clocks of the room
  read_in : (form : Form) (name : Option (List ℕ)) (text : List ℕ) (zone : Option Zone) (local u : ℤ) → SpellsForm object name text form zone local
      → Means (clock_of (zone_in room form zone)) local u → (instant : ℤ) × Means (clock_of zone) local instant × IsInstantIn room form instant u
  read_in Fixed name text z local u spelled means = (u, means, refl)
  read_in Floating name text z local u spelled means = (local, subst (λ o. Means (clock_of o) local local) (sym spelled.1) (utc_means local), means)
  read_in WholeDay name text z local u spelled means = (local, subst (λ o. Means (clock_of o) local local) (sym spelled.1) (utc_means local), means)

  -- a local time of no zone is the instant by which it is known before it is placed
  in_no_zone : (zone : Option Zone) (local instant : ℤ) → zone ≡ None → Means (clock_of zone) local instant → instant ≡ local
  in_no_zone z local instant none means = utc_instant local instant (subst (λ o. Means (clock_of o) local instant) none means)

  pub read_back : (form : Form) (name : Option (List ℕ)) (text : List ℕ) (zone : Option Zone) (local instant u : ℤ) → SpellsForm object name text form zone local
      → Means (clock_of zone) local instant → IsInstantIn room form instant u → Means (clock_of (zone_in room form zone)) local u
  read_back Fixed name text z local instant u spelled means read = subst (Means (clock_of z) local) (sym read) means
  read_back Floating name text z local instant u spelled means read = subst (λ t. Means (clock_of room) t u) (in_no_zone z local instant spelled.1 means) read
  read_back WholeDay name text z local instant u spelled means read = subst (λ t. Means (clock_of room) t u) (in_no_zone z local instant spelled.1 means) read

  pub said_in : (line text : List ℕ) (u : ℤ) → SaysInstantOn Named room line text u → (form : Form) × (instant : ℤ) × SaysIn room object line text form instant u
  said_in line text u h =
      let z = zone_of_clock h.time.form h.time.name text h.time.local h.clock h.says.spelled h.shown in
      let r = read_in h.time.form h.time.name text z.0 h.time.local u z.1 (subst (λ c. MeansOn c h.time.local u) z.2 h.means) in (
        h.time.form,
        r.0,
        record {
          zone = z.0;
          local = h.time.local;
          says = (h.says.allowed, subst (λ n. SpellsForm object n text h.time.form z.0 h.time.local) (sym h.says.named) z.1);
          means = r.1;
          read = r.2;
        },
      )

  pub on_clocks : (line text : List ℕ) (form : Form) (instant u : ℤ) → SaysIn room object line text form instant u → SaysInstantOn Named room line text u
  on_clocks line text form instant u h =
      let c = clock_of_zone form (line_param (codes "TZID") line) text h.zone h.local h.says.1 in
      record {
        time = record { form = form; name = line_param (codes "TZID") line; local = h.local };
        says = record { allowed = h.says.0; named = refl; spelled = c.0 };
        clock = Read (clock_of (zone_in room form h.zone));
        shown = c.1;
        means = read_back form (line_param (codes "TZID") line) text h.zone h.local instant u h.says.1 h.means h.read;
      }

-- ---- one instant

module _ (one : OneZonedTime) (room : Option Zone) (meaning : IsOneMeaning (clock_of room)) (object : Tree) where
  -- a time that a room reads, and its instant
  abbrev pub IsReadAs : List ℕ → List ℕ → Time → ℤ → Type 0
  IsReadAs line text time u = SaysIn room object line text time.form time.instant u

  pub one_in : (line text : List ℕ) (time : Time) (s u : ℤ) → IsReadAs line text time s → SaysInstantOn (IsClockInRoom object) room line text u → u ≡ s
  one_in line text time s u here h =
      let k = said_in room object line text u h in
      let e = text_instant one object line text time.form k.0 time.instant k.1 (here.zone, here.local, here.says, here.means) (k.2.zone, k.2.local, k.2.says, k.2.means) in
      let read : IsInstantIn room time.form time.instant u = subst (λ f. IsInstantIn room f time.instant u) (sym e.0) (subst (λ i. IsInstantIn room k.0 i u) (sym e.1) k.2.read) in
      instant_one room meaning time.form time.instant u s read here.read

  -- ---- RDATE and EXDATE

  -- a time of a list, and its instant in the room
  module _ (property : List ℕ) where
    pub list_there : (entries : List ListedTime) (times : List Time) (instants : List ℤ) (entry : ListedTime) (u : ℤ) → AllZip (IsListed object property) entries times
        → AllZip (IsAt room) times instants → Contains entries entry → SaysInstantOn (IsClockInRoom object) room entry.0 entry.1 u → Contains instants u
    list_there [] times instants entry u listed at (k, w, e) says = absurd (omega (arith, w))
    list_there (x ∷ entries) [] instants entry u listed at there says = absurd listed
    list_there (x ∷ entries) (time ∷ times) [] entry u listed at there says = absurd at
    list_there (x ∷ entries) (time ∷ times) (i ∷ instants) entry u listed at (zero, w, e) says =
        let l = listed.0 in
        let here : IsReadAs x.0 x.1 time i = record { zone = l.1.0; local = l.1.1; says = l.1.2; means = l.1.3; read = at.0 } in
        (zero, omega arith, sym (one_in x.0 x.1 time i u here (subst (λ (y : ListedTime). SaysInstantOn (IsClockInRoom object) room y.0 y.1 u) (sym e) says)))
    list_there (x ∷ entries) (time ∷ times) (i ∷ instants) entry u listed at (suc k, w, e) says =
        let r = list_there entries times instants entry u listed.1 at.1 (k, omega (arith, w), e) says in
        later i u instants r

    pub list_back : (entries : List ListedTime) (times : List Time) (instants : List ℤ) (u : ℤ) → AllZip (IsListed object property) entries times → AllZip (IsAt room) times instants
        → Contains instants u → (entry : ListedTime) × Contains entries entry × SaysInstantOn (IsClockInRoom object) room entry.0 entry.1 u
    list_back [] [] [] u listed at (k, w, e) = absurd (omega (arith, w))
    list_back [] [] (i ∷ instants) u listed at there = absurd at
    list_back [] (time ∷ times) instants u listed at there = absurd listed
    list_back (x ∷ entries) [] instants u listed at there = absurd listed
    list_back (x ∷ entries) (time ∷ times) [] u listed at there = absurd at
    list_back (x ∷ entries) (time ∷ times) (i ∷ instants) u listed at (zero, w, e) =
        let l = listed.0 in
        let here : IsReadAs x.0 x.1 time i = record { zone = l.1.0; local = l.1.1; says = l.1.2; means = l.1.3; read = at.0 } in
        (x, (zero, omega arith, refl), subst (SaysInstantOn (IsClockInRoom object) room x.0 x.1) e (on_clocks room object x.0 x.1 time.form time.instant i here))
    list_back (x ∷ entries) (time ∷ times) (i ∷ instants) u listed at (suc k, w, e) =
        let r = list_back entries times instants u listed.1 at.1 (k, omega (arith, w), e) in
        (r.0, later x r.0 entries r.1, r.2)

    pub lists_there : (lines : Lines) (times : List Time) (instants : List ℤ) (u : ℤ) → AllZip (IsListed object property) (entries_named property lines) times
        → AllZip (IsAt room) times instants → ListsOn (IsClockInRoom object) room property lines u → Contains instants u
    lists_there lines times instants u listed at (line, there, (text, among, says)) =
        list_there (entries_named property lines) times instants (line, text) u listed at (entry_among (lines_named property lines) line text there among) says

    pub lists_back : (lines : Lines) (times : List Time) (instants : List ℤ) (u : ℤ) → AllZip (IsListed object property) (entries_named property lines) times
        → AllZip (IsAt room) times instants → Contains instants u → ListsOn (IsClockInRoom object) room property lines u
    lists_back lines times instants u listed at there =
        let e = list_back (entries_named property lines) times instants u listed at there in
        let o = entry_of (lines_named property lines) e.0 e.1 in
        (e.0.0, o.0, (e.0.1, o.1, e.2))

  -- ---- RECURRENCE-ID

  slot_said : (line : Option (List ℕ)) (time : Option Time) (slot : Option ℤ) (x : List ℕ) (u : ℤ) → line ≡ Some x → BothOrNeither (IsRecurrenceLine object) line time
      → BothOrNeither (IsAt room) time slot → SaysInstantOn (IsClockInRoom object) room x (line_value x) u → slot ≡ Some u
  slot_said None time slot x u e is at says = cc
  slot_said (Some l) None slot x u e is at says = absurd is
  slot_said (Some l) (Some time) None x u e is at says = absurd at
  slot_said (Some l) (Some time) (Some s) x u e is at says =
      let d = is.1 in
      let here : IsReadAs l (line_value l) time s = record { zone = d.0; local = d.1; says = d.2; means = d.3; read = at } in
      ap Some (sym (one_in l (line_value l) time s u here (subst (λ y. SaysInstantOn (IsClockInRoom object) room y (line_value y) u) (sym (same_Some l x e)) says)))

  slot_back : (line : Option (List ℕ)) (time : Option Time) (slot : Option ℤ) (u : ℤ) → slot ≡ Some u → BothOrNeither (IsRecurrenceLine object) line time
      → BothOrNeither (IsAt room) time slot → (x : List ℕ) × (line ≡ Some x) × SaysInstantOn (IsClockInRoom object) room x (line_value x) u
  slot_back None None None u e is at = cc
  slot_back None None (Some s) u e is at = absurd at
  slot_back None (Some time) slot u e is at = absurd is
  slot_back (Some l) None slot u e is at = absurd is
  slot_back (Some l) (Some time) None u e is at = absurd at
  slot_back (Some l) (Some time) (Some s) u e is at =
      let d = is.1 in
      let here : IsReadAs l (line_value l) time s = record { zone = d.0; local = d.1; says = d.2; means = d.3; read = at } in
      (l, refl, subst (SaysInstantOn (IsClockInRoom object) room l (line_value l)) (same_Some s u e) (on_clocks room object l (line_value l) time.form time.instant s here))

  module _ (lines : Lines) (time : Option Time) (slot : Option ℤ) (says : Says (codes "RECURRENCE-ID") false (IsRecurrenceLine object) lines time) (at : BothOrNeither (IsAt room) time slot) where
    pub replaces_there : (u : ℤ) → ReplacesOn (IsClockInRoom object) room lines u → slot ≡ Some u
    replaces_there u (line, there, said) =
        slot_said says.line time slot line u (only_line (codes "RECURRENCE-ID") lines says.line line says.once there) says.is at said

    pub replaces_back : (u : ℤ) → slot ≡ Some u → ReplacesOn (IsClockInRoom object) room lines u
    replaces_back u e =
        let l = slot_back says.line time slot u e says.is at in
        (l.0, the_line (codes "RECURRENCE-ID") lines l.0 (subst (OccursAtMostOnce (codes "RECURRENCE-ID") lines) l.1 says.once), l.2)

    pub missing_there : lines_named (codes "RECURRENCE-ID") lines ≡ [] → slot ≡ None
    missing_there none = go says.line time slot (sym says.once ∙ none) says.is at
      where
        go : (line : Option (List ℕ)) (time : Option Time) (slot : Option ℤ) → option_to_list line ≡ [] → BothOrNeither (IsRecurrenceLine object) line time
            → BothOrNeither (IsAt room) time slot → slot ≡ None
        go (Some l) time slot e is at = cc
        go None (Some time) slot e is at = absurd is
        go None None (Some s) e is at = absurd at
        go None None None e is at = refl

    pub missing_back : slot ≡ None → lines_named (codes "RECURRENCE-ID") lines ≡ []
    missing_back none = says.once ∙ go says.line time slot none says.is at
      where
        go : (line : Option (List ℕ)) (time : Option Time) (slot : Option ℤ) → slot ≡ None → BothOrNeither (IsRecurrenceLine object) line time
            → BothOrNeither (IsAt room) time slot → option_to_list line ≡ []
        go None time slot e is at = refl
        go (Some l) None slot e is at = absurd is
        go (Some l) (Some time) None e is at = absurd at
        go (Some l) (Some time) (Some s) e is at = cc
