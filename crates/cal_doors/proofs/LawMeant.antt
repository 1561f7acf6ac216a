-- A zone that takes the place of another says the same for a VEVENT. For `adapted_says_the_same`.
use Rattle.std.proofs.Common.{◌≡◌, ◌∙◌, sym, subst, arith, inl, inr, ℕ, ◌+◌, ◌*◌, ◌≤◌, ◌<◌, true, false, List, Option, Some, None, ℤ, pos, ◌+ℤ◌, ◌-ℤ◌, ◌≤ℤ◌}
use Rattle.std.specs.Prelude.{◌↔◌, Contains, codes}
use Rattle.std.specs.List.{list_any}
use Rattle.std.specs.Str.{bytes_eq}
use Rattle.std.proofs.lemmas.Bool.{true≢false}
use Rattle.std.proofs.lemmas.Int.{ints}
use Rattle.profile.specs.text.Trees.{Tree, vevents}
use Rattle.profile.specs.events.Properties.{Length, LastsFor, lines_named}
use Rattle.profile.specs.series.Zones.{Zone, Means, Shows, local_time, ShowsBy}
use Rattle.profile.specs.series.ZoneTexts.{SaysZone}
use Rattle.profile.specs.series.GeneralZones.{Run, IsGeneralOffsetAt, MeansGenerally, IsSameFrom, IsSameBetween}
use Rattle.profile.specs.series.GeneralZoneTexts.{SaysGeneralZone}
use Rattle.profile.specs.events.EventRules.{IsOnDay}
use Rattle.profile.specs.doors.Uses.{IsLineIn, SaysLocal, EventBeginsBy, EventEndsBy, LastsDays}
use Rattle.profile.specs.doors.Adapting.{IsAdapted, IsZoneGiven, TakesPlace, IsSameFor, always, as_long, beyond, IsTableEnd, IsGoneOn}
use Rattle.profile.specs.doors.OnClocks.{SaysSameAs, IsDaysLaterOn}
use Rattle.cal_doors.specs.Laws.{IsMeantAfter, SaysTheSame, SaysSameUpTo, SaysTheSameUpTo}
use Rattle.cal_doors.proofs.LawClocks.{AreNear}
use Rattle.cal_doors.proofs.LawEvents.{OneRule, says_same, start_from, later_there}
use Rattle.cal_doors.proofs.LawOffsets.{general_near, general_shown, beyond_near, beyond_shown, zone_near, zone_shown}

some_none : (end : ℤ) → Some end ≡ None → ⊥
some_none end e = subst (λ (o : Option ℤ). elim o as (λ _. Type 0) [ None ↦ ⊥ | Some _ ↦ Unit {0} ]) e tt

none_is : (u : ℤ) → None ≡ Some u → ⊥
none_is u e = subst (λ (o : Option ℤ). elim o as (λ _. Type 0) [ None ↦ Unit {0} | Some _ ↦ ⊥ ]) e tt

module _ (meant part : Tree) (runs : List Run) (zone : Zone) (general : SaysGeneralZone meant runs) (read : SaysZone part zone) (one_rule : OneRule)
    (first : ℤ) (last : Option ℤ) (name : List ℕ) (lines : List (List ℕ)) (begins : EventBeginsBy name lines first)
    (ends : (end : ℤ) → last ≡ Some end → EventEndsBy lines end) where
  -- so it does by any clocks that are less than a day from UTC
  from_first_by : (clocks : List Run) → AreNear (MeansGenerally clocks)
      → ((t local : ℤ) → ShowsBy (IsGeneralOffsetAt clocks) t local → (t ≤ℤ (local +ℤ pos 86_399)) × (local ≤ℤ (t +ℤ pos 86_399)))
      → IsSameFrom clocks zone (first -ℤ pos 86_399) → SaysSameAs clocks zone name lines
  from_first_by clocks near shown same =
      says_same (MeansGenerally clocks) (ShowsBy (IsGeneralOffsetAt clocks)) (Means zone) (Shows zone) near (zone_near part zone read) first None
      (λ local t c. let f = c.0 in (same.means_there local t (omega (arith, ints, f)), same.means_back local t (omega (arith, ints, f))))
      (λ t local s. (shown t local s).0) (λ t local s. (zone_shown part zone read t local s).0)
      (λ _ t local f. (λ s. (s.0, same.offset_there t s.0 (omega (arith, ints, f)) s.1, s.2), λ s. (s.0, same.offset_back t s.0 (omega (arith, ints, f)) s.1, s.2)))
      one_rule name lines begins (λ end e. absurd (none_is end e))

  from_first : IsSameFrom runs zone (first -ℤ pos 86_399) → SaysSameAs runs zone name lines
  from_first = from_first_by runs (general_near meant runs general) (general_shown meant runs general)

  pub as_it_goes_on : (to : ℤ) (longer : List Run) → IsGoneOn runs to longer → IsSameFrom longer zone (first -ℤ pos 86_399) → SaysSameAs longer zone name lines
  as_it_goes_on to longer gone = from_first_by longer (beyond_near meant runs general to longer gone) (beyond_shown meant runs general to longer gone)

  while_it_lasts : (end : ℤ) → last ≡ Some end → IsSameBetween runs zone (first -ℤ pos 86_399) (end +ℤ pos 86_399) → SaysSameAs runs zone name lines
  while_it_lasts end e same =
      says_same (MeansGenerally runs) (ShowsBy (IsGeneralOffsetAt runs)) (Means zone) (Shows zone) (general_near meant runs general) (zone_near part zone read) first last
      (λ local t c.
      let f = c.0 in
      let l = c.1 end e in
      (same.means_there local t (omega (arith, ints, f)) (omega (arith, ints, l)), same.means_back local t (omega (arith, ints, f)) (omega (arith, ints, l))))
      (λ t local s. (general_shown meant runs general t local s).0) (λ t local s. (zone_shown part zone read t local s).0) (λ none. absurd (some_none end (sym e ∙ none))) one_rule name lines begins ends

  up_to_end : (to : ℤ) (longer : List Run) → IsTableEnd runs to → IsSameBetween runs zone (first -ℤ pos 86_399) to → IsGoneOn runs to longer
      → IsSameFrom longer zone (first -ℤ pos 86_399) → SaysSameUpTo runs zone name lines
  up_to_end to longer ended same gone on = record {
    longer = longer;
    gone_on = gone;
    on = as_it_goes_on to longer gone on;
    to = to;
    table_end = ended;
    times = λ line local t is says upto. meaning local t (begins.times line local is says) upto;
    starts = λ start local from second day t _ is says on later upto. meaning (local_time day second) t (on_later start local from second day is says on later) upto;
    ends = λ start line local length t end _ is says there lasts may upto.
        ends_there length line t end there lasts upto (λ days. start_from (Means zone) (zone_near part zone read) first name lines begins days start local t is says may);
  }
    where
      meaning : (local t : ℤ) → first ≤ℤ local → (local +ℤ pos 86_399) ≤ℤ to → MeansGenerally runs local t ↔ Means zone local t
      meaning local t f u = (same.means_there local t (omega (arith, ints, f)) u, same.means_back local t (omega (arith, ints, f)) u)

      on_later : (start : List ℕ) (local : ℤ) (from second day : ℕ) → IsLineIn name lines start → SaysLocal start local → IsOnDay local from second → from ≤ day → first ≤ℤ local_time day second
      on_later start local from second day is says on later =
          let f = begins.times start local is says in
          let at = on.1 in
          omega (arith, ints, f, at, later)

      later_meaning : (days : ℕ) (local t end : ℤ) → 0 < days → first ≤ℤ t → (t +ℤ pos (86_400 * days + 172_798)) ≤ℤ to → t ≤ℤ (local +ℤ pos 86_399) → local ≤ℤ (t +ℤ pos 86_399)
          → MeansGenerally runs (local +ℤ pos (86_400 * days)) end ↔ Means zone (local +ℤ pos (86_400 * days)) end
      later_meaning days local t end some f upto l e = meaning (local +ℤ pos (86_400 * days)) end (omega (arith, ints, f, l, some)) (omega (arith, ints, upto, e))

      ends_there : (length : Length) (line : List ℕ) (t end : ℤ) → Contains (lines_named (codes "DURATION") lines) line → LastsFor line length
          → (t +ℤ pos (86_400 * length.days + 172_798)) ≤ℤ to → (LastsDays lines → first ≤ℤ t)
          → IsDaysLaterOn (MeansGenerally runs) (ShowsBy (IsGeneralOffsetAt runs)) length.days t end ↔ IsDaysLaterOn (Means zone) (Shows zone) length.days t end
      ends_there length line t end there lasts upto from = (
        later_there (MeansGenerally runs) (ShowsBy (IsGeneralOffsetAt runs)) (Means zone) (Shows zone) length.days t end (λ some local s.
            let f = from (line, length, there, lasts, some) in
            let n = general_shown meant runs general t local s in
            ((s.0, same.offset_there t s.0 (omega (arith, ints, f)) (omega (arith, ints, upto)) s.1, s.2), (later_meaning length.days local t end some f upto n.0 n.1).0)),
        later_there (Means zone) (Shows zone) (MeansGenerally runs) (ShowsBy (IsGeneralOffsetAt runs)) length.days t end (λ some local s.
            let f = from (line, length, there, lasts, some) in
            let n = zone_shown part zone read t local s in
            ((s.0, same.offset_back t s.0 (omega (arith, ints, f)) (omega (arith, ints, upto)) s.1, s.2), (later_meaning length.days local t end some f upto n.0 n.1).1)),
      )

  pub says_so : IsSameFor runs zone false first last → SaysSameAs runs zone name lines
  says_so (always exact known same) = from_first same
  says_so (as_long end exact e same) = while_it_lasts end e same
  says_so (beyond to longer does ended same gone on) = absurd (true≢false (sym does))

  pub says_so_up_to : IsSameFor runs zone true first last → SaysSameUpTo runs zone name lines
  says_so_up_to (always exact known same) = absurd (true≢false exact)
  says_so_up_to (as_long end exact e same) = absurd (true≢false exact)
  says_so_up_to (beyond to longer does ended same gone on) = up_to_end to longer ended same gone on

-- ---- what was adapted

module _ (one_rule : OneRule) (listed : Option Tree) (octets : List ℕ) (going_on : List (List ℕ)) (adapted : List ℕ) (a : IsAdapted listed octets going_on adapted)
    (name : List ℕ) (lines : List (List ℕ)) (line : List ℕ) (there : Contains (vevents a.before) lines) (is : IsLineIn name lines line) where
  given : IsZoneGiven listed a.before a.after name (list_any (bytes_eq name) going_on)
  given = a.zones name (lines, line, there, is)

  taken : (AreSo : List Run → Zone → Type 0) → ((part : Tree) (zone : Zone) (p : TakesPlace listed a.before name (list_any (bytes_eq name) going_on) zone) → SaysZone part zone → AreSo p.zone zone)
      → IsMeantAfter listed a.before a.after name AreSo
  taken AreSo so = record {
    part = given.part;
    there = given.there;
    zone = given.zone;
    says = given.says;
    same = elim given.same [
      | inl e ↦ inl e
      | inr p ↦ inr (record { meant = p.1.meant; is_meant = p.1.is_meant; runs = p.1.zone; says = p.1.says; so = so given.part given.zone p.1 given.says })
    ];
  }

  pub says_the_same : list_any (bytes_eq name) going_on ≡ false → SaysTheSame listed a.before a.after name lines
  says_the_same none = taken (λ runs zone. SaysSameAs runs zone name lines) (λ part zone p read.
      says_so p.meant part p.zone zone p.says read one_rule p.first p.last name lines (p.from_first lines line there is) (λ end e. p.to_last end e lines line there is)
      (subst (λ b. IsSameFor p.zone zone b p.first p.last) none p.same))

  pub says_the_same_up_to : list_any (bytes_eq name) going_on ≡ true → SaysTheSameUpTo listed a.before a.after name lines
  says_the_same_up_to told = taken (λ runs zone. SaysSameUpTo runs zone name lines) (λ part zone p read.
      says_so_up_to p.meant part p.zone zone p.says read one_rule p.first p.last name lines (p.from_first lines line there is) (λ end e. p.to_last end e lines line there is)
      (subst (λ b. IsSameFor p.zone zone b p.first p.last) told p.same))
