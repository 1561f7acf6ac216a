-- No offset that is spelled is a day or more: so what a local time means in a VTIMEZONE, and what its clocks show, is less than a day from UTC. For
-- `adapted_says_the_same`.
use Rattle.std.proofs.Common.{◌≡◌, sym, subst, arith, inl, inr, ℕ, ◌<◌, true, List, [], ◌∷◌, Option, Some, None, ℤ, pos, ◌+ℤ◌, ◌≤ℤ◌}
use Rattle.std.specs.Prelude.{Contains, All}
use Rattle.std.specs.List.{AllZip, flat_map}
use Rattle.std.proofs.lemmas.Int.{ints}
use Rattle.std.proofs.lemmas.List.Elements.{All-contains, All-append, All-nil, All-cons}
use Rattle.profile.specs.text.Lines.{line_value}
use Rattle.profile.specs.text.Trees.{Tree}
use Rattle.profile.specs.text.Values.{IsOffset, SpellsTime, SpellsSize, SpellsOffset}
use Rattle.profile.specs.events.Properties.{Says, BothOrNeither}
use Rattle.profile.specs.series.Zones.{Observance, Zone, Constant, Single, Pair, Onset, IsOnset, IsZoneOnset, InForce, Since, Until, IsOffsetAt, Means, Shows, ShowsBy, MeansBy}
use Rattle.profile.specs.series.ZoneTexts.{SaysZone, SaysPartTimes, HasForm, IsOffsetLine, constant, single, pair}
use Rattle.profile.specs.series.GeneralZones.{Run, Never, IsGeneralOnset, IsGeneralOffsetAt, MeansGenerally}
use Rattle.profile.specs.series.GeneralZoneTexts.{SaysStartAndOffsets, AreFirstRuns, once, yearly, listed, IsRunAt, SaysRuns, SaysGeneralZone}
use Rattle.profile.specs.doors.Adapting.{IsGoneOn}
use Rattle.cal_doors.proofs.LawClocks.{AreNear}

-- ---- offsets that are spelled

pub second_bound : (text : List ℕ) (total : ℕ) → SpellsTime 59 text total → total < 86_400
second_bound text total s =
    let h = s.hours in
    let m = s.minutes in
    let c = s.counted in
    omega (arith, h, m, c)

size_bound : (digits : List ℕ) (size : ℕ) → SpellsSize digits size → size < 86_400
size_bound digits size (inl s) = second_bound _ size s
size_bound digits size (inr s) = second_bound _ size s

offset_bound : (text : List ℕ) (offset : ℤ) → SpellsOffset text offset → IsOffset offset
offset_bound text offset (digits, size, s, inl (t, e)) = let b = size_bound digits size s in rw e b
offset_bound text offset (digits, size, s, inr (t, some, e)) = let b = size_bound digits size s in omega (arith, ints, b, e)

said_bound : (name : List ℕ) (lines : List (List ℕ)) (offset : ℤ) → Says name true IsOffsetLine lines (Some offset) → IsOffset offset
said_bound name lines offset says = by says.line says.is
  where
    by : (line : Option (List ℕ)) → BothOrNeither IsOffsetLine line (Some offset) → IsOffset offset
    by None h = absurd h
    by (Some line) h = offset_bound (line_value line) offset h

-- neither offset of an observance is a day or more
abbrev IsShort : Observance → Type 0
IsShort o = IsOffset o.offset_from × IsOffset o.offset_to

-- ---- in a zone that a room reads

part_short : (lines : List (List ℕ)) (o : Observance) → SaysPartTimes lines o → IsShort o
part_short lines o says = (said_bound _ lines o.offset_from says.from, said_bound _ lines o.offset_to says.to)

abbrev pub IsZoneShort : Zone → Type 0
IsZoneShort (Constant k) = IsOffset k
IsZoneShort (Single a) = IsShort a
IsZoneShort (Pair a b) = IsShort a × IsShort b

form_short : (parts standards daylights : List (List (List ℕ))) (z : Zone) → HasForm parts standards daylights z → IsZoneShort z
form_short parts standards daylights z (constant offset part among keep) =
    let k = keep part among in
    subst IsOffset k.2 (part_short part k.0 k.1).0
form_short parts standards daylights z (single part a differ only says) = part_short part a says.times
form_short parts standards daylights z (pair s d a b differ x y first second) = (part_short s a first.times, part_short d b second.times)

zone_short : (t : Tree) (z : Zone) → SaysZone t z → IsZoneShort z
zone_short t z says = form_short _ _ _ z says.form

-- ---- in a zone in general

abbrev IsRunShort : Run → Type 0
IsRunShort run = IsShort run.observance

dates_short : (o : Observance) (dates : List ℤ) (runs : List Run) → IsShort o → AllZip (IsRunAt o) dates runs → All IsRunShort runs
dates_short o [] [] h all = All-nil IsRunShort
dates_short o [] (run ∷ runs) h all = absurd all
dates_short o (date ∷ dates) [] h all = absurd all
dates_short o (date ∷ dates) (run ∷ runs) h all = All-cons IsRunShort run runs (subst IsRunShort (sym all.0.is) h) (dates_short o dates runs h all.1)

firsts_short : (lines : List (List ℕ)) (o : Observance) (runs : List Run) → IsShort o → AreFirstRuns lines o runs → All IsRunShort runs
firsts_short lines o runs h (once none e) = All-cons IsRunShort (record { observance = o; end = Never }) [] h (All-nil IsRunShort)
firsts_short lines o runs h (yearly r says e) = All-cons IsRunShort (record { observance = o; end = r.end }) [] h (All-nil IsRunShort)
firsts_short lines o runs h (listed days all says at) = dates_short o _ runs h at

times_short : (lines : List (List ℕ)) (o : Observance) → SaysStartAndOffsets lines o → IsShort o
times_short lines o says = (said_bound _ lines o.offset_from says.from, said_bound _ lines o.offset_to says.to)

runs_short : (lines : List (List ℕ)) (runs : List Run) → SaysRuns lines runs → All IsRunShort runs
runs_short lines runs says =
    let h = times_short lines says.o says.times in
    subst (All IsRunShort) (sym says.all)
    (All-append IsRunShort says.firsts says.others (firsts_short lines says.o says.firsts h says.are_first) (dates_short says.o says.dates says.others h says.at_dates))

parts_short : (parts : List (List (List ℕ))) (each : List (List Run)) → AllZip SaysRuns parts each → All IsRunShort (flat_map (λ xs. xs) each)
parts_short [] [] all = All-nil IsRunShort
parts_short [] (runs ∷ each) all = absurd all
parts_short (part ∷ parts) [] all = absurd all
parts_short (part ∷ parts) (runs ∷ each) all = All-append IsRunShort runs (flat_map (λ xs. xs) each) (runs_short part runs all.0) (parts_short parts each all.1)

general_short : (t : Tree) (runs : List Run) → SaysGeneralZone t runs → (run : Run) → Contains runs run → IsRunShort run
general_short t runs says run there =
    All-contains IsRunShort runs run (subst (All IsRunShort) (sym says.all) (parts_short _ says.each says.say)) there

-- ---- clocks by any offsets

in_force_short : (Is : Onset → Type 0) → ((x : Onset) → Is x → IsOffset x.before × IsOffset x.after) → (t p : ℤ) → InForce Is t p → IsOffset p
in_force_short Is short t p (Since x h e) = subst IsOffset (sym e) (short x h.listed).1
in_force_short Is short t p (Until x h e) = subst IsOffset (sym e) (short x h.listed).0

shown_near : (t local p : ℤ) → IsOffset p → t +ℤ p ≡ local → (t ≤ℤ (local +ℤ pos 86_399)) × (local ≤ℤ (t +ℤ pos 86_399))
shown_near t local p short e = (omega (arith, ints, short, e), omega (arith, ints, short, e))

module _ (At : ℤ → ℤ → Type 0) (Is : Onset → Type 0) (at : (t p : ℤ) → At t p → IsOffset p) (short : (x : Onset) → Is x → IsOffset x.before) where
  means_by : (local t : ℤ) → MeansBy At Is local t → (t ≤ℤ (local +ℤ pos 86_399)) × (local ≤ℤ (t +ℤ pos 86_399))
  means_by local t (inl h) = let s = h.shown in shown_near t local s.0 (at t s.0 s.1) s.2
  means_by local t (inr h) = shown_near t local h.onset.before (short h.onset h.listed) h.read

  pub near_by : AreNear (MeansBy At Is)
  near_by = record { later = λ local t m. (means_by local t m).0; earlier = λ local t m. (means_by local t m).1 }

-- ---- those of a zone in general

module _ (t : Tree) (runs : List Run) (says : SaysGeneralZone t runs) where
  general_onset : (x : Onset) → IsGeneralOnset runs x → IsOffset x.before × IsOffset x.after
  general_onset x (run, there, is) =
      let s = general_short t runs says run there in
      (subst IsOffset (sym is.is.before) s.0, subst IsOffset (sym is.is.after) s.1)

  pub general_near : AreNear (MeansGenerally runs)
  general_near =
      near_by (IsGeneralOffsetAt runs) (IsGeneralOnset runs) (λ i p. in_force_short (IsGeneralOnset runs) general_onset i p) (λ x is. (general_onset x is).0)

  pub general_shown : (i local : ℤ) → ShowsBy (IsGeneralOffsetAt runs) i local → (i ≤ℤ (local +ℤ pos 86_399)) × (local ≤ℤ (i +ℤ pos 86_399))
  general_shown i local (p, at, e) = shown_near i local p (in_force_short (IsGeneralOnset runs) general_onset i p at) e

-- ---- those of a zone that goes on

module _ (t : Tree) (runs : List Run) (says : SaysGeneralZone t runs) (to : ℤ) (longer : List Run) (gone : IsGoneOn runs to longer) where
  beyond_onset : (x : Onset) → IsGeneralOnset longer x → IsOffset x.before × IsOffset x.after
  beyond_onset x is =
      let b = (gone x).0 is in
      let s = general_short t runs says b.0 b.1 in
      elim b.2.is [
        | inl on ↦ (subst IsOffset (sym on.is.before) s.0, subst IsOffset (sym on.is.after) s.1)
        | inr on ↦ (subst IsOffset (sym on.1.before) s.0, subst IsOffset (sym on.1.after) s.1)
      ]

  pub beyond_near : AreNear (MeansGenerally longer)
  beyond_near =
      near_by (IsGeneralOffsetAt longer) (IsGeneralOnset longer) (λ i p. in_force_short (IsGeneralOnset longer) beyond_onset i p) (λ x is. (beyond_onset x is).0)

  pub beyond_shown : (i local : ℤ) → ShowsBy (IsGeneralOffsetAt longer) i local → (i ≤ℤ (local +ℤ pos 86_399)) × (local ≤ℤ (i +ℤ pos 86_399))
  beyond_shown i local (p, at, e) = shown_near i local p (in_force_short (IsGeneralOnset longer) beyond_onset i p at) e

-- ---- those of a zone that a room reads

onset_of : (o : Observance) (x : Onset) → IsShort o → IsOnset o x → IsOffset x.before × IsOffset x.after
onset_of o x h is = (subst IsOffset (sym is.before) h.0, subst IsOffset (sym is.after) h.1)

zone_onset : (z : Zone) (x : Onset) → IsZoneShort z → IsZoneOnset z x → IsOffset x.before × IsOffset x.after
zone_onset (Constant k) x h is = absurd is
zone_onset (Single a) x h is = onset_of a x h is
zone_onset (Pair a b) x h (inl is) = onset_of a x h.0 is
zone_onset (Pair a b) x h (inr is) = onset_of b x h.1 is

zone_offset : (z : Zone) (i p : ℤ) → IsZoneShort z → IsOffsetAt z i p → IsOffset p
zone_offset (Constant k) i p h e = subst IsOffset (sym e) h
zone_offset (Single a) i p h f = in_force_short (IsZoneOnset (Single a)) (λ x is. zone_onset (Single a) x h is) i p f
zone_offset (Pair a b) i p h f = in_force_short (IsZoneOnset (Pair a b)) (λ x is. zone_onset (Pair a b) x h is) i p f

module _ (z : Zone) (short : IsZoneShort z) where
  zone_means : (local i : ℤ) → Means z local i → (i ≤ℤ (local +ℤ pos 86_399)) × (local ≤ℤ (i +ℤ pos 86_399))
  zone_means local i (inl h) = let s = h.shown in shown_near i local s.0 (zone_offset z i s.0 short s.1) s.2
  zone_means local i (inr h) = shown_near i local h.onset.before (zone_onset z h.onset short h.listed).0 h.read

  pub short_near : AreNear (Means z)
  short_near = record { later = λ local i m. (zone_means local i m).0; earlier = λ local i m. (zone_means local i m).1 }

  short_shown : (i local : ℤ) → Shows z i local → (i ≤ℤ (local +ℤ pos 86_399)) × (local ≤ℤ (i +ℤ pos 86_399))
  short_shown i local (p, at, e) = shown_near i local p (zone_offset z i p short at) e

pub zone_near : (t : Tree) (z : Zone) → SaysZone t z → AreNear (Means z)
zone_near t z says = short_near z (zone_short t z says)

pub zone_shown : (t : Tree) (z : Zone) → SaysZone t z → (i local : ℤ) → Shows z i local → (i ≤ℤ (local +ℤ pos 86_399)) × (local ≤ℤ (i +ℤ pos 86_399))
zone_shown t z says = short_shown z (zone_short t z says)
