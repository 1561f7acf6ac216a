-- Which zones are regular: those that are said, and those that are kept.
use Rattle.std.proofs.Common.{◌≡◌, ap, subst, refl, arith, inl, inr, ℕ, ◌<◌, Option, Some, None, true, List, ℤ}
use Rattle.std.proofs.lemmas.Int.{ints}
use Rattle.profile.specs.text.Trees.{Tree}
use Rattle.profile.specs.text.Values.{IsOffset, SpellsTime, SpellsSize, SpellsOffset}
use Rattle.profile.specs.text.Lines.{line_value}
use Rattle.profile.specs.events.Properties.{Says, BothOrNeither}
use Rattle.profile.specs.series.Zones.{Observance, Zone}
use Rattle.profile.specs.series.ZoneTexts.{SaysZone, SaysPartTimes, HasForm, AreMatched, IsOffsetLine, constant, single, pair}
use Rattle.cal_zones.specs.Onsets.{observance_of, yearly_rule}
use Rattle.cal_zones.specs.Shapes.{rule_named}
use Rattle.cal_zones.specs.Kinds.{zone_of, zone_of_form}
use Rattle.cal_zones.specs.Repeats.{IsRegular, HasOffsets, IsEachYear}
use Rattle.cal_zones.specs.declared.yearly.Yearly.{Yearly}
use Rattle.cal_zones.specs.declared.observance.Observance as rust
use Rattle.cal_zones.specs.declared.zone.Form as form
use Rattle.cal_zones.specs.declared.zone.Form.TheVariants as the
use Rattle.cal_zones.specs.declared.zone.Zone as kept

-- ---- those that are said

second_bound : (text : List ℕ) (total : ℕ) → SpellsTime 59 text total → total < 86_400
second_bound text total s =
    let h = s.hours in
    let m = s.minutes in
    let c = s.counted in
    omega (arith, h, m, c)

size_bound : (digits : List ℕ) (size : ℕ) → SpellsSize digits size → size < 86_400
size_bound digits size (inl s) = second_bound _ size s
size_bound digits size (inr s) = second_bound _ size s

offset_bound : (text : List ℕ) (offset : ℤ) → SpellsOffset text offset → IsOffset offset
offset_bound text offset (digits, size, s, inl (t, e)) = let b = size_bound digits size s in rw e b
offset_bound text offset (digits, size, s, inr (t, some, e)) = let b = size_bound digits size s in omega (arith, ints, b, e)

said_bound : (name : List ℕ) (lines : List (List ℕ)) (offset : ℤ) → Says name true IsOffsetLine lines (Some offset) → IsOffset offset
said_bound name lines offset says = by says.line says.is
  where
    by : (line : Option (List ℕ)) → BothOrNeither IsOffsetLine line (Some offset) → IsOffset offset
    by None h = absurd h
    by (Some line) h = offset_bound (line_value line) offset h

said_offsets : (lines : List (List ℕ)) (o : Observance) → SaysPartTimes lines o → HasOffsets o
said_offsets lines o says = (said_bound _ lines o.offset_from says.from, said_bound _ lines o.offset_to says.to)

form_regular : (parts standards daylights : List (List (List ℕ))) (z : Zone) → HasForm parts standards daylights z → AreMatched z → IsRegular z
form_regular parts standards daylights z (constant offset part among keep) matched =
    let k = keep part among in
    subst IsOffset k.2 (said_offsets part k.0 k.1).0
form_regular parts standards daylights z (single part a differ only says) matched = (said_offsets part a says.times, says.is, matched)
form_regular parts standards daylights z (pair s d a b differ x y first second) matched =
    (said_offsets s a first.times, (first.each, first.is), (second.each, second.is), matched)

pub said_regular : (tree : Tree) (z : Zone) → SaysZone tree z → IsRegular z
said_regular t z says = form_regular _ _ _ z says.form says.matched

-- ---- those that are kept

each_year : (o : rust.Observance) → (o.rule ≡ None → ⊥) → IsEachYear (observance_of o)
each_year o some = by o.rule refl
  where
    by : (rule : Option Yearly) → o.rule ≡ rule → IsEachYear (observance_of o)
    by None e = absurd (some e)
    by (Some r) e = (rule_named r.month r.days, ap (yearly_rule o.day) e)

form_kept : (k : form.Form) → IsRegular (zone_of_form k)
form_kept (the.Constant f) = f.range
form_kept (the.Single a) = ((a.observance.from, a.observance.to), ap (yearly_rule a.observance.day) a.unruled, a.near)
form_kept (the.Pair p) =
    ((p.standard.from, p.standard.to), each_year p.standard p.first, each_year p.daylight p.second, (p.there, p.back, p.near))

pub kept_regular : (z : kept.Zone) → IsRegular (zone_of z)
kept_regular z = form_kept z.kind
