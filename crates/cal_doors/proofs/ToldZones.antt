-- The table of the zones that an object names, and times in these zones.
use Rattle.std.proofs.Common.{◌≡◌, sym, refl, subst, ℕ, ℤ, pos, Bool, true, false, cond, codes, List, [], ◌∷◌, inl, arith}
use Rattle.std.specs.Prelude.{Option, Some, String, string_bytes, Result, Ok, Err, IfOk}
use Rattle.std.specs.Result.{result_ok}
use Rattle.std.specs.Map.{lookup}
use Rattle.std.specs.Str.{bytes_eq}
use Rattle.indexmap.specs.IndexMap.{insert_entry}
use Rattle.std.proofs.lemmas.List.Elements.{All-nil, All-cons, All-head, All-tail}
use Rattle.std.proofs.lemmas.Int.{ints}
use Rattle.std.proofs.lemmas.Option.{none-some, same_Some}
use Rattle.std.proofs.lemmas.Slice.Eq.{bytes_eq-Decides}
use Rattle.profile.specs.text.Lines.{line_param, line_value}
use Rattle.profile.specs.text.Trees.{Tree}
use Rattle.profile.specs.text.Values.{SpellsLocal}
use Rattle.profile.specs.series.Zones.{Constant, Means}
use Rattle.profile.specs.series.ZoneTexts.{SaysZone}
use Rattle.profile.specs.events.Properties.{Fixed, allows_form, time_kind}
use Rattle.profile.specs.events.ZonedTimes.{zone_named, SaysZoneOf, SpellsZoned, SaysInstant}
use Rattle.cal_zones.specs.Kinds.{zone_of}
use Rattle.cal_zones.specs.declared.zone.Zone.{Zone}
use Rattle.cal_doors.specs.Told.{IsZoneOf, AreZonesOf}

-- ---- the table

module _ {Y : Type 0} (object : Tree) where
  abbrev eq : String Y → String Y → Bool
  eq a b = bytes_eq (string_bytes a) (string_bytes b)

  pub zone_added : (k : String Y) (z : Zone) (es : List (String Y × Zone)) → IsZoneOf object (k, z) → AreZonesOf object es → AreZonesOf object (insert_entry eq es k z)
  zone_added k z [] is are = All-cons (IsZoneOf object) (k, z) [] is (All-nil (IsZoneOf object))
  zone_added k z (e ∷ es) is are = go (eq k e.0) refl (zone_added k z es is (All-tail (IsZoneOf object) e es are))
    where
      go : (b : Bool) → eq k e.0 ≡ b → AreZonesOf object (insert_entry eq es k z) → AreZonesOf object (cond b ((e.0, z) ∷ es) (e ∷ insert_entry eq es k z))
      go true same rest =
          All-cons (IsZoneOf object) (e.0, z) es (subst (λ n. SaysZoneOf (zone_named n object) (zone_of z)) ((bytes_eq-Decides (string_bytes k) (string_bytes e.0)).0 same) is)
          (All-tail (IsZoneOf object) e es are)
      go false same rest = All-cons (IsZoneOf object) e (insert_entry eq es k z) (All-head (IsZoneOf object) e es are) rest

  pub zone_held : (name : List ℕ) (es : List (String Y × Zone)) (z : Zone) → AreZonesOf object es → lookup (λ key. bytes_eq name (string_bytes key)) es ≡ Some z
      → SaysZoneOf (zone_named name object) (zone_of z)
  zone_held name [] z are there = absurd (none-some z there)
  zone_held name (e ∷ es) z are there = go (bytes_eq name (string_bytes e.0)) refl there (zone_held name es z (All-tail (IsZoneOf object) e es are))
    where
      go : (b : Bool) → bytes_eq name (string_bytes e.0) ≡ b → cond b (Some e.1) (lookup (λ key. bytes_eq name (string_bytes key)) es) ≡ Some z
          → (lookup (λ key. bytes_eq name (string_bytes key)) es ≡ Some z → SaysZoneOf (zone_named name object) (zone_of z)) → SaysZoneOf (zone_named name object) (zone_of z)
      go true same h rest =
          subst (λ n. SaysZoneOf (zone_named n object) (zone_of z)) (sym ((bytes_eq-Decides name (string_bytes e.0)).0 same))
          (subst (λ x. SaysZoneOf (zone_named (string_bytes e.0) object) (zone_of x)) (same_Some e.1 z h) (All-head (IsZoneOf object) e es are))
      go false same h rest = rest h

-- a VTIMEZONE that is there says a zone
pub says_there : (found : Option Tree) (part : Tree) (zone : Zone) → found ≡ Some part → SaysZone part (zone_of zone) → SaysZoneOf found (zone_of zone)
says_there found part zone there says = subst (λ o. SaysZoneOf o (zone_of zone)) (sym there) says

-- a value that was read
pub read_well : {A E : Type 0} (r : Result A E) (P : A → Type 0) (x : A) → Some x ≡ result_ok r → IfOk r P → P x
read_well (Ok y) P x same p = subst P (sym (same_Some x y same)) p
read_well (Err e) P x same p = absurd (none-some x (sym same))

-- ---- times

utc_means : (t : ℤ) → Means (Constant (pos 0)) t t
utc_means t = inl (record { shown = (pos 0, refl, omega (arith, ints)); least = λ other (offset, e, h). omega (arith, ints, e, h) })

pub says_zoned : (object : Tree) (line name : List ℕ) (zone : Zone) (local t : ℤ) → allows_form (time_kind line) Fixed ≡ true → Some name ≡ line_param (codes "TZID") line
    → SpellsLocal (line_value line) local → SaysZoneOf (zone_named name object) (zone_of zone) → Means (zone_of zone) local t → SaysInstant object line Fixed t
says_zoned object line name zone local t allowed is spells says means =
    (Some (zone_of zone), local, (allowed, subst (λ n. SpellsZoned object n (line_value line) (Some (zone_of zone)) local) is (spells, says)), means)

-- ---- VALUE
