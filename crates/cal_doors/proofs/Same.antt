-- A zone that has the onsets after an instant, and the offset there, is the same from then on. For `GeneralZone::from_instant`.
use Rattle.std.proofs.Common.{◌≡◌, ◌∙◌, sym, subst, arith, inl, inr, zero, suc, List, [], ◌∷◌, ℤ, pos, ◌≤ℤ◌}
use Rattle.std.specs.Int.Signed.{◌<ℤ◌}
use Rattle.std.proofs.lemmas.Int.{by_lt_z}
use Rattle.jiff_core.proofs.SignedLemmas.{signed_arith}
use Rattle.profile.specs.text.Values.{IsOffset}
use Rattle.profile.specs.series.Zones.{Zone, Constant, Single, Pair, Onset, InForce, Since, Until, IsZoneOnset, IsOffsetAt, IsOneOffset, IsBounds, Means, MeansBy}
use Rattle.profile.specs.series.GeneralZones.{Run, IsRunOnset, IsGeneralOnset, IsGeneralOffsetAt, IsSameFrom}
use Rattle.cal_doors.specs.Runs.{runs_in}
use Rattle.cal_doors.specs.After.{IsOnlyOffset, HasOnsetsAfter}
use Rattle.cal_doors.specs.declared.run.Run as kept
use Rattle.cal_doors.proofs.SameFrom.{AreShort, in_force_later, kept, was, means_later}

-- ---- no offset is a day or more

short : (p : ℤ) → IsOffset p → p ≤ℤ pos 86_399
short p h = omega (arith, signed_arith, h)

onset_short : (runs : List kept.Run) (x : Onset) → IsGeneralOnset (runs_in runs) x → (x.before ≤ℤ pos 86_399) × (x.after ≤ℤ pos 86_399)
onset_short [] x (r, (k, w, e), on) = absurd (omega (arith, w))
onset_short (run ∷ rest) x (r, (zero, w, e), on) =
    let is = subst (λ s. IsRunOnset s x) (sym e) on in (
      subst (λ p. p ≤ℤ pos 86_399) (sym is.is.before) (short run.observance.offset_from run.observance.from),
      subst (λ p. p ≤ℤ pos 86_399) (sym is.is.after) (short run.observance.offset_to run.observance.to),
    )
onset_short (run ∷ rest) x (r, (suc k, w, e), on) = onset_short rest x (r, (k, omega (arith, w), e), on)

offset_short : (runs : List kept.Run) (t p : ℤ) → IsGeneralOffsetAt (runs_in runs) t p → p ≤ℤ pos 86_399
offset_short runs t p (Since x h e) = subst (λ q. q ≤ℤ pos 86_399) (sym e) (onset_short runs x h.listed).1
offset_short runs t p (Until x h e) = subst (λ q. q ≤ℤ pos 86_399) (sym e) (onset_short runs x h.listed).0

pub runs_short : (runs : List kept.Run) → AreShort (IsGeneralOffsetAt (runs_in runs)) (IsGeneralOnset (runs_in runs))
runs_short runs = record { offsets = offset_short runs; onsets = λ x is. (onset_short runs x is).1 }

pub zone_short : (z : Zone) (least greatest : ℤ) → IsBounds z least greatest → IsOffset least → IsOffset greatest → AreShort (IsOffsetAt z) (IsZoneOnset z)
zone_short z least greatest bounds low high = record {
  offsets = λ t p at. elim (bounds.one t p at) [
    | inl e ↦ subst (λ q. q ≤ℤ pos 86_399) (sym e) (short least low)
    | inr e ↦ subst (λ q. q ≤ℤ pos 86_399) (sym e) (short greatest high)
  ];
  onsets = λ x is. elim (bounds.sides x is) [
    | inl e ↦ subst (λ q. q ≤ℤ pos 86_399) (sym e.1) (short greatest high)
    | inr e ↦ subst (λ q. q ≤ℤ pos 86_399) (sym e.1) (short least low)
  ];
}

-- ---- what it means by its offsets and its onsets is what it means

pub of_zone : (z : Zone) (local t : ℤ) → Means z local t → MeansBy (IsOffsetAt z) (IsZoneOnset z) local t
of_zone z local t (inl h) = inl (record { shown = h.shown; least = h.least })
of_zone z local t (inr h) = inr (record { never = h.never; onset = h.onset; listed = h.listed; set_from = h.set_from; set_past = h.set_past; read = h.read })

pub by_zone : (z : Zone) (local t : ℤ) → MeansBy (IsOffsetAt z) (IsZoneOnset z) local t → Means z local t
by_zone z local t (inl h) = inl (record { shown = h.shown; least = h.least })
by_zone z local t (inr h) = inr (record { never = h.never; onset = h.onset; listed = h.listed; set_from = h.set_from; set_past = h.set_past; read = h.read })

-- ---- the offset in force

module _ (zone : List Run) (from k : ℤ) (only : IsOnlyOffset zone from k) where
  -- both ways
  abbrev Agree : Zone → Type 0
  Agree z = (t p : ℤ) → from ≤ℤ t → (IsGeneralOffsetAt zone t p → IsOffsetAt z t p) × (IsOffsetAt z t p → IsGeneralOffsetAt zone t p)

  by_onsets : (Is : Onset → Type 0) → ((x : Onset) → from <ℤ x.instant → IsGeneralOnset zone x → Is x) → ((x : Onset) → from <ℤ x.instant → Is x → IsGeneralOnset zone x)
      → InForce Is from k → ((q : ℤ) → InForce Is from q → q ≡ k) → (t p : ℤ) → from ≤ℤ t → (IsGeneralOffsetAt zone t p → InForce Is t p) × (InForce Is t p → IsGeneralOffsetAt zone t p)
  by_onsets Is there back at one t p l = (
    in_force_later (IsGeneralOnset zone) Is from there back t p l (λ q f. subst (InForce Is from) (sym (only.only q f)) at),
    in_force_later Is (IsGeneralOnset zone) from back there t p l (λ q f. subst (InForce (IsGeneralOnset zone) from) (sym (one q f)) only.in_force),
  )

  pub agree : (z : Zone) → HasOnsetsAfter zone from z → IsOffsetAt z from k → IsOneOffset z → Agree z
  agree (Constant c) h at one t p l =
      let none : (x : Onset) → IsGeneralOnset zone x → x.instant ≤ℤ from = λ x is. by_lt_z from x.instant (λ lt. absurd (h.there x lt is)) (λ ge. ge) in (
        λ f. only.only p (was (IsGeneralOnset zone) from none t p l f) ∙ at,
        λ e. kept (IsGeneralOnset zone) from none t p l (subst (InForce (IsGeneralOnset zone) from) (at ∙ sym e) only.in_force),
      )
  agree (Single a) h at one t p l = by_onsets (IsZoneOnset (Single a)) h.there h.back at (λ q f. one from q k f at) t p l
  agree (Pair a b) h at one t p l = by_onsets (IsZoneOnset (Pair a b)) h.there h.back at (λ q f. one from q k f at) t p l

  pub same : (z : Zone) → HasOnsetsAfter zone from z → IsOffsetAt z from k → IsOneOffset z
      → AreShort (IsGeneralOffsetAt zone) (IsGeneralOnset zone) → AreShort (IsOffsetAt z) (IsZoneOnset z) → IsSameFrom zone z from
  same z h at one s u =
      let both = agree z h at one in
      record {
        offset_there = λ t p l. (both t p l).0;
        offset_back = λ t p l. (both t p l).1;
        means_there = λ local t l m. by_zone z local t
            (means_later (IsGeneralOffsetAt zone) (IsOffsetAt z) (IsGeneralOnset zone) (IsZoneOnset z) from local l s u (λ t p l. (both t p l).0) (λ t p l. (both t p l).1) h.there t m);
        means_back = λ local t l m.
            means_later (IsOffsetAt z) (IsGeneralOffsetAt zone) (IsZoneOnset z) (IsGeneralOnset zone) from local l u s (λ t p l. (both t p l).1) (λ t p l. (both t p l).0) h.back t (of_zone z local t m);
      }
