-- Two sets of onsets that are the same up to an instant, of which one has begun: what is in force before it is the same, and what local times
-- mean that no clock shows after it. For `GeneralZone::between`.
use Rattle.std.proofs.Common.{◌≡◌, refl, sym, subst, arith, zero, suc, inl, inr, List, [], ◌∷◌, ℤ, pos, ◌+ℤ◌, ◌-ℤ◌, ◌≤ℤ◌}
use Rattle.std.specs.Prelude.{Bool, false, Option, Some, None, IfSome}
use Rattle.std.proofs.lemmas.Int.{ints}
use Rattle.jiff_core.proofs.SignedLemmas.{signed_arith}
use Rattle.profile.specs.text.Values.{IsOffset}
use Rattle.profile.specs.series.Zones.{Zone, Onset, InForce, Since, Until, ShowsBy, MeansBy}
use Rattle.profile.specs.series.GeneralZones.{Run, IsRunOnset, IsGeneralOnset, IsGeneralOffsetAt, IsSameFrom, IsSameBetween}
use Rattle.cal_doors.specs.Runs.{runs_in}
use Rattle.cal_doors.specs.declared.run.Run as kept
use Rattle.profile.specs.doors.Adapting.{IsGoneOn, IsSameFor, SetsBack, as_long, beyond}
use Rattle.cal_doors.specs.Between.{HasOnsetBy, AreSameUpTo, LastsAsLong, GoesOnFrom, IsChosenBeyond}
use Rattle.cal_doors.proofs.GoingOn.{same_up_to}

-- ---- the offset in force

module _ (A B : Onset → Type 0) (from to : ℤ)
    (there : (x : Onset) → x.instant ≤ℤ to → A x → B x)
    (back : (x : Onset) → x.instant ≤ℤ to → B x → A x)
    (first : Onset) (is : A first) (begun : first.instant ≤ℤ from) where
  pub in_force_between : (t p : ℤ) → from ≤ℤ t → t ≤ℤ to → InForce A t p → InForce B t p
  in_force_between t p after before (Since x h e) =
      let l = h.begun in
      Since x (record {
        listed = there x (omega (arith, ints, l, before)) h.listed;
        begun = l;
        latest = λ y on m. h.latest y (back y (omega (arith, ints, m, before)) on) m;
      }) e
  in_force_between t p after before (Until x h e) =
      let ahead = h.ahead in
      let least = h.least first is in
      absurd (omega (arith, ints, ahead, least, begun, after))

-- ---- what a local time means

-- offsets at instants, and onsets, of which no offset is a day or more
pub record AreOffsets (At : ℤ → ℤ → Type 0) (Is : Onset → Type 0) : Type 0 where
  pub offsets : (t p : ℤ) → At t p → IsOffset p
  pub ended : (x : Onset) → Is x → IsOffset x.before

module _ (At Bt : ℤ → ℤ → Type 0) (A B : Onset → Type 0) (from to local : ℤ)
    (past : (from +ℤ pos 86_399) ≤ℤ local) (ahead : (local +ℤ pos 86_399) ≤ℤ to)
    (near : AreOffsets At A) (near_b : AreOffsets Bt B)
    (there : (t p : ℤ) → from ≤ℤ t → t ≤ℤ to → At t p → Bt t p)
    (back : (t p : ℤ) → from ≤ℤ t → t ≤ℤ to → Bt t p → At t p)
    (onset_there : (x : Onset) → x.instant ≤ℤ to → A x → B x) where
  shows_there : (t : ℤ) → ShowsBy At t local → ShowsBy Bt t local
  shows_there t (p, at, e) =
      let d = near.offsets t p at in
      (p, there t p (omega (arith, signed_arith, d, e, past)) (omega (arith, signed_arith, d, e, ahead)) at, e)

  shows_back : (t : ℤ) → ShowsBy Bt t local → ShowsBy At t local
  shows_back t (p, at, e) =
      let d = near_b.offsets t p at in
      (p, back t p (omega (arith, signed_arith, d, e, past)) (omega (arith, signed_arith, d, e, ahead)) at, e)

  pub means_between : (t : ℤ) → MeansBy At A local t → MeansBy Bt B local t
  means_between t (inl h) = inl (record { shown = shows_there t h.shown; least = λ u s. h.least u (shows_back u s) })
  means_between t (inr h) =
      let d = near.ended h.onset h.listed in
      let set = h.set_from in
      inr (record {
        never = λ u s. h.never u (shows_back u s);
        onset = h.onset;
        listed = onset_there h.onset (omega (arith, signed_arith, d, set, ahead)) h.listed;
        set_from = h.set_from;
        set_past = h.set_past;
        read = h.read;
      })

-- ---- a zone

module _ (zone other : List Run) (from to : ℤ) (same : AreSameUpTo to zone other) (begun : HasOnsetBy zone from)
    (near : AreOffsets (IsGeneralOffsetAt zone) (IsGeneralOnset zone)) (near_other : AreOffsets (IsGeneralOffsetAt other) (IsGeneralOnset other)) where
  there : (x : Onset) → x.instant ≤ℤ to → IsGeneralOnset zone x → IsGeneralOnset other x
  there x l = (same x l).0

  back : (x : Onset) → x.instant ≤ℤ to → IsGeneralOnset other x → IsGeneralOnset zone x
  back x l = (same x l).1

  offset_there : (t p : ℤ) → from ≤ℤ t → t ≤ℤ to → IsGeneralOffsetAt zone t p → IsGeneralOffsetAt other t p
  offset_there = in_force_between (IsGeneralOnset zone) (IsGeneralOnset other) from to there back begun.0 begun.1 begun.2

  offset_back : (t p : ℤ) → from ≤ℤ t → t ≤ℤ to → IsGeneralOffsetAt other t p → IsGeneralOffsetAt zone t p
  offset_back t p after before =
      let l = begun.2 in
      in_force_between (IsGeneralOnset other) (IsGeneralOnset zone) from to back there begun.0 (there begun.0 (omega (arith, ints, l, after, before)) begun.1) begun.2 t p after before

  -- a zone that does the same as the other from the first instant on does the same as the one up to the second
  pub between : (z : Zone) → IsSameFrom other z from → IsSameBetween zone z from to
  between z h = record {
    offset_there = λ t p after before at. h.offset_there t p after (offset_there t p after before at);
    offset_back = λ t p after before at. offset_back t p after before (h.offset_back t p after at);
    means_there = λ local t past ahead m. h.means_there local t past
        (means_between (IsGeneralOffsetAt zone) (IsGeneralOffsetAt other) (IsGeneralOnset zone) (IsGeneralOnset other) from to local past ahead near near_other offset_there offset_back there t m);
    means_back = λ local t past ahead m.
        means_between (IsGeneralOffsetAt other) (IsGeneralOffsetAt zone) (IsGeneralOnset other) (IsGeneralOnset zone) from to local past ahead near_other near offset_back offset_there back t
        (h.means_back local t past m);
  }

-- ---- no offset of kept runs is a day or more

onset_offsets : (runs : List kept.Run) (x : Onset) → IsGeneralOnset (runs_in runs) x → IsOffset x.before × IsOffset x.after
onset_offsets [] x (r, (k, w, e), on) = absurd (omega (arith, w))
onset_offsets (run ∷ rest) x (r, (zero, w, e), on) =
    let is = subst (λ s. IsRunOnset s x) (sym e) on in (subst IsOffset (sym is.is.before) run.observance.from, subst IsOffset (sym is.is.after) run.observance.to)
onset_offsets (run ∷ rest) x (r, (suc k, w, e), on) = onset_offsets rest x (r, (k, omega (arith, w), e), on)

offset_in_force : (runs : List kept.Run) (t p : ℤ) → IsGeneralOffsetAt (runs_in runs) t p → IsOffset p
offset_in_force runs t p (Since x h e) = subst IsOffset (sym e) (onset_offsets runs x h.listed).1
offset_in_force runs t p (Until x h e) = subst IsOffset (sym e) (onset_offsets runs x h.listed).0

pub are_offsets : (runs : List kept.Run) → AreOffsets (IsGeneralOffsetAt (runs_in runs)) (IsGeneralOnset (runs_in runs))
are_offsets runs = record { offsets = offset_in_force runs; ended = λ x is. (onset_offsets runs x is).0 }

-- so a zone that does the same as other runs from the first instant on does the same as these up to the second
pub runs_between : (runs others : List kept.Run) (from to : ℤ) (z : Zone) → AreSameUpTo to (runs_in runs) (runs_in others) → HasOnsetBy (runs_in runs) from
    → IsSameFrom (runs_in others) z from → IsSameBetween (runs_in runs) z from to
runs_between runs others from to z same begun h = between (runs_in runs) (runs_in others) from to same begun (are_offsets runs) (are_offsets others) z h

-- and one that does the same as the zone that goes on from the second on goes on
pub beyond_from : (runs others : List kept.Run) (from to : ℤ) (z : Zone) → IsGoneOn (runs_in runs) to (runs_in others) → HasOnsetBy (runs_in runs) from
    → IsSameFrom (runs_in others) z from × SetsBack z → GoesOnFrom (runs_in runs) z from to
beyond_from runs others from to z gone begun (h, sides) = record {
  same = runs_between runs others from to z (same_up_to (runs_in runs) (runs_in others) to gone) begun h;
  longer = runs_in others;
  gone_on = gone;
  on = h;
  sides = sides;
}

pub both_some : {T : Type 0} (P Q : T → Type 0) (o : Option T) → IfSome o P → IfSome o Q → IfSome o (λ x. P x × Q x)
both_some P Q None p q = tt
both_some P Q (Some x) p q = (p, q)

-- ---- local times from one on

-- a zone that lasts as long as they do, and one that goes on
pub lasts_as_long : (zone : List Run) (z : Zone) (first from : ℤ) (last : Option ℤ) → from ≡ first -ℤ pos 86_399 → LastsAsLong zone z from last → IsSameFor zone z false first last
lasts_as_long zone z first from last e (end, is, same) = as_long end refl is (subst (λ f. IsSameBetween zone z f (end +ℤ pos 86_399)) e same)

pub goes_on_beyond : (zone : List Run) (z : Zone) (goes_on : Bool) (first from : ℤ) (last : Option ℤ) → from ≡ first -ℤ pos 86_399 → IsChosenBeyond zone z goes_on from
    → IsSameFor zone z goes_on first last
goes_on_beyond zone z goes_on first from last e (to, does, ended, h) =
    beyond to h.longer does ended (subst (λ f. IsSameBetween zone z f to) e h.same) h.gone_on (subst (λ f. IsSameFrom h.longer z f) e h.on)
