-- Where one zone in general goes on in two objects, it goes on alike. For `tables_go_on_alike`.
use Rattle.std.proofs.Common.{◌≡◌, sym, subst, arith, inl, inr, true, Bool, List, Option, Some, None, ℤ, pos, ◌-ℤ◌, ◌≤ℤ◌}
use Rattle.std.specs.Prelude.{ℕ}
use Rattle.std.proofs.lemmas.Int.{ints}
use Rattle.std.proofs.lemmas.Bool.{true≢false}
use Rattle.profile.specs.text.Trees.{Tree}
use Rattle.profile.specs.series.Zones.{Zone, Onset, InForce, Since, Until, MeansBy}
use Rattle.profile.specs.series.GeneralZones.{Run, IsGeneralOnset, IsGeneralOffsetAt, MeansGenerally, IsSameFrom}
use Rattle.profile.specs.series.GeneralZoneTexts.{SaysGeneralZone}
use Rattle.profile.specs.doors.Adapting.{IsGoneOn, EndsBefore, IsSameFor, always, as_long, beyond, TakesPlace}
use Rattle.cal_doors.specs.Laws.{AgreeFrom}
use Rattle.cal_doors.proofs.Stated.{one_end}

-- ---- two sets of onsets that are the same

in_force_as : (A B : Onset → Type 0) → ((x : Onset) → A x → B x) → ((x : Onset) → B x → A x) → (t p : ℤ) → InForce A t p → InForce B t p
in_force_as A B there back t p (Since x h e) = Since x (record { listed = there x h.listed; begun = h.begun; latest = λ y on l. h.latest y (back y on) l }) e
in_force_as A B there back t p (Until x h e) = Until x (record { listed = there x h.listed; ahead = h.ahead; least = λ y on. h.least y (back y on) }) e

means_as : (At Bt : ℤ → ℤ → Type 0) (A B : Onset → Type 0) → ((t p : ℤ) → At t p → Bt t p) → ((t p : ℤ) → Bt t p → At t p) → ((x : Onset) → A x → B x)
    → (local t : ℤ) → MeansBy At A local t → MeansBy Bt B local t
means_as At Bt A B at_there at_back there local t (inl h) =
    let s = h.shown in
    inl (record { shown = (s.0, at_there t s.0 s.1, s.2); least = λ u r. h.least u (r.0, at_back u r.0 r.1, r.2) })
means_as At Bt A B at_there at_back there local t (inr h) = inr (record {
  never = λ u r. h.never u (r.0, at_back u r.0 r.1, r.2);
  onset = h.onset;
  listed = there h.onset h.listed;
  set_from = h.set_from;
  set_past = h.set_past;
  read = h.read;
})

-- ---- a zone that goes on

module _ (zone : List Run) (to : ℤ) (longer other : List Run) (gone : IsGoneOn zone to longer) (gone_too : IsGoneOn zone to other) where
  onset_as : (x : Onset) → IsGeneralOnset longer x → IsGeneralOnset other x
  onset_as x is = (gone_too x).1 ((gone x).0 is)

pub same_offset : (zone : List Run) (to : ℤ) (longer other : List Run) → IsGoneOn zone to longer → IsGoneOn zone to other → (t p : ℤ) → IsGeneralOffsetAt longer t p → IsGeneralOffsetAt other t p
same_offset zone to longer other gone gone_too =
    in_force_as (IsGeneralOnset longer) (IsGeneralOnset other) (onset_as zone to longer other gone gone_too) (onset_as zone to other longer gone_too gone)

pub same_meaning : (zone : List Run) (to : ℤ) (longer other : List Run) → IsGoneOn zone to longer → IsGoneOn zone to other → (local t : ℤ) → MeansGenerally longer local t → MeansGenerally other local t
same_meaning zone to longer other gone gone_too =
    means_as (IsGeneralOffsetAt longer) (IsGeneralOffsetAt other) (IsGeneralOnset longer) (IsGeneralOnset other) (same_offset zone to longer other gone gone_too)
    (same_offset zone to other longer gone_too gone) (onset_as zone to longer other gone gone_too)

agree : (zone : List Run) (to : ℤ) (longer other : List Run) (one two : Zone) (first second from : ℤ) → IsGoneOn zone to longer → IsGoneOn zone to other
    → IsSameFrom longer one (first -ℤ pos 86_399) → IsSameFrom other two (second -ℤ pos 86_399) → first ≤ℤ from → second ≤ℤ from → AgreeFrom one two (from -ℤ pos 86_399)
agree zone to longer other one two first second from gone gone_too a b l m = record {
  offset = λ t p at. (
    λ h. b.offset_there t p (omega (arith, ints, m, at)) (same_offset zone to longer other gone gone_too t p (a.offset_back t p (omega (arith, ints, l, at)) h)),
    λ h. a.offset_there t p (omega (arith, ints, l, at)) (same_offset zone to other longer gone_too gone t p (b.offset_back t p (omega (arith, ints, m, at)) h)),
  );
  meaning = λ local t past. (
    λ h. b.means_there local t (omega (arith, ints, m, past)) (same_meaning zone to longer other gone gone_too local t (a.means_back local t (omega (arith, ints, l, past)) h)),
    λ h. a.means_there local t (omega (arith, ints, l, past)) (same_meaning zone to other longer gone_too gone local t (b.means_back local t (omega (arith, ints, m, past)) h)),
  );
}

alike_for : (zone : List Run) (one two : Zone) (first second from : ℤ) (last ending : Option ℤ) → IsSameFor zone one true first last → IsSameFor zone two true second ending
    → first ≤ℤ from → second ≤ℤ from → AgreeFrom one two (from -ℤ pos 86_399)
alike_for zone one two first second from last ending (always exact known same) b l m = absurd (true≢false exact)
alike_for zone one two first second from last ending (as_long end exact e same) b l m = absurd (true≢false exact)
alike_for zone one two first second from last ending (beyond to longer does ended same gone on) (always exact known like) l m = absurd (true≢false exact)
alike_for zone one two first second from last ending (beyond to longer does ended same gone on) (as_long end exact e like) l m = absurd (true≢false exact)
alike_for zone one two first second from last ending (beyond to longer does ended same gone on) (beyond end other does_too ended_too like gone_too on_too) l m =
    agree zone to longer other one two first second from gone (subst (λ t. IsGoneOn zone t other) (one_end zone end to ended_too ended) gone_too) on on_too l m

module _ (one_zone : (t : Tree) (a b : List Run) → SaysGeneralZone t a → SaysGeneralZone t b → a ≡ b) where
  pub alike : (listed : Option Tree) (object another : Tree) (name named : List ℕ) (one other : Zone) (a : TakesPlace listed object name true one) (b : TakesPlace listed another named true other)
      (from : ℤ) → a.meant ≡ b.meant → a.first ≤ℤ from → b.first ≤ℤ from → AgreeFrom one other (from -ℤ pos 86_399)
  alike listed object another name named one other a b from meant l m =
      let zone : a.zone ≡ b.zone = one_zone b.meant a.zone b.zone (subst (λ t. SaysGeneralZone t a.zone) meant a.says) b.says in
      alike_for a.zone one other a.first b.first from a.last b.last a.same (subst (λ z. IsSameFor z other true b.first b.last) (sym zone) b.same) l m

-- ---- which are told

some_none : (end : ℤ) → None ≡ Some end → ⊥
some_none end e = cc

pub told : (zone : List Run) (other : Zone) (goes_on : Bool) (first : ℤ) → EndsBefore zone None → IsSameFor zone other goes_on first None → goes_on ≡ true
told zone other goes_on first ends (always exact known same) = absurd (known ends)
told zone other goes_on first ends (as_long end exact e same) = absurd (some_none end e)
told zone other goes_on first ends (beyond to longer does ended same gone on) = does
