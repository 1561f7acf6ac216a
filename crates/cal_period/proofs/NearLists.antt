-- What a series does near the onsets of its zone, as a list.
use Rattle.std.proofs.Common.{◌≡◌, ◌∙◌, sym, subst, ap, inl, inr, arith, ℕ, true, false, ◌+◌, ◌<◌, ◌≤◌, List, length, get_or, ◌++◌, ◌∷◌, [], ℤ, pos, w64, ◌+ℤ◌, ◌-ℤ◌, ◌≤ℤ◌, ◌<ℤ◌}
use Rattle.std.proofs.Math.Logic.{∥∥₁_elim, ∥∥₁_map}
use Rattle.std.proofs.lemmas.List.{get_or_default}
use Rattle.std.proofs.lemmas.Int.{ints, by_lt_z}
use Rattle.std.proofs.lemmas.Bool.{cases_lt}
use Rattle.std.proofs.lemmas.List.Elements.{Contains-push, Contains-append_left}
use Rattle.std.specs.Prelude.{Contains, Option, Some, None, option_map, is_some}
use Rattle.profile.specs.checker.Instances.{Instance as SaidInstance}
use Rattle.profile.specs.series.Zones.{Zone, IsZoneOnset}
use Rattle.profile.specs.events.Events.{Event}
use Rattle.profile.specs.events.Properties.{first_second}
use Rattle.profile.specs.events.Starts.{IsInstance, IsFirstSharer, SharesInstant}
use Rattle.cal_zones.specs.Spans.{AreNoneBetween, IsNextOnset}
use Rattle.std.specs.Int.{saturate_signed}
use Rattle.cal_events.specs.Calendar.{instance_of}
use Rattle.cal_events.specs.Series.{AreKnownByStart}
use Rattle.cal_events.specs.declared.instance.Instance.{Instance}
use Rattle.cal_events.specs.declared.instances.Instances.{Instances}
use Rattle.cal_events.specs.declared.sweep.Span.{Span}
use Rattle.cal_period.specs.Onsets.{IsReach, AreClearNear, IsHalfDayBefore}
use Rattle.cal_period.specs.Onward.{IsFirstStart}
use Rattle.cal_period.specs.NearSpans.{near_onset, HoldsNear, HoldsAll, ArePassedBy, IsLongBefore}
use Rattle.cal_period.specs.Walks.{walk_place, IsNoneBelow, IsBehind, Tail, EntersWalk, WalksOn}
use Rattle.cal_period.specs.declared.near.NearSpan.{NearSpan}
use Rattle.cal_period.specs.declared.walk.Walk.{Walk}
use Rattle.cal_period.proofs.Entries.{saturated}
use Rattle.cal_period.proofs.NearOnsets.{HoldsTo, holds_next, holds_more}
use Rattle.cal_period.proofs.Sweeping.{all_behind}

-- ---- near one onset

-- what was passed over is over by an onset, or among the spans
pub record AreTaken (a : Event) (onset : ℤ) (old near : List NearSpan) (left : Instances) (walk : Walk) : Type 0 where
  pub tail : Tail a onset left walk
  pub stay : (one : NearSpan) → Contains old one → Contains near one
  pub taken : (x : SaidInstance) → IsBehind a (walk_place walk.next) x → onset <ℤ x.end → Contains near (near_onset onset x)

pub taken_first : (a : Event) (onset entry : ℤ) (old : List NearSpan) (left : Instances) (walk : Walk) → EntersWalk a onset entry left walk → AreTaken a onset old old left walk
taken_first a onset entry old left walk m = record {
  tail = m.tail;
  stay = λ one there. there;
  taken = λ x h late. let over = m.over x h in absurd (omega (arith, ints, over, late));
}

pub taken_past : (a : Event) (onset : ℤ) (old near : List NearSpan) (left rest : Instances) (walk new : Walk) (next : Instance) (span : Span) → AreTaken a onset old near left walk → WalksOn a onset next walk rest new
    → span.start ≡ next.start → span.end ≡ next.end → AreTaken a onset old (near ++ record { onset = onset; span = span } ∷ []) rest new
taken_past a onset old near left rest walk new next span at g start end = record {
  tail = g.tail;
  stay = λ one there. Contains-append_left near _ one (at.stay one there);
  taken = λ x h late. elim (g.one x h) [
    | inl was ↦ Contains-append_left near _ (near_onset onset x) (at.taken x was late)
    | inr e ↦ subst (Contains (near ++ record { onset = onset; span = span } ∷ [])) (same start end ∙ ap (near_onset onset) (sym e)) (Contains-push near (record { onset = onset; span = span }))
  ];
}
  where
    spanned : Span → NearSpan
    spanned s = record { onset = onset; span = s }

    same : span.start ≡ next.start → span.end ≡ next.end → spanned span ≡ near_onset onset (instance_of next)
    same s e = ap spanned (ap (λ t. record { start = t; end = span.end }) s ∙ ap (λ t. record { start = next.start; end = t }) e)

pub taken_all : (a : Event) (onset bound : ℤ) (old near : List NearSpan) (left : Instances) (walk : Walk) → AreTaken a onset old near left walk → IsNoneBelow bound walk.next → bound ≡ (onset +ℤ pos 129_601)
    → HoldsNear a onset near
taken_all a onset bound old near left walk at none is x h l late = ∣ at.taken x (all_behind a left walk.next bound at.tail.ahead none x h (omega (arith, ints, is, l))) late ∣₁

-- ---- from onset to onset

-- the spans stay, and hold what is near the onsets up to the last
pub record ArePushed (a : Event) (zone : Zone) (after last : ℤ) (old near : List NearSpan) : Type 0 where
  pub stay : (one : NearSpan) → Contains old one → Contains near one
  pub holds : HoldsTo (IsZoneOnset zone) (λ t. HoldsNear a t near) after last

pub more_near : (a : Event) (near new : List NearSpan) → ((one : NearSpan) → Contains near one → Contains new one) → (t : ℤ) → HoldsNear a t near → HoldsNear a t new
more_near a near new stay t holds x h l late = ∥∥₁_map (holds x h l late) (stay (near_onset t x))

pub pushed_first : (a : Event) (zone : Zone) (after : ℤ) (near : List NearSpan) → ArePushed a zone after after near near
pushed_first a zone after near = record { stay = λ one there. there; holds = λ u is past most. absurd (omega (arith, ints, past, most)) }

pub pushed_more : (a : Event) (zone : Zone) (after last onset : ℤ) (old near new : List NearSpan) → ArePushed a zone after last old near → IsNextOnset (IsZoneOnset zone) last onset
    → ((one : NearSpan) → Contains near one → Contains new one) → HoldsNear a onset new → ArePushed a zone after onset old new
pushed_more a zone after last onset old near new p next stay holds = record {
  stay = λ one there. stay one (p.stay one there);
  holds = holds_next (IsZoneOnset zone) (λ t. HoldsNear a t new) after last onset
      (holds_more (IsZoneOnset zone) (λ t. HoldsNear a t near) (λ t. HoldsNear a t new) after last (more_near a near new stay) p.holds) next holds;
}

-- ---- the other series

-- the first that shares an instant isn't there
pub none_shares : (b : Event) (start end : ℤ) (found : Option Instance) → is_some found ≡ false → IsFirstSharer b start end (option_map instance_of found) → (y : SaidInstance) → IsInstance b y
    → SharesInstant y.start y.end start end → ⊥
none_shares b start end None e first y k s = first y k s
none_shares b start end (Some i) e first y k s = absurd (never e)
  where
    never : true ≡ false → ⊥
    never e = cc

-- ---- one after another

module _ {X : Type 0} (P : X → Type 0) (xs : List X) where
  -- it holds of each that stands before a place
  abbrev pub HoldsBefore : ℕ → Type 0
  HoldsBefore place = (x : X) (i : ℕ) → i < place → i < length xs → get_or xs i x ≡ x → P x

  pub before_more : (place : ℕ) (d : X) → P (get_or xs place d) → HoldsBefore place → HoldsBefore (place + 1)
  before_more place d here before x i l w e = elim (cases_lt i place) [
    | inl early ↦ before x i early w e
    | inr from ↦
        let same : i ≡ place = omega (arith, l, from) in
        subst P (get_or_default xs i d x w ∙ e) (subst (λ k. P (get_or xs k d)) (sym same) here)
  ]

  pub before_all : (place : ℕ) → length xs ≤ place → HoldsBefore place → (x : X) → Contains xs x → P x
  before_all place end before x (i, w, e) = before x i (omega (arith, w, end)) w e

-- ---- two series

-- where nothing near the onsets shares an instant with the other, they are clear of each other there
pub near_clear : (z : Zone) (a b : Event) (after last bound reach begin : ℤ) (near : List NearSpan) → IsReach b reach → reach ≤ℤ pos 129_601 → IsLongBefore a after → HoldsAll a z after last near
    → AreNoneBetween (IsZoneOnset z) last bound → ArePassedBy b reach bound near → AreClearNear z a b begin bound
near_clear z a b after last bound reach begin near is short early holds none passed = (
  reach,
  is,
  λ u listed past before x y h k starts s late.
      by_lt_z after u.instant
      (λ later. by_lt_z last u.instant
      (λ further. let n = none u listed further in absurd (omega (arith, ints, n, before)))
      (λ most.
      let i = s.in_first in
      ∥∥₁_elim (holds u listed later most x h (omega (arith, ints, starts, short)) (omega (arith, ints, late, i.1))) (λ p q. absurd p)
      (λ there. passed (near_onset u.instant x) there before starts y k (record { instant = s.instant; before = s.before; in_first = s.in_second; in_second = s.in_first }))))
      (λ first. let e = early x h in absurd (omega (arith, ints, e, first, starts, short))),
)

-- what was pushed after some onsets, and what was there
pub holds_joined : (a : Event) (z : Zone) (after last end : ℤ) (near new : List NearSpan) → HoldsAll a z after last near → ((one : NearSpan) → Contains near one → Contains new one) → HoldsAll a z last end new
    → HoldsAll a z after end new
holds_joined a z after last end near new old stay holds u listed past most =
    by_lt_z last u.instant (λ later. holds u listed later most) (λ early. more_near a near new stay u.instant (old u listed past early))

-- no series begins so early
abbrev pub long_ago : ℤ
long_ago = first_second -ℤ pos 43_201

pub ago : (series : Event) → AreKnownByStart series → IsHalfDayBefore series long_ago
ago series known x h = let e = (known.dates x h).0 in omega (arith, ints, e)

pub long_before : (series : Event) (t before : ℤ) → AreKnownByStart series → IsFirstStart series (Some t) → before ≡ saturate_signed w64 (t -ℤ pos 129_601) → IsLongBefore series before
long_before series t before known first is x h =
    let least = first.0 x h in
    let date = (known.dates x h).0 in
    elim (saturated (t -ℤ pos 129_601)) [
      | inl low ↦ omega (arith, ints, least, is, low)
      | inr low ↦ omega (arith, ints, date, is, low)
    ]
