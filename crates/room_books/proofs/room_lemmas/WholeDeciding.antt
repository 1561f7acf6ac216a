-- The decision of singles and series: by the limits, by the singles alone, and by the series.
-- Cited by Room::answers_after, Room::decide.
use Rattle.std.proofs.Common.{◌≡◌, ◌∙◌, ◌≤◌, ◌<◌, ◌+◌, ℕ, ℤ, true, false, List, ◌++◌, inl, length, Option, None, Some, Vec, vec_len, refl, rules, subst, sym, ap, arith, length-append}
use denote.Ref.{Bor}
use Rattle.std.specs.List.{Contains, IsDistinct}
use Rattle.std.specs.Map.{lookup, keys_of}
use Rattle.std.proofs.lemmas.Bool.{true≢false, both_ways}
use Rattle.std.proofs.lemmas.List.{length-map}
use Rattle.clash_cert.specs.declared.making.Clash.{Clash}
use Rattle.cal_events.specs.Calendar.{owned_key_of}
use Rattle.cal_events.specs.declared.instance.Single.{Single}
use Rattle.cal_events.specs.declared.series.Series.{Series}
use Rattle.profile.specs.checker.Instances.{Key}
use Rattle.profile.specs.events.Confirmed.{Confirmed, IsOneOf}
use Rattle.profile.specs.rooms.Messages as messages
use Rattle.profile.specs.rooms.Rooms.{is_accept, most_series, most_singles}
use Rattle.itip_order.specs.declared.part.Slot.{Slot}
use Rattle.room_books.specs.declared.kept.Meeting.{Meeting}
use Rattle.room_books.specs.declared.meeting.PartAnswer.{PartAnswer}
use Rattle.room_books.specs.declared.meeting.MeetingKey.{MeetingKey}
use Rattle.room_books.specs.declared.meeting.Outcome.{Outcome}
use Rattle.room_books.specs.Recurring.{AreClearBeside}
use Rattle.room_books.specs.Taking.{answers_by, kept_then, DecidesAmong, DecidesOf, IsDecision, IsWholeDecision}
use Rattle.room_books.specs.Meeting.{all_recurring, all_series, all_singles, joined, other_recurring, outcome_of, same_key, series_by, series_list, series_of, IsClearIn}
use Rattle.room_books.proofs.decide_lemmas.Deciding.{names_more}
use Rattle.room_books.proofs.shared_lemmas.Places.{other_series_count}
use Rattle.room_books.proofs.room_lemmas.RoomSeries.{now_of}

module _ (others : Confirmed) (k : MeetingKey) (kept candidates : List PartAnswer) where
  abbrev now : Confirmed
  now = joined others k (all_singles kept ++ all_singles candidates) (all_series kept ++ all_series candidates)

  pub series_long : length now.series ≡ length others.series + (length (all_series kept) + length (all_series candidates))
  series_long =
      length-append others.series (series_list k (all_series kept ++ all_series candidates))
      ∙ ap (λ n. length others.series + n) (length-map (all_series kept ++ all_series candidates) (series_of k) ∙ length-append (all_series kept) (all_series candidates))

  -- there are too many series
  pub many_series : (outcome : Outcome) → outcome_of outcome ≡ messages.SeriesLimit → most_series < length now.series → IsWholeDecision others k kept candidates outcome
  many_series outcome is many = record {
    decides = λ one. subst (DecidesOf now) (sym is) many;
    joins = λ accepted. absurd (limit_not_accept (sym is ∙ accepted));
    series = λ accepted. absurd (limit_not_accept (sym is ∙ accepted));
  }
    where
      limit_not_accept : messages.SeriesLimit ≡ messages.Accept → ⊥
      limit_not_accept e = true≢false (sym (ap is_accept e))

  module _ (few : length now.series ≤ most_series) where
    among_of : (o : messages.Outcome) → is_accept o ≡ false → DecidesAmong now.singles o → DecidesOf now o
    among_of messages.Accept h d = absurd (true≢false h)
    among_of (messages.Busy first second t) h d = (record { series = few; singles = d.0 }, names_more (Contains now.singles) (IsOneOf now) first second t (λ b c. inl c) d.1)
    among_of messages.SeriesLimit h d = absurd d
    among_of messages.SinglesLimit h d = (few, d)

    -- the singles alone are declined
    pub singles_decide : (outcome : Outcome) → is_accept (outcome_of outcome) ≡ false → IsDecision others.singles k (all_singles kept) (all_singles candidates) outcome → IsWholeDecision others k kept candidates outcome
    singles_decide outcome declined d = record {
      decides = λ one. among_of (outcome_of outcome) declined (d.decides one.differ);
      joins = λ accepted. absurd (both_ways _ declined (ap is_accept accepted));
      series = λ accepted. absurd (both_ways _ declined (ap is_accept accepted));
    }

    module _ (outcome : Outcome) (accepts : outcome_of outcome ≡ messages.Accept) (d : IsDecision others.singles k (all_singles kept) (all_singles candidates) outcome) where
      few_singles : length now.singles ≤ most_singles
      few_singles = (d.joins accepts).few

      -- two instances clash, of which one is of a series
      pub series_clash : (declined : Outcome) (clash : Clash) → outcome_of declined ≡ messages.Busy (owned_key_of clash.first) (owned_key_of clash.second) clash.instant
          → AreClearBeside others k (all_singles kept) (all_series kept) (all_singles candidates) (all_series candidates) (Some clash) → IsWholeDecision others k kept candidates declined
      series_clash declined clash is named = record {
        decides = λ one. subst (DecidesOf now) (sym is) (record { series = few; singles = few_singles }, named one);
        joins = λ accepted. absurd (busy_not_accept (owned_key_of clash.first) (owned_key_of clash.second) clash.instant (sym is ∙ accepted));
        series = λ accepted. absurd (busy_not_accept (owned_key_of clash.first) (owned_key_of clash.second) clash.instant (sym is ∙ accepted));
      }
        where
          busy_not_accept : (a b : Key) (t : ℤ) → messages.Busy a b t ≡ messages.Accept → ⊥
          busy_not_accept a b t e = true≢false (sym (ap is_accept e))

      -- none do
      pub series_accept : IsClearIn (joined others k (all_singles kept) (all_series kept))
          → AreClearBeside others k (all_singles kept) (all_series kept) (all_singles candidates) (all_series candidates) None → IsWholeDecision others k kept candidates outcome
      series_accept was_clear beside = record {
        decides = λ one. subst (DecidesOf now) (sym accepts) (record { series = few; singles = few_singles }, beside was_clear (d.joins accepts).clear);
        joins = d.joins;
        series = λ accepted. record { few = few; clear = beside was_clear (d.joins accepts).clear };
      }

pub accept_of : (o : messages.Outcome) → is_accept o ≡ true → o ≡ messages.Accept
accept_of messages.Accept h = refl
accept_of (messages.Busy first second t) h = absurd (true≢false (sym h))
accept_of messages.SeriesLimit h = absurd (true≢false (sym h))
accept_of messages.SinglesLimit h = absurd (true≢false (sym h))

-- ---- the counts

pub series_before : (o : Option Meeting) → all_series (answers_by o) ≡ series_by o
series_before None = refl
series_before (Some meeting) = refl

-- what the others have is all less what the meeting has
pub series_beside : (k : MeetingKey) (es : List (MeetingKey × Meeting)) → IsDistinct same_key (keys_of es) → (before : List PartAnswer) (own total : ℕ) → before ≡ answers_by (lookup (same_key k) es) → own ≡ length (all_series before)
    → total ≡ length (all_recurring es) → length (other_recurring k es) + own ≡ total
series_beside k es distinct before own total is own_is total_is =
    let n = other_series_count k es distinct in
    let b = ap length (ap all_series is ∙ series_before (lookup (same_key k) es)) in
    omega (arith, n, b, own_is, total_is)

pub items_long : {X Z : Type 0} (v : Vec X Z) → vec_len v ≡ length v.items
items_long v = search rules

-- as many are lent as there are
pub lent_long : {Z : Type 0} (lent : Vec (Bor Series) Z) (all : List Series) (n : ℕ) → now_of lent.items ≡ all → n ≡ vec_len lent → n ≡ length all
lent_long lent all n is n_is = n_is ∙ items_long lent ∙ sym (length-map lent.items (λ (one : Bor Series). one.now)) ∙ ap length is

-- the same of what is equal
pub beside_as : (others : Confirmed) (k : MeetingKey) (own : List Single) (kept kept' : List Series) (singles singles' : List Single) (wanted wanted' : List Series) (found found' : Option Clash)
    → kept ≡ kept' → singles ≡ singles' → wanted ≡ wanted' → found ≡ found' → AreClearBeside others k own kept singles wanted found → AreClearBeside others k own kept' singles' wanted' found'
beside_as others k own kept kept' singles singles' wanted wanted' found found' a b c d h =
    subst (AreClearBeside others k own kept' singles' wanted') d (subst (λ (l : List Series). AreClearBeside others k own kept' singles' l found) c
    (subst (λ (l : List Single). AreClearBeside others k own kept' l wanted found) b (subst (λ (l : List Series). AreClearBeside others k own l singles wanted found) a h)))

pub whole_as : (others : Confirmed) (k : MeetingKey) (before : Option Meeting) (lost lost' : List Slot) (left left' candidates candidates' : List PartAnswer) (outcome : Outcome) → lost ≡ lost' → left ≡ left' → candidates ≡ candidates'
    → IsWholeDecision others k (kept_then before lost left) candidates outcome → IsWholeDecision others k (kept_then before lost' left') candidates' outcome
whole_as others k before lost lost' left left' candidates candidates' outcome a b c h =
    subst (λ (l : List PartAnswer). IsWholeDecision others k (kept_then before lost' left') l outcome) c (subst (λ (l : List PartAnswer). IsWholeDecision others k (kept_then before lost' l) candidates outcome) b
    (subst (λ (l : List Slot). IsWholeDecision others k (kept_then before l left) candidates outcome) a h))
