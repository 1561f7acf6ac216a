-- The others have all series less those of the meeting.
use Rattle.std.proofs.Common.{◌≡◌, ◌∙◌, ◌++◌, List, Some, None, false, refl, sym, ap, subst, arith}
use Rattle.std.specs.Map.{lookup}
use Rattle.profile.specs.rooms.Rooms.{is_accept}
use Rattle.cal_events.specs.declared.instance.Single.{Single}
use Rattle.room_books.specs.declared.meeting.PartAnswer.{PartAnswer}
use Rattle.room_books.specs.declared.meeting.Outcome.TheVariants.{Declined, Limit}
use Rattle.room_books.specs.declared.answer.LimitKind.TheVariants as limits
use Rattle.room_books.specs.Slots.{left_without}
use Rattle.room_books.specs.Taking.{kept_then, IsDecision}
use Rattle.room_books.specs.Meeting.{all_series, all_singles, beside, others, outcome_of, same_key, singles_by}
use Rattle.room_books.proofs.room_lemmas.AllConfirmed.{kept_clear}
use Rattle.room_books.proofs.shared_lemmas.Leaving.{kept_within}
use Rattle.room_books.proofs.room_lemmas.RoomSeries.{now_of}
use Rattle.room_books.proofs.room_lemmas.WholeDeciding.{accept_of, beside_as, lent_long, many_series, series_accept, series_beside, series_clash, series_long, singles_decide}
use Rattle.room_books.proofs.decide.Deciding.decide.Goals as goal

pub overflow_sub-others : goal.overflow_sub-others
overflow_sub-others c =
    let k = c.args.self.now.key.now in let es = c.args.self.now.room.now.meetings.entries in
    let n = series_beside k es c.keys_differ.ensures c.answers_before-before.result.now c.count_series.result c.args.self.now.room.now.series c.answers_before-before.ensures.are c.count_series.ensures c.args.self.now.room.now.series_counted in
    omega (arith, n)

pub returns-then-len-others : goal.returns-then-len-others
returns-then-len-others c =
    let k = c.args.self.now.key.now in let es = c.args.self.now.room.now.meetings.entries in let before = c.answers_before-before.result.now in
    let kept = kept_then (lookup (same_key k) es) c.args.self.now.lost.now c.args.self.now.left.now in let candidates = c.args.candidates.now in
    let n = series_beside k es c.keys_differ.ensures before c.count_series.result c.args.self.now.room.now.series c.answers_before-before.ensures.are c.count_series.ensures c.args.self.now.room.now.series_counted in
    let is : all_series (left_without c.args.self.now.lost.now before ++ c.args.self.now.left.now) ≡ all_series kept = ap (λ (l : List PartAnswer). all_series (left_without c.args.self.now.lost.now l ++ c.args.self.now.left.now)) c.answers_before-before.ensures.are in
    let a = lent_long c.in_ok-kept.kept (all_series kept) c.len.result (c.in_ok-kept.ensures ∙ is) c.len.ensures in
    let b = lent_long c.in_ok-wanted.wanted (all_series candidates) c.len-2.result c.in_ok-wanted.ensures c.len-2.ensures in
    let many = c.if-len-others.true in
    many_series (beside k es) k kept candidates (Limit limits.Series) refl (omega (arith, series_long (beside k es) k kept candidates, n, a, b, many))

pub returns-then-not-is_accept : goal.returns-then-not-is_accept
returns-then-not-is_accept c =
    let k = c.args.self.now.key.now in let es = c.args.self.now.room.now.meetings.entries in let before = c.answers_before-before.result.now in
    let kept = kept_then (lookup (same_key k) es) c.args.self.now.lost.now c.args.self.now.left.now in let candidates = c.args.candidates.now in
    let n = series_beside k es c.keys_differ.ensures before c.count_series.result c.args.self.now.room.now.series c.answers_before-before.ensures.are c.count_series.ensures c.args.self.now.room.now.series_counted in
    let is : all_series (left_without c.args.self.now.lost.now before ++ c.args.self.now.left.now) ≡ all_series kept = ap (λ (l : List PartAnswer). all_series (left_without c.args.self.now.lost.now l ++ c.args.self.now.left.now)) c.answers_before-before.ensures.are in
    let a = lent_long c.in_ok-kept.kept (all_series kept) c.len.result (c.in_ok-kept.ensures ∙ is) c.len.ensures in
    let b = lent_long c.in_ok-wanted.wanted (all_series candidates) c.len-2.result c.in_ok-wanted.ensures c.len-2.ensures in
    let within = c.if-len-others.false in
    let few = c.args.self.now.room.now.series_few in
    let outcome = c.in_ok-outcome.outcome in
    let declined : is_accept (outcome_of outcome) ≡ false = sym c.is_accept.ensures ∙ c.if-not-is_accept.true in
    singles_decide (beside k es) k kept candidates (omega (arith, series_long (beside k es) k kept candidates, n, a, b, within, few)) outcome declined
    (subst (λ (l : List Single). IsDecision (others k es) k (all_singles kept) l outcome) c.requires.singles (c.in_ok-outcome.ensures (all_singles kept) c.requires.parted))

pub returns-in-Some : goal.returns-in-Some
returns-in-Some c =
    let found : c.in_ok-clash.field-0 ≡ Some c.in-Some.clash = c.in-Some.is in
    let k = c.args.self.now.key.now in let es = c.args.self.now.room.now.meetings.entries in let before = c.answers_before-before.result.now in
    let kept = kept_then (lookup (same_key k) es) c.args.self.now.lost.now c.args.self.now.left.now in let candidates = c.args.candidates.now in
    let n = series_beside k es c.keys_differ.ensures before c.count_series.result c.args.self.now.room.now.series c.answers_before-before.ensures.are c.count_series.ensures c.args.self.now.room.now.series_counted in
    let is : all_series (left_without c.args.self.now.lost.now before ++ c.args.self.now.left.now) ≡ all_series kept = ap (λ (l : List PartAnswer). all_series (left_without c.args.self.now.lost.now l ++ c.args.self.now.left.now)) c.answers_before-before.ensures.are in
    let a = lent_long c.in_ok-kept.kept (all_series kept) c.len.result (c.in_ok-kept.ensures ∙ is) c.len.ensures in
    let b = lent_long c.in_ok-wanted.wanted (all_series candidates) c.len-2.result c.in_ok-wanted.ensures c.len-2.ensures in
    let within = c.if-len-others.false in
    let few = c.args.self.now.room.now.series_few in
    let outcome = c.in_ok-outcome.outcome in
    let accepts = accept_of (outcome_of outcome) (sym c.is_accept.ensures ∙ c.if-not-is_accept.false) in
    let decision = subst (λ (l : List Single). IsDecision (others k es) k (all_singles kept) l outcome) c.requires.singles (c.in_ok-outcome.ensures (all_singles kept) c.requires.parted) in
    let clear = beside_as (beside k es) k (all_singles kept) (now_of c.deref.result.now) (all_series kept) c.args.singles.now (all_singles candidates) (now_of c.deref-2.result.now) (all_series candidates) c.in_ok-clash.field-0 (Some c.in-Some.clash)
    (ap now_of c.deref.ensures.value ∙ c.in_ok-kept.ensures ∙ is) c.requires.singles (ap now_of c.deref-2.ensures.value ∙ c.in_ok-wanted.ensures) found
    (c.in_ok-clash.ensures (all_singles kept) c.requires.parted) in
    series_clash (beside k es) k kept candidates (omega (arith, series_long (beside k es) k kept candidates, n, a, b, within, few)) outcome accepts decision (Declined c.in-Some.clash) c.in-Some.clash refl clear

pub returns : goal.returns
returns c =
    let found : c.in_ok-clash.field-0 ≡ None = c.in-None.is in
    let k = c.args.self.now.key.now in let es = c.args.self.now.room.now.meetings.entries in let before = c.answers_before-before.result.now in
    let kept = kept_then (lookup (same_key k) es) c.args.self.now.lost.now c.args.self.now.left.now in let candidates = c.args.candidates.now in
    let n = series_beside k es c.keys_differ.ensures before c.count_series.result c.args.self.now.room.now.series c.answers_before-before.ensures.are c.count_series.ensures c.args.self.now.room.now.series_counted in
    let is : all_series (left_without c.args.self.now.lost.now before ++ c.args.self.now.left.now) ≡ all_series kept = ap (λ (l : List PartAnswer). all_series (left_without c.args.self.now.lost.now l ++ c.args.self.now.left.now)) c.answers_before-before.ensures.are in
    let a = lent_long c.in_ok-kept.kept (all_series kept) c.len.result (c.in_ok-kept.ensures ∙ is) c.len.ensures in
    let b = lent_long c.in_ok-wanted.wanted (all_series candidates) c.len-2.result c.in_ok-wanted.ensures c.len-2.ensures in
    let within = c.if-len-others.false in
    let few = c.args.self.now.room.now.series_few in
    let outcome = c.in_ok-outcome.outcome in
    let accepts = accept_of (outcome_of outcome) (sym c.is_accept.ensures ∙ c.if-not-is_accept.false) in
    let decision = subst (λ (l : List Single). IsDecision (others k es) k (all_singles kept) l outcome) c.requires.singles (c.in_ok-outcome.ensures (all_singles kept) c.requires.parted) in
    let clear = beside_as (beside k es) k (all_singles kept) (now_of c.deref.result.now) (all_series kept) c.args.singles.now (all_singles candidates) (now_of c.deref-2.result.now) (all_series candidates) c.in_ok-clash.field-0 None
    (ap now_of c.deref.ensures.value ∙ c.in_ok-kept.ensures ∙ is) c.requires.singles (ap now_of c.deref-2.ensures.value ∙ c.in_ok-wanted.ensures) found
    (c.in_ok-clash.ensures (all_singles kept) c.requires.parted) in
    series_accept (beside k es) k kept candidates (omega (arith, series_long (beside k es) k kept candidates, n, a, b, within, few)) outcome accepts decision
    (kept_clear k es (all_singles kept) (all_series kept) (kept_within (singles_by (lookup (same_key k) es)) c.args.self.now.gone.now (all_singles kept) c.requires.parted) c.requires.less.within c.args.self.now.room.now.series_clear) clear
