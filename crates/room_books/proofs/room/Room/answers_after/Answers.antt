use Rattle.std.proofs.Common.{◌≡◌, ◌≢◌, ◌∙◌, ◌++◌, [], List, length, sym, ap, arith}
use Rattle.std.specs.Prelude.{◌==◌, if◌then◌else◌}
use denote.Ref.{Bor}
use Rattle.std.proofs.lemmas.Bool.{true≢false}
use Rattle.room_books.specs.declared.claim.Claim.{Claim}
use Rattle.std.specs.Map.{lookup}
use Rattle.std.proofs.lemmas.Grind.{common_steps}
use Rattle.room_books.specs.Taking.{answers_by, answers_then, kept_then}
use Rattle.profile.specs.rooms.Rooms.{is_accept}
use Rattle.cal_events.specs.declared.instance.Single.{Single}
use Rattle.room_books.specs.Meeting.{all_singles, outcome_of, beside, others, same_key, singles_by}
use Rattle.room_books.proofs.room_lemmas.AllConfirmed.{all_reordered, kept_all_join}
use Rattle.room_books.proofs.room_lemmas.Answered.{added_none, added_parted, answers_alone, answers_both}
use Rattle.room_books.proofs.room_lemmas.Joining.{joins_reordered}
use Rattle.room_books.proofs.shared_lemmas.Leaving.{parted_part}
use Rattle.room_books.proofs.room_lemmas.RoomSteps.{decided_singles, kept_joins, answers_join, answers_series_join}
use Rattle.room_books.proofs.room_lemmas.WholeDeciding.{whole_as}
use Rattle.room_books.proofs.room.Room.answers_after.Goals as goal

pub returns-then-is_empty-clause-added : goal.returns-then-is_empty-clause-added
returns-then-is_empty-clause-added c =
    let k = c.args.key.now in let es = c.args.self.now.meetings.entries in let before = answers_by (lookup (same_key k) es) in
    let changes = c.in_ok-of.field-0 in
    let same = answers_alone before c.args.change.lost.items c.args.change.left.items changes (ap (λ v. v.items) c.in_ok-of.ensures.lost) c.in_ok-of.ensures.new in
    added_none (answers_then before changes) (kept_then (lookup (same_key k) es) c.args.change.lost.items c.args.change.left.items) c.new.result.items same c.new.ensures.items

pub returns-then-is_empty-clause-answered : goal.returns-then-is_empty-clause-answered
returns-then-is_empty-clause-answered c =
    let k = c.args.key.now in let es = c.args.self.now.meetings.entries in let before = answers_by (lookup (same_key k) es) in
    let none : c.args.asked.now ≡ [] = grind (arith, common_steps) in
    (none, answers_alone before c.args.change.lost.items c.args.change.left.items c.in_ok-of.field-0 (ap (λ v. v.items) c.in_ok-of.ensures.lost) c.in_ok-of.ensures.new)

pub returns-then-is_empty-clause-joins : goal.returns-then-is_empty-clause-joins
returns-then-is_empty-clause-joins c =
    let k = c.args.key.now in let es = c.args.self.now.meetings.entries in let before = answers_by (lookup (same_key k) es) in
    let few = c.args.self.now.timeline.few in let counted = c.args.self.now.counted in
    let changes = c.in_ok-of.field-0 in
    let kept = kept_then (lookup (same_key k) es) c.args.change.lost.items c.args.change.left.items in
    let same = answers_alone before c.args.change.lost.items c.args.change.left.items changes (ap (λ v. v.items) c.in_ok-of.ensures.lost) c.in_ok-of.ensures.new in
    joins_reordered (others k es) k kept (answers_then before changes) same
    (kept_joins k es (all_singles kept) c.keys_differ.ensures c.args.self.now.clear c.args.self.now.apart (omega (arith, few, counted))
    (parted_part (singles_by (lookup (same_key k) es)) c.args.change.gone.items (all_singles kept) c.requires.parted))

pub returns-then-is_empty-clause-recurs : goal.returns-then-is_empty-clause-recurs
returns-then-is_empty-clause-recurs c =
    let k = c.args.key.now in let es = c.args.self.now.meetings.entries in let before = answers_by (lookup (same_key k) es) in
    let changes = c.in_ok-of.field-0 in
    let kept = kept_then (lookup (same_key k) es) c.args.change.lost.items c.args.change.left.items in
    let same = answers_alone before c.args.change.lost.items c.args.change.left.items changes (ap (λ v. v.items) c.in_ok-of.ensures.lost) c.in_ok-of.ensures.new in
    all_reordered (beside k es) k kept (answers_then before changes) same
    (kept_all_join k es kept c.keys_differ.ensures c.args.change.gone.items c.requires.parted c.requires.less c.args.self.now.series_clear c.args.self.now.series c.args.self.now.series_counted c.args.self.now.series_few)

pub returns-clause-answered : goal.returns-clause-answered
returns-clause-answered c =
    let k = c.args.key.now in let es = c.args.self.now.meetings.entries in let before = answers_by (lookup (same_key k) es) in
    let some : c.args.asked.now ≢ [] = λ e. true≢false (ap (λ (l : List (Bor Claim)). length l == 0) (sym e) ∙ sym c.is_empty.ensures ∙ c.if-is_empty.false) in
    let candidates = c.in_ok-candidates.candidates.items in
    let decision = whole_as (beside k es) k (lookup (same_key k) es) c.deref-2.result.now c.args.change.lost.items c.deref-3.result.now c.args.change.left.items c.deref-5.result.now candidates c.in_ok-outcome.outcome
    c.deref-2.ensures.value c.deref-3.ensures.value c.deref-5.ensures.value c.in_ok-outcome.ensures in
    let same = answers_both before c.args.change.lost.items c.args.change.left.items c.in_ok-new.new.items c.append.new.self.items c.in_ok-changes.changes (ap (λ v. v.items) c.in_ok-changes.ensures.lost) c.in_ok-append.ensures.items c.in_ok-changes.ensures.new in
    (some, (candidates, c.in_ok-new.new.items, c.in_ok-candidates.ensures, c.in_ok-new.ensures, decision, same))

pub returns-clause-added : goal.returns-clause-added
returns-clause-added c =
    let k = c.args.key.now in let es = c.args.self.now.meetings.entries in let before = answers_by (lookup (same_key k) es) in
    let kept = kept_then (lookup (same_key k) es) c.args.change.lost.items c.args.change.left.items in
    let changes = c.in_ok-changes.changes in
    let same = answers_both before c.args.change.lost.items c.args.change.left.items c.in_ok-new.new.items c.append.new.self.items changes (ap (λ v. v.items) c.in_ok-changes.ensures.lost) c.in_ok-append.ensures.items c.in_ok-changes.ensures.new in
    let outcome = c.in_ok-outcome.outcome in
    let is = c.added_by-added.ensures ∙ ap (λ (l : List Single). if is_accept (outcome_of outcome) then l else []) (c.in_ok-singles.ensures ∙ ap all_singles c.deref.ensures.value)
    ∙ sym (decided_singles outcome c.in_ok-candidates.candidates.items c.in_ok-new.new.items c.in_ok-new.ensures) in
    added_parted (answers_then before changes) kept c.in_ok-new.new.items c.added_by-added.result.items same is

pub returns-clause-joins : goal.returns-clause-joins
returns-clause-joins c =
    let k = c.args.key.now in let es = c.args.self.now.meetings.entries in let before = answers_by (lookup (same_key k) es) in
    let few = c.args.self.now.timeline.few in let counted = c.args.self.now.counted in
    let kept = kept_then (lookup (same_key k) es) c.args.change.lost.items c.args.change.left.items in
    let joins = kept_joins k es (all_singles kept) c.keys_differ.ensures c.args.self.now.clear c.args.self.now.apart (omega (arith, few, counted))
    (parted_part (singles_by (lookup (same_key k) es)) c.args.change.gone.items (all_singles kept) c.requires.parted) in
    let candidates = c.in_ok-candidates.candidates.items in
    let new = c.in_ok-new.new.items in
    let changes = c.in_ok-changes.changes in
    let decision = whole_as (beside k es) k (lookup (same_key k) es) c.deref-2.result.now c.args.change.lost.items c.deref-3.result.now c.args.change.left.items c.deref-5.result.now candidates c.in_ok-outcome.outcome
    c.deref-2.ensures.value c.deref-3.ensures.value c.deref-5.ensures.value c.in_ok-outcome.ensures in
    let same = answers_both before c.args.change.lost.items c.args.change.left.items new c.append.new.self.items changes (ap (λ v. v.items) c.in_ok-changes.ensures.lost) c.in_ok-append.ensures.items c.in_ok-changes.ensures.new in
    joins_reordered (others k es) k (kept ++ new) (answers_then before changes) same (answers_join (others k es) k c.in_ok-outcome.outcome kept candidates new decision.joins c.in_ok-new.ensures joins)

pub returns-clause-recurs : goal.returns-clause-recurs
returns-clause-recurs c =
    let k = c.args.key.now in let es = c.args.self.now.meetings.entries in let before = answers_by (lookup (same_key k) es) in
    let kept = kept_then (lookup (same_key k) es) c.args.change.lost.items c.args.change.left.items in
    let joins = kept_all_join k es kept c.keys_differ.ensures c.args.change.gone.items c.requires.parted c.requires.less c.args.self.now.series_clear c.args.self.now.series c.args.self.now.series_counted c.args.self.now.series_few in
    let candidates = c.in_ok-candidates.candidates.items in
    let new = c.in_ok-new.new.items in
    let changes = c.in_ok-changes.changes in
    let decision = whole_as (beside k es) k (lookup (same_key k) es) c.deref-2.result.now c.args.change.lost.items c.deref-3.result.now c.args.change.left.items c.deref-5.result.now candidates c.in_ok-outcome.outcome
    c.deref-2.ensures.value c.deref-3.ensures.value c.deref-5.ensures.value c.in_ok-outcome.ensures in
    let same = answers_both before c.args.change.lost.items c.args.change.left.items new c.append.new.self.items changes (ap (λ v. v.items) c.in_ok-changes.ensures.lost) c.in_ok-append.ensures.items c.in_ok-changes.ensures.new in
    all_reordered (beside k es) k (kept ++ new) (answers_then before changes) same (answers_series_join (beside k es) k c.in_ok-outcome.outcome kept candidates new decision.series c.in_ok-new.ensures joins)
