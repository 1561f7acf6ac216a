-- What becomes of the meeting is a step of the book that the room represents.
use Rattle.std.proofs.Common.{◌≡◌, List, ◌++◌, Option, sym, ap, subst}
use Rattle.std.specs.Prelude.{option_copied}
use Rattle.std.specs.Map.{lookup}
use Rattle.itip_order.specs.Parts.{part_of}
use Rattle.itip_order.specs.Registers.{RepresentsHistory}
use Rattle.profile.specs.rooms.Revisions as revisions
use Rattle.room_books.specs.declared.kept.Meeting.{Meeting}
use Rattle.profile.specs.rooms.Rooms.{parts_of}
use Rattle.room_books.specs.Taking.{HasHistory, AreAsked, AreAnswersDecided, answers_by, answers_then, claims_said, kept_then}
use Rattle.room_books.specs.Slots.{AllTouch}
use Rattle.room_books.specs.Room.{KeepsEach, book_of}
use Rattle.room_books.specs.Meeting.{same_key, all_series, all_singles, beside, series_by, singles_by, AreFewer, SaysLossOfOne}
use Rattle.cal_events.specs.declared.instance.Single.{Single}
use Rattle.room_books.specs.Gone.{IsPartedInto}
use Rattle.room_books.proofs.room_lemmas.Answered.{answered_reordered}
use Rattle.room_books.proofs.room_lemmas.Afters.{has_history}
use Rattle.room_books.proofs.shared_lemmas.KindLemmas.{parts_are}
use Rattle.room_books.proofs.room_lemmas.Freeing.{none_reordered, settled_says}
use Rattle.room_books.proofs.room_lemmas.MeetingSteps.{meeting_after}
use Rattle.room_books.proofs.room.Room.settled.Goals as goal

pub returns-clause-after : goal.returns-clause-after
returns-clause-after c = λ of_it fit book st meeting is kind kind_is.
    let k = c.args.key.now in
    let es = c.args.self.now.meetings.entries in
    let views = c.args.views.now in
    let claims = views.claims.now in
    let own = book_of k book in
    let part = part_of views.part.now in
    let slots = views.slots.now in
    let held = views.after.now in
    let found : option_copied views.before ≡ lookup (same_key k) es = c.requires.before in
    let had = has_history k own (lookup (same_key k) es) (st.meets k) in
    let stood : HasHistory (option_copied views.before) own.taken = subst (λ (o : Option Meeting). HasHistory o own.taken) (sym found) had in
    let now : RepresentsHistory held (own.taken ++ parts_of (claims_said claims)) = subst (λ (l : List revisions.Part). RepresentsHistory held (own.taken ++ l)) (sym (parts_are claims)) (c.requires.held own.taken had) in
    let lost = c.in_ok-change.change.lost.items in let left = c.in_ok-change.change.left.items in
    let kept = kept_then (lookup (same_key k) es) lost left in
    let keeps = subst (λ (o : Option Meeting). KeepsEach part slots o held (kept_then o lost left)) found c.in_ok-change.ensures.kept in
    let are = subst (AreAsked own.taken (own.taken ++ parts_of (claims_said claims)) claims) (sym c.deref.ensures.value) (c.in_ok-asked.ensures own.taken (own.taken ++ parts_of (claims_said claims)) stood now) in
    let touches : AllTouch slots (parts_of (claims_said claims)) = subst (AllTouch slots) (sym (parts_are claims)) views.all in
    let outcome = c.in_ok-decided.decided.outcome in
    let asked = c.deref.result.now in
    let after_it = answers_then (answers_by (lookup (same_key k) es)) c.in_ok-decided.decided.changes in
    let answered = subst (λ (l : List revisions.Part). AreAnswersDecided (beside k es) k l c.args.now kept asked meeting.answers.items outcome) (sym is.held_is)
    (answered_reordered (beside k es) k held c.args.now kept asked after_it meeting.answers.items outcome is.answers_are c.in_ok-decided.ensures.answered) in
    meeting_after k es c.keys_differ.ensures book st claims fit c.args.now part of_it c.requires.some
    meeting (subst (λ (l : List revisions.Part). RepresentsHistory l (own.taken ++ parts_of (claims_said claims))) (sym is.held_is) now) kept slots touches (subst (λ (l : List revisions.Part). KeepsEach part slots (lookup (same_key k) es) l kept) (sym is.held_is) keeps) asked are kind outcome
    answered (kind_is own.taken (own.taken ++ parts_of (claims_said claims)) stood now)

pub returns-clause-shifts : goal.returns-clause-shifts
returns-clause-shifts c =
    let k = c.args.key.now in let es = c.args.self.now.meetings.entries in
    let lost = c.in_ok-change.change.lost.items in let left = c.in_ok-change.change.left.items in
    let parted : (gone : List Single) → gone ≡ c.in_ok-change.change.gone.items → IsPartedInto (singles_by (lookup (same_key k) es)) gone (all_singles (kept_then (lookup (same_key k) es) lost left)) = λ gone same.
    subst (λ (l : List Single). IsPartedInto (singles_by (lookup (same_key k) es)) l (all_singles (kept_then (lookup (same_key k) es) lost left))) (sym same)
    (subst (λ (o : Option Meeting). IsPartedInto (singles_by o) c.in_ok-change.change.gone.items (all_singles (kept_then o lost left))) c.requires.before c.in_ok-change.ensures.parted) in
    record {
      kept = all_singles (kept_then (lookup (same_key k) es) lost left);
      parted = parted c.in_ok-decided.decided.gone.items (ap (λ v. v.items) c.in_ok-decided.ensures.gone);
      after_is = c.in_ok-decided.ensures.added;
    }

pub answers_after-requires-clause-parted : goal.answers_after-requires-clause-parted
answers_after-requires-clause-parted c =
    let lost = c.in_ok-change.change.lost.items in let left = c.in_ok-change.change.left.items in
    subst (λ (o : Option Meeting). IsPartedInto (singles_by o) c.in_ok-change.change.gone.items (all_singles (kept_then o lost left))) c.requires.before c.in_ok-change.ensures.parted

pub answers_after-requires-clause-less : goal.answers_after-requires-clause-less
answers_after-requires-clause-less c =
    let lost = c.in_ok-change.change.lost.items in let left = c.in_ok-change.change.left.items in
    subst (λ (o : Option Meeting). AreFewer (series_by o) (all_series (kept_then o lost left))) c.requires.before c.in_ok-change.ensures.fewer

pub returns-clause-frees : goal.returns-clause-frees
returns-clause-frees c = λ history s.
    let k = c.args.key.now in let es = c.args.self.now.meetings.entries in
    let found : option_copied c.args.views.now.before ≡ lookup (same_key k) es = c.requires.before in
    let lost = c.in_ok-change.change.lost.items in let left = c.in_ok-change.change.left.items in
    let kept = kept_then (lookup (same_key k) es) lost left in
    let after_it = answers_then (answers_by (lookup (same_key k) es)) c.in_ok-decided.decided.changes in
    settled_says (singles_by (lookup (same_key k) es)) c.in_ok-change.change.gone.items (series_by (lookup (same_key k) es)) kept after_it c.in_ok-change.change.sheds c.in_ok-decided.decided.frees c.in_ok-decided.decided.outcome
    (subst (λ (o : Option Meeting). IsPartedInto (singles_by o) c.in_ok-change.change.gone.items (all_singles (kept_then o lost left))) found c.in_ok-change.ensures.parted)
    (subst (λ (o : Option Meeting). AreFewer (series_by o) (all_series (kept_then o lost left))) found c.in_ok-change.ensures.fewer)
    (subst (λ (o : Option Meeting). SaysLossOfOne c.in_ok-change.change.sheds (series_by o) (all_series (kept_then o lost left))) found (c.in_ok-change.ensures.sheds history s))
    c.in_ok-decided.ensures.frees (none_reordered (beside k es) k c.args.views.now.after.now c.args.now kept c.deref.result.now after_it c.in_ok-decided.decided.outcome c.in_ok-decided.ensures.answered)
