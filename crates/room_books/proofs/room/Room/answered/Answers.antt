-- What is held of the meeting is what it held, and the parts of the message.
use Rattle.std.proofs.Common.{◌++◌, ◌<◌, Bool, ◌∙◌, Option, List, arith, length, sym, ap, subst}
use Rattle.std.specs.Map.{lookup}
use Rattle.itip_order.specs.Registers.{RepresentsHistory}
use Rattle.profile.specs.rooms.Revisions.{Part}
use Rattle.room_books.specs.declared.claim.Claim.{Claim}
use Rattle.room_books.specs.declared.kept.Meeting.{Meeting}
use Rattle.room_books.specs.Taking.{answers_by, answers_then, claim_said, held_after, parts_said, HasHistory, IsMadeOf, SaysFreed}
use Rattle.room_books.specs.Meeting.{all_series, all_singles, same_key, series_by, singles_by}
use Rattle.room_books.proofs.room_lemmas.Afters.{has_history_after}
use Rattle.room_books.proofs.shared_lemmas.Claiming.{first_in, none_first}
use Rattle.room_books.proofs.shared_lemmas.Pairs.{map_from}
use Rattle.room_books.proofs.room.Room.answered.Goals as goal

pub unreachable-requires : goal.unreachable-requires
unreachable-requires c =
    let some = subst (λ (l : List Claim). 0 < length l) (none_first c.args.claims.now c.in_default.ensures.value) c.requires.some in
    absurd (omega (arith, some))

pub settled-requires-clause-held : goal.settled-requires-clause-held
settled-requires-clause-held c = λ history h.
    let found = lookup (same_key c.args.key.now) c.args.self.now.meetings.entries in
    let parts = parts_said c.args.claims.now in
    let held = c.held_with-held.ensures ∙ ap (λ (o : Option Meeting). held_after o c.args.parts.now) c.get-before.ensures.value in
    subst (λ (l : List Part). RepresentsHistory l (history ++ parts)) (sym held) (has_history_after found c.args.parts.now history parts h c.requires.parts)

pub returns-clause-after : goal.returns-clause-after
returns-clause-after c = λ fit book st meeting is.
    let claims = c.args.claims.now in
    let first = c.in-Some.first.now in
    let held = c.held_with-held.ensures ∙ ap (λ (o : Option Meeting). held_after o c.args.parts.now) c.get-before.ensures.value in
    let of_it = fit.of_it (claim_said first) (map_from claim_said claims first (first_in claims first c.in-Some.ensures.value)) in
    c.in_ok-decided.ensures.after of_it fit book st meeting
    (subst (λ (l : List Part). IsMadeOf l (answers_then (answers_by (lookup (same_key c.args.key.now) c.args.self.now.meetings.entries)) c.in_ok-decided.decided.changes) meeting) (sym held) is)
    c.in_ok-kind.kind c.in_ok-kind.ensures.kind

pub returns-clause-replies : goal.returns-clause-replies
returns-clause-replies c = λ own meeting fit is_own is meets.
    let held = c.held_with-held.ensures ∙ ap (λ (o : Option Meeting). held_after o c.args.parts.now) c.get-before.ensures.value in
    let made = subst (λ (l : List Part). IsMadeOf l (answers_then (answers_by (lookup (same_key c.args.key.now) c.args.self.now.meetings.entries)) c.in_ok-decided.decided.changes) meeting) (sym held) is in
    c.in_ok-reply.ensures c.args.key.now own meeting fit is_own
    (subst (λ (o : Option Meeting). IsMadeOf c.held_with-held.result (answers_then (answers_by o) c.in_ok-decided.decided.changes) meeting) (sym c.get-before.ensures.value) made) meets

pub returns-clause-refreshes : goal.returns-clause-refreshes
returns-clause-refreshes c = λ before after b a.
    let held = c.held_with-held.ensures ∙ ap (λ (o : Option Meeting). held_after o c.args.parts.now) c.get-before.ensures.value in
    c.in_ok-refresh.ensures before after (subst (λ (o : Option Meeting). HasHistory o before) (sym c.get-before.ensures.value) b) (subst (λ (l : List Part). RepresentsHistory l after) (sym held) a)

pub returns-clause-frees : goal.returns-clause-frees
returns-clause-frees c = λ history h.
    let found = lookup (same_key c.args.key.now) c.args.self.now.meetings.entries in
    let parts = parts_said c.args.claims.now in
    let held = c.held_with-held.ensures ∙ ap (λ (o : Option Meeting). held_after o c.args.parts.now) c.get-before.ensures.value in
    let represents = subst (λ (l : List Part). RepresentsHistory l (history ++ parts)) (sym held) (has_history_after found c.args.parts.now history parts h c.requires.parts) in
    let answers = answers_then (answers_by found) c.in_ok-decided.decided.changes in
    subst (λ (b : Bool). SaysFreed b c.in_ok-decided.decided.frees (singles_by found) (all_singles answers) (series_by found) (all_series answers)) (sym c.in_ok-kind.ensures.decision)
    (c.in_ok-decided.ensures.frees (history ++ parts) represents)
