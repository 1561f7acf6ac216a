-- The claims are a step, and the reply shows what the book after it has.
use Rattle.std.proofs.Common.{◌<◌, ◌∙◌, List, length, refl, ap, subst, arith}
use Rattle.std.specs.List.{IsDistinct}
use Rattle.std.specs.Map.{keys_of, lookup}
use Rattle.std.proofs.Math.Logic.{∥∥₁_map₂}
use Rattle.itip_order.specs.Registers.{RepresentsHistory}
use Rattle.profile.specs.rooms.Revisions.{Part}
use Rattle.room_books.specs.Meeting.{same_key, series_by, singles_by}
use Rattle.room_books.proofs.room_lemmas.PutIn.{lookup_put}
use Rattle.std.proofs.lemmas.List.{length-map}
use Rattle.ical_values.specs.Octets.{address_octets}
use Rattle.cal_zones.specs.RoomZones.{room_of}
use Rattle.profile.specs.rooms.Rooms.{is_decision}
use Rattle.room_books.specs.declared.kept.Meeting.{Meeting}
use Rattle.room_books.specs.declared.meeting.MeetingKey.{MeetingKey}
use Rattle.room_books.specs.Taking.{answers_by, answers_then, claim_said, claims_said, kind_view, refresh_octets, reply_octets}
use Rattle.room_books.specs.Room.{Represents, book_after, book_of}
use Rattle.room_books.proofs.room_lemmas.Afters.{has_history}
use Rattle.room_books.proofs.room_lemmas.Freeing.{is_one, says_reordered, tells_freed}
use Rattle.room_books.proofs.room_lemmas.Reaching.{reached_then}
use Rattle.room_books.proofs.room_lemmas.Representing.{claims_step, now_represents}
use Rattle.room_books.proofs.room.Room.take_claims.Goals as goal

-- from a book that was reached, the claims lead to another
pub put-requires-clause-reaches : goal.put-requires-clause-reaches
put-requires-clause-reaches c entries put = ∥∥₁_map₂ c.args.self.now.reached c.requires.delivered (λ was delivered.
    let room = address_octets c.args.self.now.address in
    let es = c.args.self.now.meetings.entries in
    let key = c.args.key in
    let claims = claims_said c.args.claims.now in
    let some : 0 < length claims = omega (arith, length-map c.args.claims.now claim_said, c.requires.some) in
    let fit = delivered.1 in
    let kind = kind_view c.in_ok-decided.answer.kind in
    let after = c.in_ok-decided.ensures.after fit was.book was.represents put.meeting put.made in
    record {
      book = book_after was.book claims c.args.now after.outcome;
      reached = reached_then room (room_of c.args.self.now.zone) was.book (record { claims = claims; moment = c.args.now }) after.outcome (book_after was.book claims c.args.now after.outcome) was.reached delivered.0 after.step;
      represents = now_represents es entries was.book key claims c.args.now kind put.meeting some was.represents fit after put.entries (λ q. ap (lookup (same_key q)) put.entries ∙ lookup_put key q put.meeting es);
    })

pub returns-clause-steps : goal.returns-clause-steps
returns-clause-steps c = λ fit book st.
    let key = c.args.key in
    let claims = claims_said c.args.claims.now in
    let some : 0 < length claims = omega (arith, length-map c.args.claims.now claim_said, c.requires.some) in
    let es = c.args.self.now.meetings.entries in
    let put = c.in_ok-put.ensures.put in
    claims_step (address_octets c.args.self.now.address) es c.put.new.self.meetings.entries book key claims c.args.now (kind_view c.in_ok-decided.answer.kind) put.meeting
    (reply_octets c.in_ok-decided.answer) c.args.adds (refresh_octets c.in_ok-decided.answer) some st fit (c.in_ok-decided.ensures.after fit book st put.meeting put.made) put.entries
    (λ q. ap (lookup (same_key q)) put.entries ∙ lookup_put key q put.meeting es)
    (λ own is_own meets. c.in_ok-decided.ensures.replies own put.meeting fit is_own put.made meets)
    (λ before after b a. c.in_ok-decided.ensures.refreshes before after b (subst (λ (l : List Part). RepresentsHistory l after) put.made.held_is a))

pub returns-clause-frees : goal.returns-clause-frees
returns-clause-frees c = λ before after st st'.
    let key = c.args.key in
    let es = c.args.self.now.meetings.entries in
    let found = lookup (same_key key) es in
    let put = c.in_ok-put.ensures.put in
    let answer = c.in_ok-decided.answer in
    let own = book_of key before in
    let says = c.in_ok-decided.ensures.frees own.taken (has_history key own found (st.meets key)) in
    let answers = answers_then (answers_by found) c.in_ok-decided.decided.changes in
    tells_freed key put.meeting es c.keys_differ.ensures (is_decision (kind_view answer.kind)) answer.frees
    (says_reordered (is_decision (kind_view answer.kind)) answer.frees (singles_by found) (series_by found) answers put.meeting.answers.items put.made.answers_are says)
    (is_one key es before st) (kind_view answer.kind) before after refl st
    (subst (λ (l : List (MeetingKey × Meeting)). Represents l after) put.entries st')
    (subst (λ (l : List (MeetingKey × Meeting)). IsDistinct same_key (keys_of l)) put.entries c.keys_differ-2.ensures)
