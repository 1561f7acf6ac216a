use Rattle.std.proofs.Common.{List, subst, arith}
use Rattle.std.specs.Prelude.{option_copied}
use Rattle.std.proofs.lemmas.Grind.{common_steps}
use Rattle.ical_values.specs.Octets.{address_octets}
use Rattle.itip_order.specs.Registers.{RepresentsHistory}
use Rattle.profile.specs.rooms.Revisions.{Part}
use Rattle.room_books.specs.declared.meeting.PartAnswer.{PartAnswer}
use Rattle.room_books.specs.Reply.{AllTell, IsReplyOf}
use Rattle.room_books.specs.Taking.{answers_by, answers_then}
use Rattle.room_books.proofs.reply_lemmas.Replying.{replies_by}
use Rattle.room_books.proofs.reply.reply_to.Goals as goal

pub returns : goal.returns
returns c key own meeting f o is m =
    let room = address_octets c.args.room.now in
    let shown = c.deref.result.now in let octets = c.in_ok-octets.octets.items in
    let represented = subst (λ (l : List Part). RepresentsHistory l own.taken) is.held_is m.held in
    let told = subst (λ (l : List PartAnswer). AllTell (answers_then l c.args.changes.now) shown → IsReplyOf room (answers_then l c.args.changes.now) shown octets) c.answers.ensures.are c.in_ok-octets.ensures in
    replies_by room key own meeting c.args.views.now.claims.now c.in_ok-shown.shown.items shown (answers_then (answers_by (option_copied c.args.views.now.before)) c.args.changes.now) octets c.deref.ensures.value is.answers_are
    (grind (arith, common_steps)) f o m (c.in_ok-shown.ensures own.taken represented) told
