use Rattle.std.proofs.Common.{◌∙◌, ◌++◌, refl, is_some, cond, List, Option, None, Some, ap, sym, subst}
use Rattle.std.specs.List.{flat_map}
use Rattle.ical_values.proofs.Exits.{any_err}
use Rattle.indexmap.specs.IndexMap.{get}
use Rattle.ical_values.specs.Octets.{address_octets, text_octets}
use Rattle.ical_values.specs.declared.text.Text.{Text}
use Rattle.profile.specs.events.EventComponents as events
use Rattle.profile.specs.events.Messages as objects
use Rattle.profile.specs.organisers.Organisers.{OrganiserBook, last_store}
use Rattle.itip_messages.specs.Message.{RepresentsMessage}
use Rattle.itip_messages.specs.declared.message_component.MessageComponent.{MessageComponent}
use Rattle.organiser_books.specs.declared.meeting.StoredMeeting.{StoredMeeting}
use Rattle.organiser_books.specs.declared.organiser.Organiser.{Organiser}
use Rattle.organiser_books.specs.Calls.{CallFault}
use Rattle.organiser_books.specs.Representation.{heard_said, is_ahead, is_strange, same_text, AreSeen, IsReplyFault, Keeps, RepresentsAt}
use Rattle.organiser_books.proofs.Replying.{fault_exit, keeps_same, replied}
use Rattle.organiser_books.proofs.Taking.{reply_fault, unknown_fault}
use Rattle.organiser_books.proofs.organiser.Organiser.take_reply.Goals as goal

pub returns-in_default-clause-fault : goal.returns-in_default-clause-fault
returns-in_default-clause-fault c = λ said is book keeps.
    let object = c.args.object.now in
    let uid = text_octets object.uid in
    let found : RepresentsAt book uid None (last_store uid book) = subst (λ (o : Option StoredMeeting). RepresentsAt book uid o (last_store uid book)) (sym (c.in_default.ensures.value ∙ ap (get same_text c.args.self.now.meetings) c.uid.ensures)) (keeps.each object.uid) in
    unknown_fault (address_octets c.args.self.now.address) object said is events.Reply (sym is.method ∙ c.in_ok-expect.ensures.kind) refl (sym is.organiser ∙ c.in_ok-expect.ensures.own) book found

pub returns-in_err-take_reply-clause-fault : goal.returns-in_err-take_reply-clause-fault
returns-in_err-take_reply-clause-fault c =
    let object = c.args.object.now in
    let uid = text_octets object.uid in
    let m = c.in-Some.meeting.now in
    let address = address_octets c.args.self.now.address in
    fault_exit _ (λ n. (said : objects.Message) → RepresentsMessage object said → (book : OrganiserBook) → Keeps c.args.self.now book → CallFault events.Reply address said book n)
    (IsReplyFault m c.components.result.now) _
    (λ n fault said is book keeps.
    let found : RepresentsAt book uid (Some m) (last_store uid book) = subst (λ (o : Option StoredMeeting). RepresentsAt book uid o (last_store uid book)) (sym (c.in-Some.ensures.value ∙ ap (get same_text c.args.self.now.meetings) c.uid.ensures)) (keeps.each object.uid) in
    reply_fault address object said is events.Reply (sym is.method ∙ c.in_ok-expect.ensures.kind) refl (sym is.organiser ∙ c.in_ok-expect.ensures.own) book m found n refl (subst (λ (l : List MessageComponent). IsReplyFault m l n) c.components.ensures fault))
    c.from_residual-in_err-take_reply.ensures.1 c.in_err-take_reply.ensures.refuses

pub returns-in_err-take_reply-clause-err : goal.returns-in_err-take_reply-clause-err
returns-in_err-take_reply-clause-err c =
    let m = c.in-Some.meeting.now in
    let uid = c.args.object.now.uid in
    let n = c.take_reply.new.self in
    let w = c.get_mut.follows.holds n in
    let after : Organiser = record { alloc = c.args.self.now.alloc; address = c.args.self.now.address; meetings = c.get_mut.follows.lender n } in
    let kept : (book : OrganiserBook) → Keeps c.args.self.now book → Keeps after book = λ book keeps. record {
      texts = keeps.texts;
      each = keeps_same book uid (get same_text c.args.self.now.meetings) (get same_text (c.get_mut.follows.lender n)) m n (c.in-Some.ensures.value ∙ ap (get same_text c.args.self.now.meetings) c.uid.ensures)
          (λ q. (w.3 (sym (ap is_some c.in-Some.ensures.value))).0 q ∙ ap (λ (u : Text). cond (same_text u q) (Some n) (get same_text c.args.self.now.meetings q)) c.uid.ensures)
          c.take_reply.ensures.revision c.take_reply.ensures.components c.take_reply.ensures.attending c.take_reply.ensures.object c.in_err-take_reply.ensures.err keeps.each;
    } in
    any_err _ _ kept

pub returns-clause-steps : goal.returns-clause-steps
returns-clause-steps c = λ said is book keeps.
    let object = c.args.object.now in
    let m = c.in-Some.meeting.now in
    let n = c.take_reply.new.self in
    let w = c.get_mut.follows.holds n in
    let r = replied (address_octets c.args.self.now.address) object said is (sym is.method ∙ c.in_ok-expect.ensures.kind) (sym is.organiser ∙ c.in_ok-expect.ensures.own) book (get same_text c.args.self.now.meetings) (get same_text (c.get_mut.follows.lender n)) keeps.each m n (c.in-Some.ensures.value ∙ ap (get same_text c.args.self.now.meetings) c.uid.ensures)
    (λ q. (w.3 (sym (ap is_some c.in-Some.ensures.value))).0 q ∙ ap (λ (u : Text). cond (same_text u q) (Some n) (get same_text c.args.self.now.meetings q)) c.uid.ensures)
    c.take_reply.ensures.revision c.take_reply.ensures.components c.take_reply.ensures.attending c.take_reply.ensures.object
    (ap (is_ahead m) (sym c.components.ensures) ∙ c.in_ok-take_reply.ensures.sent) (ap (is_strange m) (sym c.components.ensures) ∙ c.in_ok-take_reply.ensures.known)
    (λ s replies rev seen. subst (λ (l : List MessageComponent). AreSeen n s (replies ++ flat_map (heard_said s.uid) l)) c.components.ensures (c.in_ok-take_reply.ensures.seen s replies rev seen)) in
    (r.0, record { texts = keeps.texts; each = r.1 })
