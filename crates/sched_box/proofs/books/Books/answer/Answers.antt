use Rattle.std.proofs.Common.{◌≡◌, ◌∙◌, ◌++◌, true, false, ap, refl, sym}
use Rattle.std.specs.List.{flat_map}
use Rattle.std.proofs.lemmas.List.Folds.{flat_map-map}
use Rattle.std.proofs.lemmas.Result.{err_from_is_err_and}
use Rattle.profile.specs.events.Messages.{is_to_rooms}
use Rattle.cal_events.specs.Component.{method_said}
use Rattle.sched_box.specs.Answering.{octets_each}
use Rattle.profile.specs.rooms.Messages.{is_cancel}
use Rattle.sched_box.specs.Journal.{fate_in, fate_said}
use Rattle.sched_box.proofs.BookLemmas.{organiser_taken, rooms_taken, unhosted, unread}
use Rattle.sched_box.proofs.books.Books.answer.Goals as goal

pub returns-in_err-message-clause-fault : goal.returns-in_err-message-clause-fault
returns-in_err-message-clause-fault c =
    let p = err_from_is_err_and c.from_residual.result c.from_residual.ensures.1 in
    rw (p.1, p.2) (unread c.args.octets.now c.args.self.now c.in_err-message.field-0.0 c.in_err-message.ensures.fault)

pub returns-then-is_to_rooms-clause-takes : goal.returns-then-is_to_rooms-clause-takes
returns-then-is_to_rooms-clause-takes c =
    let message = c.in_ok-message.message in
    let to : is_to_rooms (method_said message.method) ≡ true = ap (λ m. is_to_rooms (method_said m)) (sym c.method.ensures) ∙ sym c.is_to_rooms.ensures ∙ c.if-is_to_rooms.true in
    let (more, kinds, is, takes, are) = c.in_ok-effects.ensures.takes in
    let cancel = c.is_cancel.ensures ∙ ap (λ m. is_cancel (method_said m)) c.method-then-is_to_rooms.ensures in
    (more, is, rooms_taken c.args.now c.args.octets.now message c.args.self.now _ more kinds (fate_said c.fate.result) c.in_ok-message.ensures.spells to takes (c.fate.ensures kinds are ∙ ap (λ b. fate_in b kinds) cancel) refl)

pub returns-in_err-sent-clause-fault : goal.returns-in_err-sent-clause-fault
returns-in_err-sent-clause-fault c =
    let message = c.in_ok-message.message in
    let to : is_to_rooms (method_said message.method) ≡ false = ap (λ m. is_to_rooms (method_said m)) (sym c.method.ensures) ∙ sym c.is_to_rooms.ensures ∙ c.if-is_to_rooms.false in
    let p = err_from_is_err_and c.from_residual-in_err-sent.result c.from_residual-in_err-sent.ensures.1 in
    rw (p.1, p.2) (unhosted c.args.octets.now message c.args.self.now c.in_err-sent.field-0.0 c.in_ok-message.ensures.spells to c.in_err-sent.ensures.fault)

pub returns-clause-takes : goal.returns-clause-takes
returns-clause-takes c =
    let message = c.in_ok-message.message in
    let to : is_to_rooms (method_said message.method) ≡ false = ap (λ m. is_to_rooms (method_said m)) (sym c.method.ensures) ∙ sym c.is_to_rooms.ensures ∙ c.if-is_to_rooms.false in
    let sent = c.in_ok-sent.sent.items in
    let octets = flat_map (λ object. object.items) sent in
    let is = c.in_ok-append_each.ensures ∙ ap (λ objects. c.args.answers.now.items ++ flat_map (λ object. object.items) objects) c.deref.ensures.value in
    let all = sym (flat_map-map (λ object. object) (λ object. object.items) sent) in
    (octets, is, organiser_taken c.args.now c.args.octets.now message c.args.self.now _ (octets_each sent) octets c.in_ok-message.ensures.spells to c.in_ok-sent.ensures.takes refl all)
