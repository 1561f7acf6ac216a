use Rattle.std.proofs.Common.{◌≡◌, ◌∙◌, [], ◌++◌, false, ap, get_or, subst, sym}
use Rattle.std.specs.List.{list_any}
use Rattle.std.specs.Str.{bytes_eq}
use Rattle.ical_values.specs.Octets.{address_octets}
use Rattle.sched_box.specs.Answering.{RoomsSend, octets_each, sent_by}
use Rattle.sched_box.proofs.AnswerLemmas.{unsent}
use Rattle.sched_box.proofs.rooms.Rooms.deliver.Goals as goal

pub returns-in_default : goal.returns-in_default
returns-in_default c =
    let to = address_octets c.args.to.now in
    let rooms = c.args.self.now in
    unsent c.args.now c.args.message.now to rooms.rooms.items (octets_each c.new-sent.result.items)
    (subst (λ addresses. list_any (bytes_eq to) addresses ≡ false) rooms.listed c.in_default.ensures.none) (ap octets_each c.new-sent.ensures.items)

pub returns : goal.returns
returns c =
    let to = address_octets c.args.to.now in
    let rooms = c.args.self.now in
    let news = c.take_at.new.rooms.items in
    let at = subst (λ addresses. get_or addresses c.in-Some.place [] ≡ to) rooms.listed c.in-Some.ensures.at in
    let sent = c.in_ok-push_answer.ensures ∙ ap (λ objects. octets_each objects ++ sent_by c.in_ok-answer.answer) c.new-sent.ensures.items in
    let sends = subst (λ a. RoomsSend a c.args.now c.args.message.now rooms.rooms.items news (sent_by c.in_ok-answer.answer)) at c.in_ok-answer.ensures.sends in
    subst (RoomsSend to c.args.now c.args.message.now rooms.rooms.items news) (sym sent) sends
