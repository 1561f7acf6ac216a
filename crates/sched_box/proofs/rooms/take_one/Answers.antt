use Rattle.std.proofs.Common.{◌∙◌, ◌++◌, ap}
use Rattle.std.proofs.lemmas.List.{append_assoc}
use Rattle.room_books.specs.Taking.{kind_view, refresh_octets, reply_octets}
use Rattle.sched_box.specs.Answering.{sent_octets}
use Rattle.sched_box.proofs.AnswerLemmas.{room_takes}
use Rattle.sched_box.proofs.rooms.take_one.Goals as goal

pub returns-clause-takes : goal.returns-clause-takes
returns-clause-takes c =
    let answer = c.in_ok-kind.field-0 in
    let reply = sent_octets (reply_octets answer) in
    let refresh = sent_octets (refresh_octets answer) in (
      reply ++ refresh,
      c.in_ok-append-2.ensures ∙ ap (λ z. z ++ refresh) c.in_ok-append.ensures ∙ append_assoc c.args.answers.now.items reply refresh,
      room_takes c.args.now c.args.message.now c.args.room.now c.take.new.self (kind_view answer.kind) answer.frees (reply_octets answer) (refresh_octets answer) c.in_ok-kind.ensures.steps c.in_ok-kind.ensures.frees c.take.ensures.address c.take.ensures.zone,
    )
