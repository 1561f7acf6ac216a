use Rattle.std.proofs.Common.{◌+◌, ◌∙◌, None, true, ap, refl, subst, arith}
use Rattle.std.proofs.lemmas.Result.{err_from_is_err_and}
use Rattle.profile.specs.streams.Reports.{refusals}
use Rattle.sched_devices.proofs.InputLemmas.{for_both, for_nothing}
use Rattle.sched_box.specs.Books.{AnswersKeptAs}
use Rattle.sched_box.specs.Journal.{fate_said}
use Rattle.sched_box.specs.Objects.{ReadsObject}
use Rattle.sched_box.proofs.ServingLemmas.{between_first, between_more, bound_forgotten, bound_stopped, bound_unsent, counted_more, filled_within, forgotten_at, next_or_end, unsent, none_served, reads_less, served_more, served_all, stopped, answered_from, kept_answers, none_told, told_all, told_next}
use Rattle.sched_box.proofs.ToldLemmas.{at_most_one}
use Rattle.sched_box.proofs.serving.answer_each.Goals as goal

pub loop-answers-init : goal.loop-answers-init
loop-answers-init g c = (
  for_nothing g.R.Input.takes g.R.Input.lent g.R.Input.has_ended c.args.reader.now c.args.reader.now _ (g.met.R.Input.takes_nothing c.args.reader.now) (λ left. record {
    sofar = none_served c.args.objects.now.left c.args.now c.args.books.now left (g.W.Output.contents c.args.writer.now) (record { objects = 0; refused = 0 }) c.args.objects.now.left refl refl refl;
    between = between_first left 0 _ _ _ refl (omega arith);
    tells = none_told g.J.Journal.tells c.args.journal.now c.args.now c.args.books.now left (g.W.Output.contents c.args.writer.now) (record { objects = 0; refused = 0 }) refl;
  }),
  refl,
  refl,
  c.requires,
  record { addresses = refl; few = omega arith; refusals = omega arith },
)

pub loop-answers-smaller : goal.loop-answers-smaller
loop-answers-smaller g c =
    let reads = c.in_ok-next_object.ensures.reads.holds None tt in
    reads_less None None c.loop-answers.objects c.next_object.new.self (subst (ReadsObject None None c.loop-answers.objects c.next_object.new.self) c.if-branch.true reads)

pub loop-answers-preserved : goal.loop-answers-preserved
loop-answers-preserved g c =
    let olds = c.args.books.now in
    let news = c.loop-answers.books in
    let newer = c.take.new.self in
    let before = c.loop-answers.objects in
    let after = c.next_object.new.self in
    let number = c.loop-answers.report.objects + 1 in
    let sent = c.as_slice.result.now in
    let fate = fate_said c.in_ok-fate.fate in
    let became = answered_from (λ kept more. AnswersKeptAs c.args.now number kept news newer more fate) after.octets.items c.octets.result.now c.clear.new.self.items c.take.new.answers.items sent c.clear.ensures.items c.as_slice.ensures.value c.octets.ensures c.in_ok-fate.ensures.answers in
    let answers = kept_answers c.args.now number after.octets.items news newer sent fate became in
    let first = subst (ReadsObject None None before after) c.if-branch.true (c.in_ok-next_object.ensures.reads.holds None tt) in (
      for_both g.R.Input.takes g.R.Input.lent g.R.Input.has_ended c.args.reader.now c.loop-answers.reader c.next_object.new.reader _ _ _ g.met.R.Input.takes_more g.met.R.Input.takes_follows c.loop-answers.invariant.0 c.in_ok-next_object.ensures.reads
          (λ a b d so read follows.
          let reads = subst (ReadsObject b d before after) c.if-branch.true read in
          record {
            sofar = served_more c.args.objects.now.left c.args.now olds news newer a b d (g.W.Output.contents c.args.writer.now) (g.W.Output.contents c.loop-answers.writer) (g.W.Output.contents c.send.new.writer) before after c.loop-answers.report _ number (refusals fate) sent
                so.sofar reads refl answers c.in_ok-send.ensures.written refl (ap (λ n. c.loop-answers.report.refused + n) c.refusals.ensures.value);
            between = between_more c.args.objects.now.left _ b d _ number _ _ _ _ _ before.left _ reads.0 so.between so.sofar.read reads.1 (next_or_end _ _ b d reads.0 reads.1.consumed follows (c.in_ok-next_object.ensures.after c.if-branch.true)) c.next_object.ensures.fills;
            tells = told_next g.J.Journal.tells c.args.journal.now c.loop-answers.journal c.tell.new.self c.args.now olds news newer a b d (g.W.Output.contents c.args.writer.now) (g.W.Output.contents c.loop-answers.writer) (g.W.Output.contents c.send.new.writer) before after c.loop-answers.report _ number fate sent
                so.tells reads refl became (subst (λ kept. g.J.Journal.tells c.loop-answers.journal number kept fate c.tell.new.self) c.octets-in-loop-answers.ensures c.tell.ensures) c.in_ok-send.ensures.written refl;
          }),
      c.in_ok-next_object.ensures.mark ∙ c.loop-answers.invariant.1,
      c.in_ok-send.ensures.sent ∙ c.loop-answers.invariant.2,
      first.3,
      counted_more c.args.objects.now.left olds news newer None None before after c.loop-answers.report _ number (refusals fate) c.loop-answers.invariant.4 first refl (at_most_one fate) c.in_ok-fate.ensures.addresses refl (ap (λ n. c.loop-answers.report.refused + n) c.refusals.ensures.value),
    )

pub returns-clause-taken : goal.returns-clause-taken
returns-clause-taken g c =
    let before = c.loop-answers.objects in
    let after = c.next_object.new.self in
    for_both g.R.Input.takes g.R.Input.lent g.R.Input.has_ended c.args.reader.now c.loop-answers.reader c.next_object.new.reader _ _ _ g.met.R.Input.takes_more g.met.R.Input.takes_follows c.loop-answers.invariant.0 c.in_ok-next_object.ensures.reads
    (λ a b d so read follows.
    let reads = subst (ReadsObject b d before after) c.if-branch.false read in
    record {
      serves = served_all c.args.objects.now.left c.args.now c.args.books.now c.loop-answers.books a b d (g.W.Output.contents c.args.writer.now) (g.W.Output.contents c.loop-answers.writer) before after c.loop-answers.report so.sofar reads;
      tells = told_all g.J.Journal.tells c.args.journal.now c.loop-answers.journal c.args.now c.args.books.now c.loop-answers.books a b d (g.W.Output.contents c.args.writer.now) (g.W.Output.contents c.loop-answers.writer) before after c.loop-answers.report so.tells reads;
      fills = filled_within c.args.objects.now.left a b d _ _ _ before.left after.left _ _ _ reads.0 so.between so.sofar.read reads.1.consumed reads.2 c.next_object.ensures.fills;
      bound = tt;
    })

pub returns-clause-ended : goal.returns-clause-ended
returns-clause-ended g c = (c.in_ok-next_object.ensures.end c.if-branch.false).1

pub returns-in_err-next_object-clause-taken : goal.returns-in_err-next_object-clause-taken
returns-in_err-next_object-clause-taken g c =
    let before = c.loop-answers.objects in
    let after = c.next_object.new.self in
    let p = err_from_is_err_and c.from_residual.result c.from_residual.ensures.1 in
    rw (p.1, p.2)
    (for_both g.R.Input.takes g.R.Input.lent g.R.Input.has_ended c.args.reader.now c.loop-answers.reader c.next_object.new.reader _ _ _ g.met.R.Input.takes_more g.met.R.Input.takes_follows c.loop-answers.invariant.0 c.in_err-next_object.ensures.stops
    (λ a b d so stops follows. record {
      serves = λ box have. stopped c.args.objects.now.left c.args.now c.args.books.now c.loop-answers.books a b d (g.W.Output.contents c.args.writer.now) (g.W.Output.contents c.loop-answers.writer) before after c.loop-answers.report _ _ _ _
          so.sofar stops so.between c.loop-answers.invariant.3 c.in_err-next_object.ensures.first box have;
      tells = λ box have. tt;
      fills = filled_within c.args.objects.now.left a b d _ _ _ before.left after.left _ _ _ stops.taken so.between so.sofar.read stops.consumed stops.left c.next_object.ensures.fills;
      bound = bound_stopped c.args.objects.now.left a b d before after _ so.sofar.read stops;
    }))

pub returns-in_err-fate-clause-taken : goal.returns-in_err-fate-clause-taken
returns-in_err-fate-clause-taken g c =
    let before = c.loop-answers.objects in
    let after = c.next_object.new.self in
    let p = err_from_is_err_and c.from_residual-in_err-fate.result c.from_residual-in_err-fate.ensures.1 in
    rw (p.1, p.2)
    (for_both g.R.Input.takes g.R.Input.lent g.R.Input.has_ended c.args.reader.now c.loop-answers.reader c.next_object.new.reader _ _ _ g.met.R.Input.takes_more g.met.R.Input.takes_follows c.loop-answers.invariant.0 c.in_ok-next_object.ensures.reads
    (λ a b d so read follows.
    let reads = subst (ReadsObject b d before after) c.if-branch.true read in
    record {
      serves = forgotten_at c.args.objects.now.left c.args.now c.args.books.now c.loop-answers.books a b d (g.W.Output.contents c.args.writer.now) (g.W.Output.contents c.loop-answers.writer) before after c.loop-answers.report _ so.sofar reads c.in_err-fate.ensures.memory;
      tells = λ box have. tt;
      fills = filled_within c.args.objects.now.left a b d _ _ _ before.left after.left _ _ _ reads.0 so.between so.sofar.read reads.1.consumed reads.2 c.next_object.ensures.fills;
      bound = bound_forgotten c.args.objects.now.left a b d before after true _ so.sofar.read reads c.in_err-fate.ensures.memory;
    }))

pub returns-in_err-send-clause-taken : goal.returns-in_err-send-clause-taken
returns-in_err-send-clause-taken g c =
    let olds = c.args.books.now in
    let news = c.loop-answers.books in
    let newer = c.take.new.self in
    let before = c.loop-answers.objects in
    let after = c.next_object.new.self in
    let number = c.loop-answers.report.objects + 1 in
    let sent = c.as_slice.result.now in
    let fate = fate_said c.in_ok-fate.fate in
    let became = answered_from (λ kept more. AnswersKeptAs c.args.now number kept news newer more fate) after.octets.items c.octets.result.now c.clear.new.self.items c.take.new.answers.items sent c.clear.ensures.items c.as_slice.ensures.value c.octets.ensures c.in_ok-fate.ensures.answers in
    let answers = kept_answers c.args.now number after.octets.items news newer sent fate became in
    let p = err_from_is_err_and c.from_residual-in_err-send.result c.from_residual-in_err-send.ensures.1 in
    rw (p.1, p.2)
    (for_both g.R.Input.takes g.R.Input.lent g.R.Input.has_ended c.args.reader.now c.loop-answers.reader c.next_object.new.reader _ _ _ g.met.R.Input.takes_more g.met.R.Input.takes_follows c.loop-answers.invariant.0 c.in_ok-next_object.ensures.reads
    (λ a b d so read follows.
    let reads = subst (ReadsObject b d before after) c.if-branch.true read in
    record {
      serves = unsent c.args.objects.now.left c.args.now olds news newer a b d (g.W.Output.contents c.args.writer.now) (g.W.Output.contents c.loop-answers.writer) (g.W.Output.contents c.send.new.writer) (g.W.Output.has_failed c.send.new.writer) before after c.loop-answers.report number (refusals fate) sent _
          so.sofar reads refl answers c.in_err-send.ensures.stops;
      tells = λ box have. tt;
      fills = filled_within c.args.objects.now.left a b d _ _ _ before.left after.left _ _ _ reads.0 so.between so.sofar.read reads.1.consumed reads.2 c.next_object.ensures.fills;
      bound = bound_unsent c.args.objects.now.left a b d _ _ _ _ before after true _ so.sofar.read reads c.in_err-send.ensures.stops;
    }))
