use Rattle.std.proofs.Common.{◌≡◌, ◌∙◌, ◌++◌, ap, refl, subst}
use Rattle.ical_lines.specs.Fault.{RefusesBy}
use Rattle.ical_values.specs.Refused.{IfRefused}
use Rattle.profile.specs.streams.Streams.{refused_line}
use Rattle.sched_box.specs.Books.{KeepAll, RefusesKept}
use Rattle.sched_box.specs.Journal.{fate_said}
use Rattle.sched_box.proofs.BookLemmas.{answers_refused, answers_taken}
use Rattle.sched_box.proofs.books.Books.take.Goals as goal

pub returns-in-Ok-clause-answers : goal.returns-in-Ok-clause-answers
returns-in-Ok-clause-answers c =
    let (more, is, takes) = c.in-Ok.ensures.takes in
    (more, is, answers_taken c.args.now c.args.number c.args.octets.now c.args.self.now c.answer.new.self more (fate_said c.in-Ok.fate) takes)

pub returns-in_ok-write_refusal-in-Err-Refused-clause-answers : goal.returns-in_ok-write_refusal-in-Err-Refused-clause-answers
returns-in_ok-write_refusal-in-Err-Refused-clause-answers c =
    let n = c.in-Err-Refused.refusal.number in
    let octets = c.args.octets.now in
    let old = c.args.self.now in
    let new = c.answer.new.self in
    let refuses = subst (RefusesBy (RefusesKept octets old)) c.in-Err-Refused.field-0-is c.in-Err-Refused.ensures.fault in
    let kept = subst (IfRefused (KeepAll old new × (c.answer.new.answers.items ≡ c.args.answers.now.items))) c.in-Err-Refused.field-0-is c.in-Err-Refused.ensures.keeps in (
      refused_line c.args.number n,
      c.in_ok-write_refusal-in-Err-Refused.ensures ∙ ap (λ z. z ++ refused_line c.args.number n) kept.1,
      answers_refused c.args.now c.args.number octets n old new (refused_line c.args.number n) refuses kept.0 refl,
    )
