use Rattle.std.proofs.Common.{◌∙◌, ◌++◌, [], ap, codes}
use Rattle.sched_box.specs.Journal.{fate_said}
use Rattle.sched_cli.specs.Logging.{fate_words, header_text, place_words}
use Rattle.sched_cli.proofs.DiagnosisLemmas.{four_joined}
use Rattle.sched_cli.proofs.log.object_line.Goals as goal

pub returns : goal.returns
returns c =
    let (method, uid, organizer, is) = c.in_ok-append_header.ensures in
    let place = place_words c.args.file.now c.args.number in
    let words = fate_words (fate_said c.args.fate) in
    let header = header_text method uid organizer in
    let one = c.append_place.new.line.items in
    let two = c.append_fate.new.line.items in
    let three = c.append_header.new.line.items in (
      method,
      uid,
      organizer,
      four_joined [] one two three c.extend_from_slice.new.self.items place words header (codes "\n")
          (c.in_ok-append_place.ensures ∙ ap (λ z. z ++ place) c.new-line.ensures.items) c.in_ok-append_fate.ensures is c.in_ok-extend_from_slice.ensures.items,
    )
