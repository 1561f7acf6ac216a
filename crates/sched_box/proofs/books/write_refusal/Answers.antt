use Rattle.std.proofs.Common.{◌∙◌}
use Rattle.sched_box.proofs.AnswerLemmas.{line_is}
use Rattle.sched_box.proofs.books.write_refusal.Goals as goal

pub returns : goal.returns
returns c =
    line_is _ _ _ _ _ _ _ _ _ _ c.in_ok-extend_from_slice.ensures.items c.in_ok-extend_from_slice-2.ensures.items (c.as_bytes.ensures.value ∙ c.format.ensures.text)
    c.in_ok-extend_from_slice-3.ensures.items c.in_ok-extend_from_slice-4.ensures.items (c.as_bytes-2.ensures.value ∙ c.format-2.ensures.text) c.in_ok-extend_from_slice-5.ensures.items
