use Rattle.std.proofs.Common.{◌∙◌, inl, inr, refl, sym, true≢false}
use Rattle.sched_box.proofs.folders.tell_if_left_alone.Goals as goal

pub returns-then-not-is_left_alone : goal.returns-then-not-is_left_alone
returns-then-not-is_left_alone g c = inr (λ alone. true≢false (sym (c.is_left_alone.ensures.1 alone) ∙ c.if-not-is_left_alone.true), refl)

pub returns : goal.returns
returns g c = inl (c.is_left_alone.ensures.0 c.if-not-is_left_alone.false, c.pass_over.ensures)
