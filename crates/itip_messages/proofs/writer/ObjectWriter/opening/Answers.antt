use Rattle.std.proofs.Common.{◌∙◌}
use Rattle.itip_messages.proofs.shared_lemmas.LineLemmas.{opened, kept_at_first, kept_by_more, kept_by_none}
use Rattle.itip_messages.proofs.writer.ObjectWriter.opening.Goals as goal

pub returns-in_err-line-clause-keeps : goal.returns-in_err-line-clause-keeps
returns-in_err-line-clause-keeps c =
    kept_by_none _ _ _ (kept_at_first _ _ (c.in_ok-reserve.ensures.items ∙ c.self.view_is)) c.in_err-line.ensures.err

pub returns-in_err-line-2-clause-keeps : goal.returns-in_err-line-2-clause-keeps
returns-in_err-line-2-clause-keeps c =
    let first = kept_by_more _ _ _ _ (kept_at_first _ _ (c.in_ok-reserve.ensures.items ∙ c.self.view_is)) c.in_ok-line.ensures.ok in
    kept_by_none _ _ _ first c.in_err-line-2.ensures.err

pub returns-in_err-line-3-clause-keeps : goal.returns-in_err-line-3-clause-keeps
returns-in_err-line-3-clause-keeps c =
    let first = kept_by_more _ _ _ _ (kept_at_first _ _ (c.in_ok-reserve.ensures.items ∙ c.self.view_is)) c.in_ok-line.ensures.ok in
    kept_by_none _ _ _ (kept_by_more _ _ _ _ first c.in_ok-line-2.ensures.ok) c.in_err-line-3.ensures.err

pub returns-in_err-method-clause-keeps : goal.returns-in_err-method-clause-keeps
returns-in_err-method-clause-keeps c =
    let first = kept_by_more _ _ _ _ (kept_at_first _ _ (c.in_ok-reserve.ensures.items ∙ c.self.view_is)) c.in_ok-line.ensures.ok in
    let three = kept_by_more _ _ _ _ (kept_by_more _ _ _ _ first c.in_ok-line-2.ensures.ok) c.in_ok-line-3.ensures.ok in
    kept_by_none _ _ _ three c.in_err-method.ensures.err

pub returns-clause-ok : goal.returns-clause-ok
returns-clause-ok c =
    opened _ _ _ _ _ _ _ _ _ _ (c.in_ok-reserve.ensures.items ∙ c.self.view_is) c.in_ok-line.ensures.ok c.in_ok-line-2.ensures.ok c.in_ok-line-3.ensures.ok c.in_ok-method.ensures.ok

pub returns-clause-keeps : goal.returns-clause-keeps
returns-clause-keeps c =
    let first = kept_by_more _ _ _ _ (kept_at_first _ _ (c.in_ok-reserve.ensures.items ∙ c.self.view_is)) c.in_ok-line.ensures.ok in
    let three = kept_by_more _ _ _ _ (kept_by_more _ _ _ _ first c.in_ok-line-2.ensures.ok) c.in_ok-line-3.ensures.ok in
    kept_by_more _ _ _ _ three c.in_ok-method.ensures.ok
