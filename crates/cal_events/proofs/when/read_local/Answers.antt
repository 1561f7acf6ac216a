use Rattle.std.proofs.Common.{◌∙◌, ap, sym, inl, inr}
use Rattle.ical_lines.specs.Text.{line_text}
use Rattle.profile.specs.events.Properties.{time_kind}
use Rattle.cal_events.specs.Forms.{said_kind}
use Rattle.cal_events.proofs.when_lemmas.FormLemmas.{local_fault}
use Rattle.cal_events.proofs.when.read_local.Goals as goal

pub returns-in-Unsaid-clause-fault : goal.returns-in-Unsaid-clause-fault
returns-in-Unsaid-clause-fault c =
    local_fault (time_kind (line_text c.args.line)) c.args.text.now
    (elim c.in-Unsaid.is [ inl e ↦ inl (sym c.kind_of.ensures ∙ ap said_kind e) | inr e ↦ inr (sym c.kind_of.ensures ∙ ap said_kind e) ])
    c.read.result c.read.ensures.refuses c.read.ensures.none
