use Rattle.std.proofs.Common.{◌∙◌, sym, codes}
use Rattle.ical_lines.specs.Text.{line_text}
use Rattle.profile.specs.text.Lines.{line_param}
use Rattle.profile.specs.text.Trees.{Tree}
use Rattle.profile.specs.events.Properties.{time_kind}
use Rattle.profile.specs.events.ZonedTimes.{ZonedTextFault}
use Rattle.ical_values.proofs.Exits.{refusal_exit}
use Rattle.cal_events.specs.Times.{form_said, local_said}
use Rattle.cal_events.proofs.when_lemmas.FormLemmas.{local_in, alone_in, local_fault_in, alone_fault_in}
use Rattle.cal_events.proofs.when.judge_time.Goals as goal

pub returns-in_err-read_local-clause-fault : goal.returns-in_err-read_local-clause-fault
returns-in_err-read_local-clause-fault c =
    let line = line_text c.args.line in
    let text = c.args.text.now in
    refusal_exit _ (λ n. (object : Tree) → ZonedTextFault object line text n) _ c.from_residual.ensures.1
    (λ object. local_fault_in object (line_param (codes "TZID") line) (time_kind line) text _ (sym c.is_in_zone.ensures ∙ c.if-is_in_zone.true) c.in_err-read_local.ensures.fault)

pub returns-in_err-read_alone-clause-fault : goal.returns-in_err-read_alone-clause-fault
returns-in_err-read_alone-clause-fault c =
    let line = line_text c.args.line in
    let text = c.args.text.now in
    refusal_exit _ (λ n. (object : Tree) → ZonedTextFault object line text n) _ c.from_residual-in_err-read_alone.ensures.1
    (λ object. alone_fault_in object (line_param (codes "TZID") line) (time_kind line) text _ (sym c.is_in_zone.ensures ∙ c.if-is_in_zone.false) c.in_err-read_alone.ensures.fault)

pub returns-in_ok-read_local-clause-reads : goal.returns-in_ok-read_local-clause-reads
returns-in_ok-read_local-clause-reads c =
    let line = line_text c.args.line in
    local_in (line_param (codes "TZID") line) (time_kind line) c.args.text.now c.in_ok-read_local.field-0 (sym c.is_in_zone.ensures ∙ c.if-is_in_zone.true)
    c.in_ok-read_local.ensures.allowed c.in_ok-read_local.ensures.reads

pub returns-in_ok-read_alone-clause-reads : goal.returns-in_ok-read_alone-clause-reads
returns-in_ok-read_alone-clause-reads c =
    let line = line_text c.args.line in
    let time = c.in_ok-read_alone.field-0 in
    alone_in (line_param (codes "TZID") line) (time_kind line) c.args.text.now (form_said time) (local_said time) (sym c.is_in_zone.ensures ∙ c.if-is_in_zone.false)
    c.in_ok-read_alone.ensures.allowed c.in_ok-read_alone.ensures.says.1
