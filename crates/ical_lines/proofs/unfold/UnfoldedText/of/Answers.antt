use Rattle.std.proofs.Common.{◌≡◌, ap, sym, ◌∙◌, drop}
use Rattle.std.specs.List.{list_any}
use Rattle.std.specs.String.{string_bytes}
use Rattle.std.proofs.lemmas.Bool.{false≢true}
use Rattle.profile.specs.text.Lines.{logical_lines, physical_lines, is_continuation}
use Rattle.ical_lines.specs.Breaks.{lines_of}
use Rattle.ical_lines.proofs.UnfoldLemmas.{lines_of-lent, lines_of-owned}
use Rattle.ical_lines.proofs.Utf8Lemmas.{text_not_utf8, stops_at}
use Rattle.ical_lines.proofs.unfold.UnfoldedText.of.Goals as goal

pub returns-in-Err-clause-refuses : goal.returns-in-Err-clause-refuses
returns-in-Err-clause-refuses c =
    let octets = c.args.octets.now in
    let lines = lines_of-owned octets c.without_mark-unmarked.result.now c.in_ok-unfold.field-0.items c.without_mark-unmarked.ensures c.in_ok-unfold.ensures in
    (c.not_utf8.ensures.0, text_not_utf8 c.in_ok-unfold.field-0.items (logical_lines octets) lines (λ u. false≢true (c.in-Err.ensures.succeeds u)))

pub returns-in-Err-clause-at : goal.returns-in-Err-clause-at
returns-in-Err-clause-at c =
    let octets = c.args.octets.now in
    let lines = lines_of-owned octets c.without_mark-unmarked.result.now c.in_ok-unfold.field-0.items c.without_mark-unmarked.ensures c.in_ok-unfold.ensures in
    let same : c.as_bytes.result.now ≡ c.in_ok-unfold.field-0.items = c.as_bytes.ensures ∙ ap (λ v. v.items) c.in-Err.ensures.err in
    stops_at _ c.as_bytes.result.now _ c.not_utf8.ensures.1 (ap lines_of same ∙ lines)

pub returns-in-Ok-clause-lines : goal.returns-in-Ok-clause-lines
returns-in-Ok-clause-lines c =
    lines_of-owned c.args.octets.now c.without_mark-unmarked.result.now (string_bytes c.in-Ok.text) c.without_mark-unmarked.ensures (ap (λ v. v.items) c.in-Ok.ensures.ok ∙ c.in_ok-unfold.ensures)

pub returns-in_default-clause-refuses : goal.returns-in_default-clause-refuses
returns-in_default-clause-refuses c =
    let octets = c.args.octets.now in
    let lines = lines_of-lent octets c.without_mark-unmarked.result.now c.without_mark-unmarked.ensures (sym c.is_folded.ensures ∙ c.if-is_folded.false) in
    (c.not_utf8-in_default.ensures.0, text_not_utf8 c.without_mark-unmarked.result.now (logical_lines octets) lines c.in_default.ensures.cases.0)

pub returns-in_default-clause-at : goal.returns-in_default-clause-at
returns-in_default-clause-at c =
    let lines = lines_of-lent c.args.octets.now c.without_mark-unmarked.result.now c.without_mark-unmarked.ensures (sym c.is_folded.ensures ∙ c.if-is_folded.false) in
    stops_at _ c.without_mark-unmarked.result.now _ c.not_utf8-in_default.ensures.1 lines

pub returns-clause-lines : goal.returns-clause-lines
returns-clause-lines c =
    lines_of-lent c.args.octets.now c.in-Ok-from_utf8.text.now (c.in-Ok-from_utf8.ensures.cases.0 ∙ c.without_mark-unmarked.ensures) (ap (λ z. list_any is_continuation (drop 1 (physical_lines z))) c.in-Ok-from_utf8.ensures.cases.0 ∙ (sym c.is_folded.ensures ∙ c.if-is_folded.false))
