use Rattle.std.proofs.Common.{sym, subst, inl, inr, List, ℕ}
use Rattle.std.specs.Prelude.{Some, true}
use Rattle.std.proofs.lemmas.Result.{IfOk-weaker, IfErr-weaker}
use Rattle.ical_lines.specs.Text.{line_text}
use Rattle.ical_lines.specs.declared.fault.Refusal.{Refusal}
use Rattle.ical_tree.specs.Own.{own_lines, numbered_own}
use Rattle.ical_tree.proofs.OneLine.{the_line}
use Rattle.profile.specs.text.Values.{SpellsOffset}
use Rattle.profile.specs.events.Properties.{Says}
use Rattle.profile.specs.series.ZoneBlame.{PartBlame}
use Rattle.profile.specs.series.ZoneTexts.{IsOffsetLine}
use Rattle.cal_zones.specs.Read.{OffsetFault}
use Rattle.cal_zones.proofs.Reading.{said}
use Rattle.cal_zones.proofs.Blamed.{placed_ok, wrong_at, not_once, is_named, offset_blame, once_blame}
use Rattle.ical_values.proofs.Exits.{err_exit, refusal_exit}
use Rattle.cal_zones.proofs.parts.read_offset.Goals as goal

pub returns-in_err-line-clause-fault : goal.returns-in_err-line-clause-fault
returns-in_err-line-clause-fault c =
    refusal_exit _ (OffsetFault c.args.name.now (own_lines c.args.properties.now)) _ c.from_residual.ensures.1
    (inl (c.in_err-line.ensures.refuses, not_once c.in_err-line.ensures.faulty))

pub returns-in_err-line-clause-at : goal.returns-in_err-line-clause-at
returns-in_err-line-clause-at c = λ all.
    let part = numbered_own c.args.properties.now in
    err_exit _ (λ (e : Refusal). PartBlame part e.number e.line) _ c.from_residual.ensures.1
    (once_blame part c.args.name.now _ _ c.in_err-line.ensures.refuses c.in_err-line.ensures.faulty)

pub returns-clause-says : goal.returns-clause-says
returns-clause-says c =
    let lines = own_lines c.args.properties.now in
    let line = line_text c.in_ok-line.line in
    let name = c.args.name.now in
    placed_ok c.read.result c.placed.result (λ t. Says name true IsOffsetLine lines (Some t)) _ c.placed.ensures
    (IfOk-weaker c.read.result (SpellsOffset c.value.result.now) (λ t. Says name true IsOffsetLine lines (Some t))
    (λ t h. said IsOffsetLine name lines line t c.in_ok-line.ensures.found (subst (λ (s : List ℕ). SpellsOffset s t) c.value.ensures h)) c.read.ensures.reads)

pub returns-clause-fault : goal.returns-clause-fault
returns-clause-fault c =
    let lines = own_lines c.args.properties.now in
    let line = line_text c.in_ok-line.line in
    let name = c.args.name.now in
    IfErr-weaker c.placed.result _ (λ e. OffsetFault name lines e.number)
    (λ e h. inr (h.0, (line, the_line name lines line c.in_ok-line.ensures.found, λ t spells. h.2 t (subst (λ (s : List ℕ). SpellsOffset s t) (sym c.value.ensures) spells))))
    (wrong_at 13 _ c.in_ok-line.line.number c.read.result c.placed.result c.placed.ensures c.read.ensures.refuses c.read.ensures.none)

pub returns-clause-at : goal.returns-clause-at
returns-clause-at c = λ all.
    let part = numbered_own c.args.properties.now in
    let lines = own_lines c.args.properties.now in
    let line = line_text c.in_ok-line.line in
    let name = c.args.name.now in
    let named = all line (is_named name lines line (the_line name lines line c.in_ok-line.ensures.found)) in
    IfErr-weaker c.placed.result _ (λ e. PartBlame part e.number e.line)
    (λ e h. offset_blame part c.in_ok-line.line.number line e.number e.line c.in_ok-line.ensures.among named h.1 h.0
    (λ t spells. h.2 t (subst (λ (s : List ℕ). SpellsOffset s t) (sym c.value.ensures) spells)))
    (wrong_at 13 _ c.in_ok-line.line.number c.read.result c.placed.result c.placed.ensures c.read.ensures.refuses c.read.ensures.none)
