use Rattle.std.proofs.Common.{rules, sym, subst, inr, List, ℕ}
use Rattle.std.proofs.lemmas.Result.{IfErr-weaker}
use Rattle.ical_lines.specs.Text.{line_text}
use Rattle.profile.specs.text.Values.{SpellsLocal}
use Rattle.profile.specs.series.ZoneTexts.{IsLocalLine}
use Rattle.cal_zones.specs.Read.{StartFault}
use Rattle.cal_zones.proofs.Blamed.{placed_ok, wrong_at}
use Rattle.cal_zones.proofs.parts.read_local.Goals as goal

pub returns-clause-fault : goal.returns-clause-fault
returns-clause-fault c =
    IfErr-weaker c.placed.result _ (λ e. StartFault (line_text c.args.line) e.number)
    (λ e h. inr (h.0, inr (λ t spells. h.2 t (subst (λ (s : List ℕ). SpellsLocal s t) (sym c.value-2.ensures) spells))))
    (wrong_at 11 _ c.args.line.number c.read.result c.placed.result c.placed.ensures c.read.ensures.refuses c.read.ensures.none)

pub returns-clause-says : goal.returns-clause-says
returns-clause-says c = placed_ok c.read.result c.placed.result (IsLocalLine (line_text c.args.line)) _ c.placed.ensures (search rules)

pub returns-clause-fixed : goal.returns-clause-fixed
returns-clause-fixed c = search rules

pub returns-clause-at : goal.returns-clause-at
returns-clause-at c =
    IfErr-weaker c.placed.result _ _ (λ e h. h.1) (wrong_at 11 _ c.args.line.number c.read.result c.placed.result c.placed.ensures c.read.ensures.refuses c.read.ensures.none)
