use Rattle.std.proofs.Common.{◌∙◌, ap, map, refl, sym}
use Rattle.ical_lines.specs.Text.{line_text, numbered}
use Rattle.ical_lines.specs.declared.line.Line.{Line}
use Rattle.ical_tree.specs.Own.{numbered_own}
use Rattle.profile.specs.events.Properties.{is_of}
use Rattle.cal_zones.proofs.Blamed.{shape_blame}
use Rattle.cal_zones.proofs.PartLemmas.{find_first, find_none, find_among, filter_mapped, mapped}
use Rattle.cal_zones.proofs.parts.check_missing.Goals as goal

pub returns-in-Some-clause-fault : goal.returns-in-Some-clause-fault
returns-in-Some-clause-fault c =
    let items = c.args.properties.now.lines.items in
    let first = find_first (λ (x : Line). is_of c.args.name.now (line_text x)) items c.in-Some.line.now (sym c.in-Some.ensures) in
    let all = filter_mapped line_text (is_of c.args.name.now) items ∙ ap (map line_text) first.1 in
    rw c.at.ensures (refl, λ none. cc)

pub returns-in-Some-clause-at : goal.returns-in-Some-clause-at
returns-in-Some-clause-at c =
    let items = c.args.properties.now.lines.items in
    let line = c.in-Some.line.now in
    let there = find_among (λ (x : Line). is_of c.args.name.now (line_text x)) items line (sym c.in-Some.ensures) in
    rw c.at.ensures (shape_blame (numbered_own c.args.properties.now) line.number (line_text line) 40 _ (mapped numbered items line there) c.number.ensures refl)

pub returns-in-None-clause-missing : goal.returns-in-None-clause-missing
returns-in-None-clause-missing c =
    let items = c.args.properties.now.lines.items in
    filter_mapped line_text (is_of c.args.name.now) items ∙ ap (map line_text) (find_none (λ (x : Line). is_of c.args.name.now (line_text x)) items (sym c.in-None.ensures))
