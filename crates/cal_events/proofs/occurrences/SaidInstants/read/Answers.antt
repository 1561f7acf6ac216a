use Rattle.std.proofs.Common.{◌≡◌, ◌∙◌, ◌+◌, ◌++◌, ◌∷◌, List, drop, map, sym, ap, subst}
use Rattle.std.specs.Prelude.{Contains, IfSome}
use Rattle.ical_lines.specs.Fault.{RefusesBy, RefusesWhere}
use Rattle.ical_lines.specs.Text.{line_text, numbered}
use Rattle.ical_lines.specs.declared.line.Line.{Line}
use Rattle.ical_tree.specs.Own.{own_lines, numbered_own}
use Rattle.ical_tree.proofs.OwnLemmas.{is_among}
use Rattle.profile.specs.events.EventBlame.{EventBlame}
use Rattle.cal_events.specs.Blame.{zones_of}
use Rattle.ical_tree.proofs.OneLine.{at_place}
use Rattle.profile.specs.events.Properties.{is_of}
use Rattle.profile.specs.events.Occurrences.{entries_of, entries_named, EntriesFault}
use Rattle.ical_values.proofs.Exits.{err_exit}
use Rattle.cal_events.specs.Zones.{object_of}
use Rattle.cal_events.specs.Occurrences.{name_of, AreListed, IsListLine}
use Rattle.cal_events.specs.declared.occurrences.SaidInstants.{SaidInstants}
use Rattle.cal_events.proofs.occurrences_lemmas.OccurrenceLemmas.{entry_blamed, list_line, outside_next, line_next, other_next, still_refused}
use Rattle.cal_events.proofs.occurrences.SaidInstants.read.Goals as goal
use Rattle.cal_events.proofs.occurrences.SaidInstants.read.Goals.{then-names+in_ok-add_line, else-names}

pub returns-in_err-add_line-clause-fault : goal.returns-in_err-add_line-clause-fault
returns-in_err-add_line-clause-fault c =
    let inv = c.loop-line.invariant in
    let object = object_of c.args.zones.now in
    let name = name_of c.args.listing in
    let all = own_lines c.args.properties.now in
    let lines = c.lines-line-items.result.now in
    let i = c.loop-line.line-index in
    let x = c.line-item.result in
    let left = map line_text (drop i lines) in
    let rest = map line_text (drop (i + 1) lines) in
    let steps : left ≡ line_text x ∷ rest = ap (map line_text) (at_place lines i x c.loop-line-test.true c.line-item.is) in
    let named = sym (c.if-names.ensures ∙ ap (λ n. is_of n (line_text x)) c.property-property.ensures) in
    err_exit _ (RefusesBy (EntriesFault object name (entries_named name all))) _ c.from_residual.ensures.1
    (still_refused object name (inv.0 ++ entries_of (line_text x)) (entries_named name rest) (entries_named name all) _
    (line_next name all left rest (line_text x) inv.0 inv.1 steps named) (c.in_err-add_line.ensures.fault inv.0 inv.2))

pub returns-in_err-add_line-clause-at : goal.returns-in_err-add_line-clause-at
returns-in_err-add_line-clause-at c method =
    let zones = zones_of c.args.zones.now in
    let event = numbered_own c.args.properties.now in
    let x = c.line-item.result in
    let among = subst (λ (lines : List Line). Contains (map numbered lines) (numbered x)) c.lines-line-items.ensures
    (is_among c.lines-line-items.result.now c.loop-line.line-index x c.loop-line-test.true c.line-item.is) in
    let named = sym (c.if-names.ensures ∙ ap (λ n. is_of n (line_text x)) c.property-property.ensures) in
    err_exit _ (RefusesWhere (EventBlame method zones event)) _ c.from_residual.ensures.1
    (entry_blamed method zones event x c.args.listing among named _ c.in_err-add_line.ensures.at)

pub returns-clause-among : goal.returns-clause-among
returns-clause-among c = c.loop-line.invariant.3

pub loop-line-preserved : goal.loop-line-preserved
loop-line-preserved c =
    let inv = c.loop-line.invariant in
    let object = object_of c.args.zones.now in
    let name = name_of c.args.listing in
    let all = own_lines c.args.properties.now in
    let lines = c.lines-line-items.result.now in
    let i = c.loop-line.line-index in
    let x = c.line-item.result in
    let left = map line_text (drop i lines) in
    let rest = map line_text (drop (i + 1) lines) in
    let steps : left ≡ line_text x ∷ rest = ap (map line_text) (at_place lines i x c.loop-line-test.true c.line-item.is) in
    let event = numbered_own c.args.properties.now in
    let among = subst (λ (lines : List Line). Contains (map numbered lines) (numbered x)) c.lines-line-items.ensures (is_among lines i x c.loop-line-test.true c.line-item.is) in
    elim c.if-names.branch [
      | then-names+in_ok-add_line w ↦ (
        inv.0 ++ entries_of (line_text x),
        line_next name all left rest (line_text x) inv.0 inv.1 steps (sym (w.if-names.ensures ∙ ap (λ n. is_of n (line_text x)) c.property-property.ensures)),
        subst (λ (s : SaidInstants). AreListed object name (inv.0 ++ entries_of (line_text x)) s) (sym w.said-is) (w.in_ok-add_line.ensures.adds inv.0 inv.2),
        subst (λ (s : SaidInstants). IfSome s.outside (IsListLine c.args.listing event)) (sym w.said-is)
            (outside_next c.args.listing event x.number _ _ (list_line c.args.listing event x among (sym (w.if-names.ensures ∙ ap (λ n. is_of n (line_text x)) c.property-property.ensures)))
            w.in_ok-add_line.ensures.outside inv.3),
      )
      | else-names w ↦ (
        inv.0,
        other_next name all left rest (line_text x) inv.0 inv.1 steps (sym (w.if-names.ensures ∙ ap (λ n. is_of n (line_text x)) c.property-property.ensures)),
        subst (λ (s : SaidInstants). AreListed object name inv.0 s) (sym w.said-is) inv.2,
        subst (λ (s : SaidInstants). IfSome s.outside (IsListLine c.args.listing event)) (sym w.said-is) inv.3,
      )
    ]
