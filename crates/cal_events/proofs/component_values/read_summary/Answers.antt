use Rattle.std.proofs.Common.{◌∙◌, ◌≡◌, ℕ, List, sym, ap, subst}
use Rattle.std.specs.Prelude.{Some, None, IfOk, option_map}
use Rattle.ical_lines.specs.Text.{line_text}
use Rattle.ical_values.specs.Octets.{text_octets}
use Rattle.profile.specs.text.Values.{unescaped}
use Rattle.ical_tree.specs.Own.{own_lines}
use Rattle.cal_events.proofs.shared_lemmas.EventLemmas.{summary_found}
use Rattle.cal_events.proofs.component_values.read_summary.Goals as goal

pub returns-in-Some : goal.returns-in-Some
returns-in-Some c =
    subst (λ (v : List ℕ). IfOk c.read.result (λ text. text_octets text ≡ v))
    (ap unescaped c.value.ensures
    ∙ sym (summary_found (own_lines c.args.properties.now) (Some (line_text c.in-Some.line)) (ap (option_map line_text) (sym c.in-Some.is) ∙ c.first_named.ensures)))
    c.read.ensures

pub returns-in-None : goal.returns-in-None
returns-in-None c =
    subst (λ (v : List ℕ). IfOk c.of.result (λ text. text_octets text ≡ v))
    (sym (summary_found (own_lines c.args.properties.now) None (ap (option_map line_text) (sym c.in-None.is) ∙ c.first_named.ensures)))
    c.of.ensures
