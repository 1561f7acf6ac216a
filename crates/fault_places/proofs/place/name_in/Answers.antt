use Rattle.std.proofs.Common.{◌≡◌, ◌∙◌, true, ap, sym, subst}
use Rattle.profile.specs.text.Lines.{line_name}
use Rattle.ical_lines.specs.Breaks.{is_one_line}
use Rattle.fault_places.proofs.PlaceLemmas.{no_text, some_text}
use Rattle.fault_places.proofs.place.name_in.Goals as goal

pub returns-in_default : goal.returns-in_default
returns-in_default c = sym (no_text c.args.content.now c.in_default.ensures.cases.0)

pub returns-in-Some : goal.returns-in-Some
returns-in-Some c =
    let same = c.in-Some.ensures ∙ c.in-Ok.ensures.cases.0 in
    c.as_bytes.ensures.value ∙ c.name.ensures ∙ ap line_name same ∙ sym (some_text c.args.content.now c.in-Ok.ensures.cases.1 (subst (λ t. is_one_line t ≡ true) same c.in-Some.line.one_line))
