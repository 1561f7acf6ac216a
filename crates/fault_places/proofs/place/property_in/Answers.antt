use Rattle.std.proofs.Common.{◌∙◌, ◌++◌, [], ap, cond, sym, subst}
use Rattle.ical_lines.specs.Fault.{RefusesOnly}
use Rattle.profile.specs.text.Lines.{text_has}
use Rattle.fault_places.specs.Places.{name_written}
use Rattle.fault_places.proofs.PlaceLemmas.{not_read}
use Rattle.std.specs.Prelude.{false}
use Rattle.fault_places.proofs.place.property_in.Goals as goal
use Rattle.fault_places.proofs.place.property_in.Goals.{in-Ok+in_ok-extend_from_slice-in-Ok, in-Err-Refused}

pub returns : goal.returns
returns c =
    let content = c.args.content.now in
    elim c.match-read.branch [
      | in-Ok+in_ok-extend_from_slice-in-Ok w ↦
          ap (λ v. v.items) w.property-is ∙ w.in_ok-extend_from_slice-in-Ok.ensures.items ∙ ap (λ z. z ++ w.name_in.result.now) c.new-property.ensures.items ∙ w.name_in.ensures
          ∙ sym (ap (λ t. cond t (name_written content) []) w.in-Ok.ensures.reads)
      | in-Err-Refused w ↦
          let number = w.in-Err-Refused.field-0-0.number in
          let has = subst (RefusesOnly (λ n. text_has false n content)) w.in-Err-Refused.field-0-is w.in-Err-Refused.ensures.fault in
          ap (λ v. v.items) w.property-is ∙ c.new-property.ensures.items ∙ sym (not_read content number (c.read_lines_are_content.ensures.fine false content number) has)
    ]
