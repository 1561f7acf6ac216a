use Rattle.std.proofs.Common.{◌∙◌, ◌++◌, ap, codes, decimal}
use Rattle.sched_cli.specs.Diagnosis.{property_text}
use Rattle.fault_places.proofs.PlaceLemmas.{joined, on_ok}
use Rattle.sched_cli.proofs.diagnosis.append_place.Goals as goal

pub returns : goal.returns
returns c =
    let place = c.args.place.now in
    let two = c.extend_from_slice-2.new.self.items in
    on_ok c.append_property.result _ _
    (λ e. joined _ _ two _ (codes " at line ") (decimal place.line) _ (property_text place.property.items) c.in_ok-extend_from_slice.ensures.items c.in_ok-extend_from_slice-2.ensures.items (c.as_bytes.ensures.value ∙ c.format.ensures.text)
    (e ∙ ap (λ z. two ++ property_text z) c.as_slice.ensures.value))
    c.append_property.ensures
