use Rattle.std.proofs.Common.{◌∙◌, ◌-◌, [], length, sym, ap, arith}
use Rattle.std.proofs.lemmas.List.{get_or-map, length-map}
use Rattle.std.proofs.lemmas.Slice.Eq.{bytes_eq-Decides}
use Rattle.ical_values.specs.Octets.{address_octets}
use Rattle.cal_events.proofs.entries.is_last.Goals as goal

pub returns-in-Some : goal.returns-in-Some
returns-in-Some c same =
    let all = c.args.addresses.now in
    let address = c.in-Some.address.now in
    let n = length-map all address_octets in
    let item = c.in-Some.ensures.item in
    let equal = (bytes_eq-Decides c.as_str.result.now c.args.text.now).0 (sym c.eq.ensures ∙ same) in
    let some = item.3.0 in
    (some, (omega (arith, some, n), get_or-map address_octets all (length all - 1) address [] (omega (arith, some)) ∙ ap address_octets (sym item.1) ∙ sym c.as_str.ensures ∙ equal))
