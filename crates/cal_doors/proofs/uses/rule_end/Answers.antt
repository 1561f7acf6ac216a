use Rattle.std.proofs.Common.{◌≡◌, ◌∙◌, ap, sym, to_z, of_z, w64, to_z-of_z}
use Rattle.std.specs.Prelude.{option_map}
use Rattle.cal_rules.specs.Views.{until_of}
use Rattle.cal_doors.proofs.uses.rule_end.Goals as goal

pub returns : goal.returns
returns c =
    let cast : to_z w64 (of_z w64 c.until_end.result) ≡ c.until_end.result = to_z-of_z {w = w64} (record { sfits = c.until_end.type_inv }) in
    rw cast (c.in-Ok.rule, c.in-Ok.ensures.reads, c.until_end.ensures c.in-Ok.rule (sym c.until.ensures ∙ ap (option_map until_of) c.in-Some.is))
