use Rattle.std.proofs.Common.{◌≡◌, ◌∙◌, ◌∷◌, [], to_z, of_z, w64, to_z-of_z, rules, FitsSigned, string_bytes}
use Rattle.cal_agenda.proofs.LineLemmas.{five_pieces}
use Rattle.cal_agenda.proofs.published.own_uid.Goals as goal

pub returns : goal.returns
returns c =
    let k = c.args.key.now in
    let fits : FitsSigned w64 k.slot = search rules in
    let cast : to_z w64 (of_z w64 k.slot) ≡ k.slot = to_z-of_z fits in
    record { slot = string_bytes c.in_ok-slot.slot; writes_slot = rw cast at c.in_ok-slot.ensures; is = c.in_ok-format.ensures.ok ∙ five_pieces (string_bytes c.in_ok-slot.slot) (32 ∷ []) k.organiser.now (32 ∷ []) k.uid.now }
