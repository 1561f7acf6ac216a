use Rattle.std.proofs.Common.{◌≡◌, FitsSigned, to_z, of_z, w64, to_z-of_z, rules}
use Rattle.cal_events.proofs.shared_lemmas.HiddenLemmas.{first_wanted}
use Rattle.cal_events.proofs.instances.first_added.Goals as goal

pub returns : goal.returns
returns c =
    let r = c.args.recurrence.now in
    let from = c.first_own_start.result in
    let fits : FitsSigned w64 from = search rules in
    let cast : to_z w64 (of_z w64 from) ≡ from = to_z-of_z fits in
    first_wanted r c.args.after from c.first_from.result r.added c.first_own_start.ensures (rw cast at c.first_from.ensures)
