use Rattle.std.proofs.Common.{◌≡◌, to_z, of_z, w64, to_z-of_z}
use Rattle.cal_events.proofs.shared_lemmas.HiddenLemmas.{wanted_by}
use Rattle.cal_events.proofs.instances.is_wanted.Goals as goal

pub returns : goal.returns
returns c =
    let same : to_z w64 (of_z w64 c.args.instant) ≡ c.args.instant = to_z-of_z c.ranges.instant in
    let start = rw same at c.is_start.ensures in
    let after = rw same at (c.admits.ensures.0 c.if-not-admits.false) in
    let both = wanted_by c.args.recurrence.now c.args.after c.args.instant after in
    ((λ h. both.0 (start.0 h)), λ w. start.1 (both.1 w))
