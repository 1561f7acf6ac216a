use Rattle.std.proofs.Common.{subst}
use Rattle.cal_events.specs.Places.{IsWhichAt}
use Rattle.cal_events.proofs.shared_lemmas.PlaceLemmas.{no_override}
use Rattle.cal_events.proofs.instances.override_at.Goals as goal

pub returns-in_err-which-clause-none : goal.returns-in_err-which-clause-none
returns-in_err-which-clause-none c =
    let e = c.args.event.now in
    rw c.from_residual.ensures (no_override e.overrides.items e.places e.placed c.args.place (subst (IsWhichAt e.places c.args.place) c.in_err-which.was c.which.ensures))
