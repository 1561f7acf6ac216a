use Rattle.std.proofs.Common.{◌∙◌, map, subst}
use Rattle.sched_box.specs.Organising.{AreKeptBy, nothing_kept}
use Rattle.sched_box.proofs.organisers.Organisers.new.Goals as goal

pub returns : goal.returns
returns c = record {
  kept = subst (λ list. AreKeptBy c.in_ok-organisers.organisers.items (map nothing_kept list)) (c.addresses.ensures ∙ c.in_ok-directory.ensures) c.in_ok-organisers.ensures.kept;
}
