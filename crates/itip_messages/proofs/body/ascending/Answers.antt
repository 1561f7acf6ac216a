use Rattle.std.proofs.Common.{subst, List, ℤ}
use Rattle.std.specs.List.Sorted.{IsPermutation}
use Rattle.std.proofs.lemmas.List.Filters.{dedup_is}
use Rattle.itip_messages.proofs.body_lemmas.BodyLemmas.{sorted_once}
use Rattle.itip_messages.proofs.body.ascending.Goals as goal

pub returns : goal.returns
returns c =
    sorted_once c.args.instants.now c.sort_unstable.new.self.items c.dedup.new.self.items
    (subst (λ (l : List ℤ). IsPermutation l c.sort_unstable.new.self.items) c.in_ok-ascending.ensures.items c.sort_unstable.ensures.permutation)
    c.sort_unstable.ensures.sorted (dedup_is _ _ _ c.dedup.ensures.filtered)
