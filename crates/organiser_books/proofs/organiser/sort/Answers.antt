use Rattle.std.proofs.Common.{rules}
use Rattle.std.specs.Ordering.{nat_cmp, is_lt}
use Rattle.std.specs.Cmp.Lexicographic.{slice_cmp}
use Rattle.std.proofs.lemmas.Cmp.{nat_list_cmp_total}
use Rattle.std.proofs.lemmas.Fn.{always_returns_same}
use Rattle.std.proofs.lemmas.List.Sorted.{ranks_by}
use Rattle.organiser_books.specs.Showing.{octets_at}
use Rattle.organiser_books.proofs.organiser.sort.Goals as goal

pub returns-clause-rises : goal.returns-clause-rises
returns-clause-rises c =
    c.sort_unstable_by.ensures.sorted (λ a b. is_lt (slice_cmp nat_cmp (octets_at a) (octets_at b))) (ranks_by nat_list_cmp_total octets_at)
    (always_returns_same _ _ _ (λ a r g called. (search rules, search rules)))
