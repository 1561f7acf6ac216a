use Rattle.std.proofs.Common.{rules}
use Rattle.std.specs.Ordering.{is_lt}
use Rattle.std.proofs.lemmas.Fn.{always_returns_same}
use Rattle.std.proofs.lemmas.List.Sorted.{ranks_by}
use Rattle.room_books.specs.Gone.{single_cmp, the_single}
use Rattle.room_books.proofs.shared_lemmas.Leaving.{single_total}
use Rattle.room_books.proofs.gone.sort.Goals as goal

pub returns-clause-rises : goal.returns-clause-rises
returns-clause-rises c =
    c.sort_unstable_by.ensures.sorted (λ a b. is_lt (single_cmp a b)) (ranks_by single_total the_single)
    (always_returns_same _ _ _ (λ a r g called. (search rules, search rules)))
