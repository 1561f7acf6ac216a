use Rattle.std.proofs.Common.{◌∙◌, rules}
use Rattle.std.proofs.lemmas.Fn.{always_returns_same}
use Rattle.room_books.specs.Gone.{single_cmp}
use Rattle.room_books.proofs.shared_lemmas.Leaving.{found_single}
use Rattle.room_books.proofs.gone.is_among.Goals as goal

pub returns : goal.returns
returns c =
    let facts = c.binary_search_by.ensures in
    let single = c.args.single in
    let finds = facts.position (λ own. single_cmp own single) (always_returns_same _ _ _ (λ a r g called. (search rules, search rules))) in
    c.is_ok.ensures.value ∙ found_single c.args.sorted.now single c.binary_search_by.result c.requires facts.bound finds
