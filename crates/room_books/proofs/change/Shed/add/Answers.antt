use Rattle.std.proofs.Common.{◌∙◌, ◌++◌, ap}
use Rattle.room_books.proofs.change_lemmas.Splits.{split_gone}
use Rattle.room_books.proofs.change.Shed.add.Goals as goal

pub returns-clause-singles : goal.returns-clause-singles
returns-clause-singles c = record {
  gone = c.args.given.now.singles.items;
  is = ap (λ v. v.items) c.lose.ensures.singles ∙ c.in_ok-extend_from_slice.ensures.items ∙ ap (λ l. c.args.self.now.singles.items ++ l) c.deref.ensures.value;
  split = split_gone c.args.given.now.singles.items;
}
