use Rattle.std.proofs.Common.{sym, append-nil}
use Rattle.room_books.specs.Slots.{givens}
use Rattle.room_books.proofs.slots.push_all.Goals as goal

pub loop-given-init : goal.loop-given-init
loop-given-init c = sym (append-nil (givens c.args.are.now.items))
