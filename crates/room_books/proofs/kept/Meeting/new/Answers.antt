use Rattle.std.proofs.Common.{refl}
use Rattle.room_books.proofs.shared_lemmas.Reordering.{re_same}
use Rattle.room_books.proofs.kept.Meeting.new.Goals as goal

pub returns : goal.returns
returns c = record { held_is = refl; answers_are = re_same c.args.changes.new.items }
