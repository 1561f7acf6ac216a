use Rattle.room_books.proofs.laws_lemmas.OneKept.{one_kept}
use Rattle.room_books.proofs.laws.one_kept_calendar.Goals as goal

pub returns : goal.returns
returns c = one_kept c.one_stamp.ensures.form
