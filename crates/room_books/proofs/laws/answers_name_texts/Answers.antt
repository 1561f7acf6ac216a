-- Each key that a decline names is of an instance that octets asked for.
use Rattle.room_books.proofs.laws_lemmas.TextAnswers.{reached_texts}
use Rattle.room_books.proofs.laws.answers_name_texts.Goals as goal

pub returns : goal.returns
returns c = reached_texts
