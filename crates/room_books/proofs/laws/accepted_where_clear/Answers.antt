use Rattle.std.proofs.Common.{refl}
use Rattle.room_books.proofs.shared_lemmas.Accepting.{accepted_where, declined_where}
use Rattle.room_books.proofs.laws.accepted_where_clear.Goals as goal

pub returns-clause-accepted : goal.returns-clause-accepted
returns-clause-accepted c before claims moment outcome after step = accepted_where before claims moment outcome after _ step refl

pub returns-clause-declined : goal.returns-clause-declined
returns-clause-declined c before claims moment outcome after step = declined_where before claims moment outcome after _ step refl
