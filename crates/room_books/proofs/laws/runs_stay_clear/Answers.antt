-- Each book that is reached is sound.
use Rattle.room_books.proofs.laws_lemmas.Runs.{runs_good}
use Rattle.room_books.proofs.laws.runs_stay_clear.Goals as goal

pub returns-clause-clear : goal.returns-clause-clear
returns-clause-clear c = λ ds book r. (runs_good ds book r).clear

pub returns-clause-few : goal.returns-clause-few
returns-clause-few c = λ ds book r. (runs_good ds book r).few
