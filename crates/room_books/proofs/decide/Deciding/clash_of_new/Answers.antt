use Rattle.std.proofs.Common.{map, subst, ◌++◌}
use Rattle.std.specs.Map.{lookup}
use denote.Ref.{Bor}
use Rattle.cal_events.specs.declared.series.Series.{Series}
use Rattle.room_books.specs.Meeting.{instance_list, others, same_key, singles_by}
use Rattle.room_books.specs.Recurring.{AreClearFrom}
use Rattle.room_books.proofs.room_lemmas.ClearBeside.{new_clear}
use Rattle.room_books.proofs.shared_lemmas.Leaving.{parted_sorted}
use Rattle.room_books.proofs.decide.Deciding.clash_of_new.Goals as goal

pub returns : goal.returns
returns c = λ own parted.
    let k = c.args.self.now.key.now in let es = c.args.self.now.room.now.meetings.entries in
    new_clear (others k es ++ instance_list k own) c.args.all.now c.args.from (map (λ (one : Bor Series). one.now) c.args.wanted.now) c.busy_beside_series-found.result (subst (AreClearFrom c.args.all.now c.args.from) c.in_default.is c.in_ok-shared.ensures)
    (c.busy_beside_series-found.ensures own (parted_sorted (singles_by (lookup (same_key k) es)) c.args.self.now.gone.now c.in_ok-gone.gone own c.in_ok-gone.ensures parted))
