use Rattle.std.proofs.Common.{◌↔◌, Bool, IsTrue, subst, sym}
use Rattle.sched_box.specs.FileNames.{IsLeftAlone}
use Rattle.sched_box.proofs.NameLemmas.{both_alone}
use Rattle.sched_box.proofs.file_names.is_left_alone.Goals as goal

pub returns : goal.returns
returns c =
    let P : Bool → Type 0 = λ test. IsTrue test ↔ IsLeftAlone c.args.name.now in
    subst P (sym c.both.ensures) (both_alone _ _ c.args.name.now c.ends_as_message-ends.ensures c.is_no_message-is_none.ensures)
