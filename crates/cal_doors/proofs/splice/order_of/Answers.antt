use Rattle.std.proofs.Common.{ℕ, ◌<◌, Bool, List, length, subst, sym}
use Rattle.std.specs.Prelude.{Option, IfSome}
use Rattle.cal_doors.proofs.splice.order_of.Goals as goal

pub index_mut-requires : goal.index_mut-requires
index_mut-requires c =
    subst (λ (n : ℕ). c.in-Some.place < n) (sym c.loop-child.is_there.ok.0) (subst (λ (there : List Bool). c.in-Some.place < length there) c.as_slice.ensures.value
    (subst (λ (o : Option ℕ). IfSome o (λ place. place < length c.as_slice.result.now)) c.in-Some.is c.in_ok-place.ensures))
