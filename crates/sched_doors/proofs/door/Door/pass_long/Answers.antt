use Rattle.std.proofs.Common.{◌≡◌, ◌∙◌, length, ap, refl, subst, map, string_bytes, arith, vec_len}
use Rattle.sched_doors.specs.Handing.{begun_at}
use Rattle.sched_doors.specs.Pieces.{TakesDoorPiece}
use Rattle.sched_doors.proofs.Passing.{ended_long, front_after_long, goes_long, is_none, last_long, not_empty}
use Rattle.sched_doors.proofs.door.Door.pass_long.Goals as goal

pub returns-in-Goes-clause-passes : goal.returns-in-Goes-clause-passes
returns-in-Goes-clause-passes g c =
    let f = c.requires.forgotten in
    goes_long _ _ _ _ _ _ _ _ _ _ (f.kept ∙ ap (λ p. begun_at p c.args.self.now.octets.items) c.requires.place) f.all f.plain (ap (map string_bytes) f.none) _ _ c.requires.place refl
    (subst (TakesDoorPiece _ _ _ _ _ _) c.in-Goes.is c.in_ok-piece.ensures.takes)

pub returns-in-End-clause-passes : goal.returns-in-End-clause-passes
returns-in-End-clause-passes g c =
    let f = c.requires.forgotten in
    last_long _ _ _ _ _ _ _ _ _ _ (f.kept ∙ ap (λ p. begun_at p c.args.self.now.octets.items) c.requires.place) f.all f.plain (ap (map string_bytes) f.none) _ _ c.requires.place refl
    (subst (TakesDoorPiece _ _ _ _ _ _) c.in-End.is c.in_ok-piece.ensures.takes)

pub returns-in-Ended-clause-passes : goal.returns-in-Ended-clause-passes
returns-in-Ended-clause-passes g c =
    let f = c.requires.forgotten in
    let q = c.pass_front.ensures.quiet in
    let left = c.take_piece.new.octets in
    let none = is_none c.is_empty.result (vec_len left) c.is_empty.ensures c.if-is_empty.true in
    let empty : length left.items ≡ 0 = omega (arith, none, left.ok.0) in
    front_after_long c.pass_front.result _ _ (g.R.Input.remaining c.take_piece.new.reader) _ _ _ _ _ _ _ _ _ _ _ _ c.new.ensures c.requires.place empty (q.0 ∙ f.plain)
    (ap (λ v. map string_bytes v.items) q.1 ∙ ap (map string_bytes) f.none) (subst (TakesDoorPiece _ _ _ _ _ _) c.in-Ended.is c.in_ok-piece.ensures.takes) c.pass_front.ensures.lends

pub returns-in-Ended-2-clause-passes : goal.returns-in-Ended-2-clause-passes
returns-in-Ended-2-clause-passes g c =
    let f = c.requires.forgotten in
    let left = c.take_piece.new.octets in
    let some = not_empty c.is_empty.result (vec_len left) c.is_empty.ensures c.if-is_empty.false in
    ended_long _ _ _ _ _ _ _ _ _ _ (f.kept ∙ ap (λ p. begun_at p c.args.self.now.octets.items) c.requires.place) f.all f.plain (ap (map string_bytes) f.none) _ _ c.requires.place refl
    (λ empty. some (omega (arith, empty, left.ok.0))) (subst (TakesDoorPiece _ _ _ _ _ _) c.in-Ended-2.is c.in_ok-piece.ensures.takes)
