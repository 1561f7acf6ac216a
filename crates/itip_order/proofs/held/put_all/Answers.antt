use Rattle.std.proofs.Common.{◌≡◌, ◌∷◌, [], ◌++◌, List, true, sym, ap, ◌∙◌, subst, length, arith, append_assoc, append-nil}
use Rattle.std.proofs.lemmas.List.{map-append, nil_from_length}
use Rattle.profile.specs.rooms.Revisions as revisions
use Rattle.itip_order.specs.declared.part.Part.{Part}
use Rattle.itip_order.specs.Parts.{part_of, parts_of}
use Rattle.itip_order.specs.Registers.{is_ascending, put_part, together}
use Rattle.itip_order.proofs.Joined.{together_push, together_ascending}
use Rattle.itip_order.proofs.held.put_all.Goals as goal

pub put-requires-clause-ascending : goal.put-requires-clause-ascending
put-requires-clause-ascending c =
    subst (λ (R : List revisions.Part). is_ascending R ≡ true) (sym c.loop-part.invariant.put) (together_ascending (parts_of c.args.registers.now.items) (parts_of c.loop-part.yielded) c.requires)

pub put-requires-clause-room : goal.put-requires-clause-room
put-requires-clause-room c =
    let left = ap length c.in-Some.ensures.steps.0 in let room = c.loop-part.invariant.room in
    omega (arith, left, room)

pub loop-part-preserved : goal.loop-part-preserved
loop-part-preserved c =
    let before = parts_of c.args.registers.now.items in
    let done = c.loop-part.yielded in
    let part = c.in-Some.part in
    let rest = c.next.new.self.rest.items in
    let step = c.put.ensures.put ∙ ap (put_part (part_of part)) c.loop-part.invariant.put ∙ sym (together_push before (parts_of done) (part_of part)) ∙ ap (together before) (sym (map-append part_of done (part ∷ []))) in
    let left = ap length c.in-Some.ensures.steps.0 in let room = c.loop-part.invariant.room in let more = c.put.ensures.len in let kept = c.put.ensures.capacity in
    record {
      all = c.loop-part.invariant.all ∙ ap (λ (l : List Part). done ++ l) c.in-Some.ensures.steps.0 ∙ sym (append_assoc done (part ∷ []) rest);
      put = step;
      room = omega (arith, left, room, more, kept);
    }

pub returns-clause-ok : goal.returns-clause-ok
returns-clause-ok c =
    let empty = c.in-None.ensures.steps.0 in
    let none = nil_from_length c.loop-part.part-iterator.rest.items (omega (arith, empty, c.loop-part.part-iterator.rest.ok.0, c.loop-part.part-iterator.rest.ok.1)) in
    let all = c.loop-part.invariant.all ∙ ap (λ (l : List Part). c.loop-part.yielded ++ l) none ∙ append-nil c.loop-part.yielded in
    c.loop-part.invariant.put ∙ ap (λ (l : List Part). together (parts_of c.args.registers.now.items) (parts_of l)) (sym all)
