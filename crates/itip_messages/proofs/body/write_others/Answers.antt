use Rattle.std.proofs.Common.{◌≡◌, sym, subst, pos, get_or, FitsSigned, to_z, of_z, w64, to_z-of_z, rules}
use Rattle.std.proofs.lemmas.List.{get_or_default}
use Rattle.cal_events.specs.Component.{form_of}
use Rattle.itip_messages.specs.Body.{IsShowable}
use Rattle.itip_messages.proofs.body_lemmas.BodyLemmas.{others_more}
use Rattle.itip_messages.proofs.body.write_others.Goals as goal

pub write_time-requires : goal.write_time-requires
write_time-requires c =
    let xs = c.args.instants.now in
    let k = c.loop-instant.instant-index in
    let x = get_or xs k (pos 0) in
    let fits : FitsSigned w64 x = search rules in
    let cast : to_z w64 (of_z w64 x) ≡ x = to_z-of_z fits in
    subst (IsShowable (form_of c.args.form)) (sym cast) (c.requires x (k, c.loop-instant-test.true, get_or_default xs k x (pos 0) c.loop-instant-test.true))

pub loop-instant-preserved : goal.loop-instant-preserved
loop-instant-preserved c =
    let xs = c.args.instants.now in
    let k = c.loop-instant.instant-index in
    let x = get_or xs k (pos 0) in
    let fits : FitsSigned w64 x = search rules in
    let cast : to_z w64 (of_z w64 x) ≡ x = to_z-of_z fits in
    let text = rw cast at c.in_ok-write_time.ensures in
    others_more (form_of c.args.form) xs k c.args.body.now.items c.loop-instant.body.items c.extend_from_slice.new.self.items c.write_time.new.body.items c.loop-instant-test.true c.loop-instant.invariant
    c.in_ok-extend_from_slice.ensures.items text.0 text.1 text.2
