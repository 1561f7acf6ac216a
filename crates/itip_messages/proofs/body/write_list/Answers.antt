use Rattle.std.proofs.Common.{◌≡◌, ◌∷◌, List, ℤ, sym, subst, FitsSigned, to_z, of_z, w64, to_z-of_z, rules}
use Rattle.std.specs.Prelude.{Contains}
use Rattle.std.specs.List.{AllZip}
use Rattle.cal_events.specs.Component.{form_of}
use Rattle.cal_events.proofs.shared_lemmas.InOneOrder.{later}
use Rattle.itip_order.proofs.Lists.{in_head}
use Rattle.itip_messages.specs.Body.{IsShowable, name_as, writes_as}
use Rattle.itip_messages.proofs.body_lemmas.BodyLemmas.{list_written}
use Rattle.itip_messages.proofs.body.write_list.Goals as goal

pub write_time-requires : goal.write_time-requires
write_time-requires c =
    let first = c.in-Some.first.now in
    let fits : FitsSigned w64 first = search rules in
    let cast : to_z w64 (of_z w64 first) ≡ first = to_z-of_z fits in
    subst (IsShowable (form_of c.args.form)) (sym cast) (c.requires first (subst (λ (l : List ℤ). Contains l first) (sym c.in-Some.ensures.cases.0) (in_head first c.in-Some.others.now)))

pub write_others-requires : goal.write_others-requires
write_others-requires c instant at =
    c.requires instant (subst (λ (l : List ℤ). Contains l instant) (sym c.in-Some.ensures.cases.0) (later c.in-Some.first.now instant c.in-Some.others.now at))

pub returns : goal.returns
returns c =
    let form = form_of c.args.form in
    let first = c.in-Some.first.now in
    let fits : FitsSigned w64 first = search rules in
    let cast : to_z w64 (of_z w64 first) ≡ first = to_z-of_z fits in
    let text = rw cast at c.in_ok-write_time.ensures in
    let more = c.in_ok-write_others.ensures in (
      text.0 ∷ more.0,
      subst (λ (l : List ℤ). AllZip (writes_as form) (text.0 ∷ more.0) l) (sym c.in-Some.ensures.cases.0) (text.1, more.1),
      list_written c.args.body.now.items (name_as form c.args.name.now) text.0 _ _ _ _ _ c.in_ok-write_name.ensures text.2 more.2 c.in_ok-extend_from_slice.ensures.items,
    )
