use Rattle.std.proofs.Common.{◌∙◌, sym, subst, ℕ, List, ◌+◌, drop}
use Rattle.std.proofs.lemmas.List.{drop_all}
use Rattle.std.proofs.lemmas.List.Elements.{All-contains}
use Rattle.ical_tree.specs.Tree.{tree_of}
use Rattle.ical_tree.proofs.OneLine.{at_place}
use Rattle.profile.specs.doors.Uses.{IsLineIn}
use Rattle.cal_doors.specs.Told.{events_among, HasItsZone}
use Rattle.cal_doors.proofs.ToldEvents.{all_more, all_other, all_none}
use Rattle.cal_doors.proofs.told.have_zones.Goals.{else-is_named-via-then-is_named+else-not-has_zones, else-is_named-via-else-is_named}
use Rattle.cal_doors.proofs.told.have_zones.Goals as goal

pub loop-component-preserved : goal.loop-component-preserved
loop-component-preserved c = λ rest.
    let P : List (List ℕ) → Type 0 = λ lines. ((name line : List ℕ) → IsLineIn name lines line
    → HasItsZone (tree_of c.args.zones.now.object.now) (tree_of c.args.asked.now.object.now) (tree_of c.args.read.now.object.now) name) in
    let all = c.args.components.now in
    let i = c.loop-component.component-index in
    let x = c.component-item.result in
    let here = at_place all i x c.loop-component-test.true c.component-item.is in
    c.loop-component.invariant (elim c.else-is_named.branch [
      | else-is_named-via-then-is_named+else-not-has_zones w ↦
          all_more P (drop i all) (drop (i + 1) all) x here (sym c.is_named.ensures ∙ w.if-is_named.true) (subst P w.lines.ensures (w.has_zones.ensures w.if-not-has_zones.false)) rest
      | else-is_named-via-else-is_named w ↦ all_other P (drop i all) (drop (i + 1) all) x here (sym c.is_named.ensures ∙ w.if-is_named.false) rest
    ])

pub returns : goal.returns
returns c = λ _ name line lines among is.
    let P : List (List ℕ) → Type 0 = λ ls. ((n l : List ℕ) → IsLineIn n ls l
    → HasItsZone (tree_of c.args.zones.now.object.now) (tree_of c.args.asked.now.object.now) (tree_of c.args.read.now.object.now) n) in
    let all = c.args.components.now in
    let i = c.loop-component.component-index in
    All-contains P (events_among all) lines (c.loop-component.invariant (all_none P (drop i all) (drop_all i all c.loop-component-test.false))) among name line is
