use Rattle.std.proofs.Common.{◌≡◌, [], List, map, sym, subst, arith}
use Rattle.std.specs.Prelude.{Some}
use Rattle.profile.specs.events.Events.{Event as Whole}
use Rattle.cal_events.specs.Component.{component_of}
use Rattle.cal_events.specs.Instants.{AreReplacedIn}
use Rattle.cal_events.specs.Overlapping.{HaveOneEnd, AreDated}
use Rattle.cal_events.specs.Places.{ArePlaces}
use Rattle.cal_events.specs.Recurrence.{AreNamed, master_of}
use Rattle.cal_events.specs.declared.component.EventComponent.{EventComponent}
use Rattle.cal_events.proofs.shared_lemmas.SeriesLemmas.{alone_ends, alone_dated}
use Rattle.cal_events.proofs.event.Event.recurring.Goals as goal

pub invariant_of-result : goal.invariant_of-result
invariant_of-result c =
    let none : c.new.result.items ≡ [] = c.new.ensures.items in
    let master = master_of c.args.name c.args.recurrence in
    let whole : List EventComponent → Whole = λ os. record { master = Some master; overrides = map component_of os } in
    record {
      replaced = λ r is. subst (λ (os : List EventComponent). AreReplacedIn (map component_of os) r.exceptions) (sym none) (λ t x. absurd (omega (arith, x.among.1)));
      ends = subst (λ (os : List EventComponent). HaveOneEnd (whole os)) (sym none) (alone_ends master c.args.recurrence.steady);
      dated = subst (λ (os : List EventComponent). AreDated (whole os)) (sym none) (alone_dated master);
      placed = subst (λ (os : List EventComponent). ArePlaces os c.none.result) (sym none) c.none.ensures;
      named = subst (AreNamed c.args.name) (sym none) (λ k d w. absurd (omega (arith, w)));
    }
