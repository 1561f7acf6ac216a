use Rattle.std.proofs.Common.{Bool, List, map, filter, subst, sym}
use Rattle.std.specs.Prelude.{MatchBool}
use Rattle.profile.specs.rooms.Messages.{instants_in}
use Rattle.profile.specs.events.Properties.{Form, Fixed, Floating, WholeDay}
use Rattle.profile.specs.events.Events.{is_override, TimesDiffer}
use Rattle.cal_events.specs.Component.{component_of, time_of}
use Rattle.cal_events.specs.declared.time.Time.{Time}
use Rattle.cal_events.proofs.meeting_components_lemmas.SlotLemmas.{TellsTwins, share_by_time}
use Rattle.cal_events.proofs.meeting_components.share_time.Goals as goal

pub returns : goal.returns
returns c =
    let events = map component_of c.args.components.now in
    let times = c.in_ok-times.times.items in
    let a = c.in_ok-fixed.fixed in
    let b = c.in_ok-floating.floating in
    let d = c.in_ok-whole_days.whole_days in
    let tells : Form → Bool → List Time → Type 0 = λ form answer l. TellsTwins answer (instants_in form (map time_of l)) in
    subst (λ (answer : Bool). MatchBool answer (TimesDiffer (filter is_override events) → ⊥) (TimesDiffer (filter is_override events))) (sym c.any_of.ensures)
    (share_by_time events c.requires.named (map time_of times) c.in_ok-times.ensures a b d
    (subst (tells Fixed a) c.deref.ensures.value c.in_ok-fixed.ensures)
    (subst (tells Floating b) c.deref-2.ensures.value c.in_ok-floating.ensures)
    (subst (tells WholeDay d) c.deref-3.ensures.value c.in_ok-whole_days.ensures))
