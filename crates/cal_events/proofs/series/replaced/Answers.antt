use Rattle.std.proofs.Common.{◌≡◌, ◌∙◌, ap, subst, sym, map, arith}
use Rattle.std.proofs.lemmas.Grind.{common_steps}
use Rattle.std.proofs.lemmas.List.{take_all}
use Rattle.profile.specs.events.EventComponents.{meeting_said}
use Rattle.cal_events.specs.Calendar.{MeetingName, key_of}
use Rattle.cal_events.specs.Component.{component_of}
use Rattle.cal_events.specs.Ruled.{AreSlotsOf}
use Rattle.cal_events.specs.declared.instance.InstanceKey.{InstanceKey}
use Rattle.cal_events.proofs.series_lemmas.OwnKeys.{own_slots}
use Rattle.cal_events.proofs.series.replaced.Goals as goal

pub loop-key-preserved : goal.loop-key-preserved
loop-key-preserved c = grind (arith, common_steps)

pub returns : goal.returns
returns c =
    let keys = c.args.overrides.now in
    let m : MeetingName = (c.organiser_text.result.now, c.as_str.result.now) in
    let said : m ≡ meeting_said (component_of c.args.master.now) = λ i. (c.organiser_text.ensures i, c.as_str.ensures i) in
    let own = c.own_keys-key-items.result.now in
    let slots : c.loop-key.slots.items ≡ map (λ (k : InstanceKey). k.slot) own =
    c.loop-key.invariant ∙ ap (map (λ (k : InstanceKey). k.slot)) (take_all c.loop-key.key-index own c.loop-key-test.false) in
    subst (λ (n : MeetingName). AreSlotsOf (map key_of keys) n c.loop-key.slots.items) said
    (subst (AreSlotsOf (map key_of keys) m) (sym slots) (own_slots keys c.requires m own c.own_keys-key-items.ensures))
