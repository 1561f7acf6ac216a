use Rattle.std.proofs.Common.{◌≡◌, ◌∙◌, ◌++◌, Option, Some, sym, ap, subst}
use Rattle.std.proofs.lemmas.Result.{on_ok_weaker}
use Rattle.profile.specs.events.Properties.{BothOrNeither}
use Rattle.profile.specs.series.Zones.{Zone}
use Rattle.profile.specs.rooms.Messages.{IsZoneRest}
use Rattle.cal_zones.specs.Kinds.{zone_of}
use Rattle.cal_events.specs.Component.{zone_said}
use Rattle.itip_messages.proofs.body_lemmas.BodyLemmas.{zone_written}
use Rattle.itip_messages.proofs.body.write_zone.Goals as goal

pub returns-in-Zoned : goal.returns-in-Zoned
returns-in-Zoned c =
    on_ok_weaker c.write.result
    (λ h.
    let zone = zone_of c.in-Zoned.zone in
    let w = zone_written h.0 zone h.1 in
    let there : Some zone ≡ zone_said c.args.times.now.start = sym (ap zone_said c.in-Zoned.is) in
    (Some w.0, subst (λ (z : Option Zone). BothOrNeither IsZoneRest z (Some w.0)) there w.1, h.2 ∙ ap (λ l. c.args.body.now.items ++ l) w.2))
    c.write.ensures.ok
