use Rattle.std.proofs.Common.{◌++◌, ◌∙◌, ap, sym, codes, refl}
use Rattle.sched_box.proofs.SettingLemmas.{set_line, set_none, room_line, room_none, zone_line, zone_none, organiser_line, organiser_none}
use Rattle.sched_box.proofs.settings.Settings.add_line.Goals as goal

pub returns-in-Some-clause-added : goal.returns-in-Some-clause-added
returns-in-Some-clause-added c =
    let found = c.in-Some.ensures.cases in
    set_line _ _ _ _ _ (found.1.1 ∙ ap (λ z. codes "now " ++ z) (sym found.2)) c.one_stamp.ensures.reading c.set_moment.ensures.set

pub returns-in-Some-clause-none : goal.returns-in-Some-clause-none
returns-in-Some-clause-none c =
    let found = c.in-Some.ensures.cases in
    set_none _ c.args.self.now _ _ (found.1.1 ∙ ap (λ z. codes "now " ++ z) (sym found.2)) c.set_moment.ensures.none

pub returns-in-Some-strip_prefix-clause-added : goal.returns-in-Some-strip_prefix-clause-added
returns-in-Some-strip_prefix-clause-added c =
    let found = c.in-Some-strip_prefix.ensures.cases in
    room_line _ _ _ _ _ (found.1.1 ∙ ap (λ z. codes "room " ++ z) (sym found.2)) c.one_stamp.ensures.reading c.add_host.ensures.address c.add_host.ensures.added refl refl refl

pub returns-in-Some-strip_prefix-clause-none : goal.returns-in-Some-strip_prefix-clause-none
returns-in-Some-strip_prefix-clause-none c =
    let found = c.in-Some-strip_prefix.ensures.cases in
    room_none _ c.args.self.now _ _ (found.1.1 ∙ ap (λ z. codes "room " ++ z) (sym found.2)) c.add_host.ensures.none

pub returns-in-Some-strip_prefix-2-clause-added : goal.returns-in-Some-strip_prefix-2-clause-added
returns-in-Some-strip_prefix-2-clause-added c =
    let found = c.in-Some-strip_prefix-2.ensures.cases in
    zone_line _ _ _ _ _ (found.1.1 ∙ ap (λ z. codes "zone " ++ z) (sym found.2)) c.one_stamp.ensures.reading c.add_zone.ensures.added refl refl refl

pub returns-in-Some-strip_prefix-2-clause-none : goal.returns-in-Some-strip_prefix-2-clause-none
returns-in-Some-strip_prefix-2-clause-none c =
    let found = c.in-Some-strip_prefix-2.ensures.cases in
    zone_none _ c.args.self.now _ _ (found.1.1 ∙ ap (λ z. codes "zone " ++ z) (sym found.2)) c.add_zone.ensures.none

pub returns-in-Some-strip_prefix-3-clause-added : goal.returns-in-Some-strip_prefix-3-clause-added
returns-in-Some-strip_prefix-3-clause-added c =
    let found = c.in-Some-strip_prefix-3.ensures.cases in
    organiser_line _ _ _ _ _ (found.1.1 ∙ ap (λ z. codes "organiser " ++ z) (sym found.2)) c.one_stamp.ensures.reading c.add_host-in-Some-strip_prefix-3.ensures.address c.add_host-in-Some-strip_prefix-3.ensures.added refl refl refl

pub returns-in-Some-strip_prefix-3-clause-none : goal.returns-in-Some-strip_prefix-3-clause-none
returns-in-Some-strip_prefix-3-clause-none c =
    let found = c.in-Some-strip_prefix-3.ensures.cases in
    organiser_none _ c.args.self.now _ _ (found.1.1 ∙ ap (λ z. codes "organiser " ++ z) (sym found.2)) c.add_host-in-Some-strip_prefix-3.ensures.none
