use Rattle.std.proofs.Common.{◌≡◌, ◌⊎◌, inl, ◌∙◌, ap, sym, true}
use Rattle.std.specs.Prelude.{option_map, Some}
use Rattle.std.proofs.lemmas.Result.{IfErr-weaker}
use Rattle.ical_lines.specs.Text.{line_text, numbered}
use Rattle.ical_lines.specs.Fault.{IsPlacedAt}
use Rattle.ical_lines.proofs.FaultLemmas.{placed_where}
use Rattle.cal_events.proofs.shared_lemmas.LineBlame.{ok_placed, if_err}
use Rattle.profile.specs.events.Properties.{allows_form, time_kind, KindFault}
use Rattle.profile.specs.events.ZonedTimes.{SpellsForm, SaysZonedText, InZoneFault, LocalFault, ZonedTextFault}
use Rattle.profile.specs.events.EventBlame.{NamedBlame}
use Rattle.cal_events.specs.Blame.{TextBlame, zones_of}
use Rattle.cal_events.specs.Forms.{SpellsAlone}
use Rattle.cal_events.specs.Times.{form_said, zone_said, local_said}
use Rattle.cal_events.specs.Zones.{object_of}
use Rattle.cal_events.proofs.shared_lemmas.ZonedLemmas.{zoned_said, zoned_fault, zoned_blame, alone_said, alone_fault}
use Rattle.cal_events.proofs.when_lemmas.FormLemmas.{ok_both}
use Rattle.cal_events.proofs.when.When.read_text.Goals as goal

pub returns-in-Some-clause-says : goal.returns-in-Some-clause-says
returns-in-Some-clause-says c =
    let line = line_text c.args.line in
    let text = c.args.text.now in
    let object = object_of c.args.zones.now in
    let name = c.in-Some.name.now in
    let named = sym c.param.ensures ∙ ap (option_map (λ x. x.now)) c.in-Some.is in
    ok_both _ (λ t. allows_form (time_kind line) (form_said t) ≡ true) (λ t. SpellsForm object (Some name) text (form_said t) (zone_said t) (local_said t))
    (λ t. SaysZonedText object line text (form_said t) (zone_said t) (local_said t))
    (λ t a h. zoned_said object line text name (form_said t) (zone_said t) (local_said t) named a h) c.read_in_zone.ensures.allowed c.read_in_zone.ensures.says

pub returns-in-Some-clause-fault : goal.returns-in-Some-clause-fault
returns-in-Some-clause-fault c =
    let line = line_text c.args.line in
    let text = c.args.text.now in
    let object = object_of c.args.zones.now in
    let name = c.in-Some.name.now in
    let named = sym c.param.ensures ∙ ap (option_map (λ x. x.now)) c.in-Some.is in
    let P = InZoneFault object name (time_kind line) text in
    IfErr-weaker _ (λ e. P e.number) (λ e. ZonedTextFault object line text e.number)
    (λ e k. zoned_fault object line text name e.number named k) c.read_in_zone.ensures.fault

pub returns-in-Some-clause-at : goal.returns-in-Some-clause-at
returns-in-Some-clause-at c =
    let line = numbered c.args.line in
    let text = c.args.text.now in
    let zones = zones_of c.args.zones.now in
    let name = c.in-Some.name.now in
    let named = sym c.param.ensures ∙ ap (option_map (λ x. x.now)) c.in-Some.is in
    IfErr-weaker _ (λ e. ((e.line ≡ line.0) × LocalFault (time_kind line.1) text e.number) ⊎ NamedBlame zones line.0 name e.number e.line)
    (λ e. TextBlame zones line text e.number e.line) (λ e k. zoned_blame zones line text name e.number e.line named k) c.read_in_zone.ensures.at

pub returns-in-None-clause-says : goal.returns-in-None-clause-says
returns-in-None-clause-says c =
    let line = line_text c.args.line in
    let text = c.args.text.now in
    let object = object_of c.args.zones.now in
    let named = sym c.param.ensures ∙ ap (option_map (λ x. x.now)) c.in-None.is in
    let Q = IsPlacedAt c.args.line.number c.read_alone.result in
    ok_both _ (λ t. allows_form (time_kind line) (form_said t) ≡ true) (SpellsAlone text)
    (λ t. SaysZonedText object line text (form_said t) (zone_said t) (local_said t))
    (λ t a h. alone_said object line text (form_said t) (zone_said t) (local_said t) named a h)
    (ok_placed Q _ _ (λ t. allows_form (time_kind line) (form_said t) ≡ true) c.placed.ensures c.read_alone.ensures.allowed)
    (ok_placed Q _ _ (SpellsAlone text) c.placed.ensures c.read_alone.ensures.says)

pub returns-in-None-clause-fault : goal.returns-in-None-clause-fault
returns-in-None-clause-fault c =
    let line = numbered c.args.line in
    let text = c.args.text.now in
    let object = object_of c.args.zones.now in
    let named = sym c.param.ensures ∙ ap (option_map (λ x. x.now)) c.in-None.is in
    if_err _ (IsPlacedAt line.0 c.read_alone.result) (λ e. ZonedTextFault object line.1 text e.number) _ c.placed.ensures
    (λ e so. alone_fault object line.1 text e.number named (placed_where (KindFault (time_kind line.1) text) line.0 _ e so c.read_alone.ensures.fault).0)

pub returns-in-None-clause-at : goal.returns-in-None-clause-at
returns-in-None-clause-at c =
    let line = numbered c.args.line in
    let text = c.args.text.now in
    let zones = zones_of c.args.zones.now in
    let named = sym c.param.ensures ∙ ap (option_map (λ x. x.now)) c.in-None.is in
    if_err _ (IsPlacedAt line.0 c.read_alone.result) (λ e. TextBlame zones line text e.number e.line) _ c.placed.ensures
    (λ e so. let fault = placed_where (KindFault (time_kind line.1) text) line.0 _ e so c.read_alone.ensures.fault in inl (fault.1, λ object. alone_fault object line.1 text e.number named fault.0))
