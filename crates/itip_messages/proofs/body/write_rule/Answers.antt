use Rattle.std.proofs.Common.{◌≡◌, ◌∙◌, ◌∷◌, ◌++◌, [], Option, Some, codes, string_bytes, refl, sym, ap, subst}
use Rattle.std.specs.Prelude.{option_copied, option_map}
use Rattle.profile.specs.series.Rules.{Rule, text_in}
use Rattle.profile.specs.series.RuleTexts.{rule_text}
use Rattle.profile.specs.events.ZonedTimes.{clock_of}
use Rattle.profile.specs.rooms.Messages.{WritesRule}
use Rattle.cal_events.specs.Component.{form_said, zone_said}
use Rattle.itip_messages.proofs.body_lemmas.BodyLemmas.{line_written}
use Rattle.itip_messages.proofs.body.write_rule.Goals as goal

pub returns : goal.returns
returns c =
    let rule = c.in-Some.rule.now in
    let start = c.args.start.now in
    let end = option_map string_bytes c.in_ok-end.end in
    let text = rule_text (text_in rule) end in
    let there : option_copied c.args.rule ≡ Some rule = ap option_copied c.in-Some.is in (
      (codes "RRULE:" ++ text) ∷ [],
      subst (λ (r : Option Rule). WritesRule (form_said start) (clock_of (zone_said start)) r ((codes "RRULE:" ++ text) ∷ [])) (sym there) (end, c.in_ok-end.ensures, refl),
      line_written c.args.body.now.items (codes "RRULE:") text _ _ _ c.in_ok-extend_from_slice.ensures.items
          (c.in_ok-write.ensures.ok ∙ ap (λ e. c.extend_from_slice.new.self.items ++ rule_text (text_in rule) e) c.as_deref.ensures.value) c.in_ok-extend_from_slice-2.ensures.items,
    )
