use Rattle.std.proofs.Common.{◌≡◌, ◌∙◌, ◌++◌, ◌∷◌, List, filter, codes, Option, refl, sym, ap, subst}
use Rattle.std.specs.Prelude.{map}
use Rattle.profile.specs.text.Values.{duration_text}
use Rattle.profile.specs.events.Occurrences.{Time}
use Rattle.profile.specs.events.ZonedTimes.{clock_of}
use Rattle.profile.specs.rooms.Messages.{WritesListed, may_take}
use Rattle.profile.specs.series.Rules.{Rule}
use Rattle.cal_events.specs.Component.{form_said, time_of, zone_said}
use Rattle.itip_messages.specs.Body.{AppendsRule, AreShowable}
use Rattle.itip_messages.proofs.body_lemmas.BodyLemmas.{body_written}
use Rattle.itip_messages.proofs.body.canonical_body.Goals as goal

pub write_rule-requires : goal.write_rule-requires
write_rule-requires c said is = c.requires.ends said (sym c.as_ref.ensures.value ∙ is)

pub write_listed-requires : goal.write_listed-requires
write_listed-requires c = subst AreShowable (sym (ap (map time_of) c.deref.ensures.value)) c.requires.added

pub write_listed-requires-2 : goal.write_listed-requires-2
write_listed-requires-2 c =
    subst AreShowable (sym (ap (map time_of) c.deref-3.ensures.value ∙ c.in_ok-exceptions.ensures ∙ ap (λ l. filter may_take (map time_of l)) c.deref-2.ensures.value)) c.requires.taken

pub returns : goal.returns
returns c =
    let length = c.args.event.now.times.length in
    let when = c.args.event.now.times.start in
    let start = c.in_ok-write_start.ensures in
    let adds = c.in_ok-write_listed.ensures in
    let takes = c.in_ok-write_listed-2.ensures in
    let recurs : AppendsRule (form_said when) (clock_of (zone_said when)) c.args.event.now.rule c.write_duration.new.body.items c.write_rule.new.body.items =
    subst (λ (r : Option Rule). AppendsRule (form_said when) (clock_of (zone_said when)) r c.write_duration.new.body.items c.write_rule.new.body.items) c.as_ref.ensures.value c.in_ok-write_rule.ensures in
    let zone = c.in_ok-write_zone.ensures in
    let added : map time_of c.deref.result.now ≡ map time_of c.args.event.now.written.additions.items = ap (map time_of) c.deref.ensures.value in
    let taken : map time_of c.deref-3.result.now ≡ filter may_take (map time_of c.args.event.now.written.exceptions.items) =
    ap (map time_of) c.deref-3.ensures.value ∙ c.in_ok-exceptions.ensures ∙ ap (λ l. filter may_take (map time_of l)) c.deref-2.ensures.value in
    let duration = codes "DURATION:" ++ duration_text length.days length.seconds in
    record {
      content = record { lines = start.0 ∷ duration ∷ (recurs.0 ++ (adds.0 ++ takes.0)); zone = zone.0 };
      when = record {
        start = start.0;
        starts = start.1;
        rule = recurs.0;
        recurs = recurs.1;
        additions = adds.0;
        adds = subst (λ (l : List Time). WritesListed (codes "RDATE") l adds.0) added adds.1;
        exceptions = takes.0;
        takes = subst (λ (l : List Time). WritesListed (codes "EXDATE") l takes.0) taken takes.1;
        are = refl;
        in_zone = zone.1;
      };
      is = body_written start.0 duration recurs.0 adds.0 takes.0 _ _ _ _ _ _ _ _ c.new-body.ensures.items start.2 c.in_ok-write_duration.ensures recurs.2 adds.2 takes.2 zone.2;
    }
