use Rattle.std.proofs.Common.{◌≡◌, ◌∙◌, ◌∷◌, [], List, map, sym, subst, codes, to_z, of_z, w64, to_z-of_z, rules, FitsSigned}
use Rattle.std.proofs.lemmas.Result.{IfOk-weaker}
use Rattle.profile.specs.checker.Agendas.{AreInSpan}
use Rattle.profile.specs.events.Confirmed.{IsOneOf}
use Rattle.cal_zones.specs.Kinds.{zone_of}
use Rattle.cal_events.specs.Calendar.{instance_of}
use Rattle.cal_events.specs.declared.instance.Instance.{Instance}
use Rattle.cal_agenda.specs.Html.{joined}
use Rattle.cal_agenda.specs.Blocks.{woven}
use Rattle.cal_agenda.specs.PageDays.{day_said}
use Rattle.cal_agenda.specs.Pages.{IsSection, day_heading}
use Rattle.cal_agenda.proofs.BlockLemmas.{blocks_of}
use Rattle.cal_agenda.proofs.page.section_text.Goals as goal

pub returns : goal.returns
returns c =
    let day = c.args.day.now in
    let Is = IsOneOf c.args.calendar.now in
    let instances = map instance_of c.deref.result.now in
    let start_fits : FitsSigned w64 day.start = search rules in
    let start : to_z w64 (of_z w64 day.start) ≡ day.start = to_z-of_z start_fits in
    let end_fits : FitsSigned w64 day.end = search rules in
    let end : to_z w64 (of_z w64 day.end) ≡ day.end = to_z-of_z end_fits in
    let are : AreInSpan Is day.start day.end instances = subst (λ (l : List Instance). AreInSpan Is day.start day.end (map instance_of l)) (sym c.deref.ensures.value) (rw (start, end) at c.in_ok-instances.ensures) in
    let heading : c.deref-2.result.now ≡ day_heading day.index = c.deref-2.ensures.value ∙ c.in_ok-heading.ensures in
    IfOk-weaker c.joined.result (λ text. text.items ≡ joined (c.deref-2.result.now ∷ c.deref-3.result.now ∷ codes "</ol>\n</section>\n" ∷ [])) (λ text. IsSection (zone_of c.args.zone.now) Is (day_said day) text.items)
    (λ text is. record {
      blocks = woven day.start day.end instances;
      are = blocks_of Is day.start day.end instances are;
      lines = c.in_ok-lines.lines.items;
      each = c.in_ok-lines.ensures;
      is = is ∙ (λ i. joined (heading i ∷ c.deref-3.ensures.value i ∷ codes "</ol>\n</section>\n" ∷ []));
    })
    c.joined.ensures
