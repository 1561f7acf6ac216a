use Rattle.std.proofs.Common.{◌∙◌, ◌++◌, [], ap, refl, sym, subst, map}
use Rattle.profile.specs.events.Confirmed.{IsOneOf}
use Rattle.cal_zones.specs.Kinds.{zone_of}
use Rattle.cal_agenda.specs.PageDays.{day_said}
use Rattle.cal_agenda.specs.Pages.{IsSection}
use Rattle.cal_agenda.specs.Printing.{LinesOf}
use Rattle.cal_agenda.specs.declared.page_span.LocalDay.{LocalDay}
use Rattle.cal_agenda.proofs.LineLemmas.{next_line, all_lines}
use Rattle.cal_agenda.proofs.page.sections_text.Goals as goal

pub loop-day-init : goal.loop-day-init
loop-day-init c = ([], refl, c.new-text.ensures.items)

pub loop-day-preserved : goal.loop-day-preserved
loop-day-preserved c =
    let Section = IsSection (zone_of c.args.zone.now) (IsOneOf c.args.calendar.now) in
    let section = c.in_ok-section.section.items in
    next_line Section day_said c.args.days.now c.loop-day.day-index c.day-item.result [] c.loop-day.text.items c.extend_from_slice.new.self.items section c.loop-day-test.true
    (subst (λ (d : LocalDay). Section (day_said d) section) c.day-item.is c.in_ok-section.ensures)
    (c.in_ok-extend_from_slice.ensures.items ∙ ap (λ t. c.loop-day.text.items ++ t) c.deref.ensures.value) c.loop-day.invariant

pub returns : goal.returns
returns c =
    let Section = IsSection (zone_of c.args.zone.now) (IsOneOf c.args.calendar.now) in
    let (text, are, e) = all_lines Section day_said c.args.days.now c.loop-day.day-index [] c.loop-day.text.items c.loop-day-test.false c.loop-day.invariant in
    subst (LinesOf Section (map day_said c.args.days.now)) (sym e) are
