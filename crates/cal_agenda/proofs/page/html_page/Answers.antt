use Rattle.std.proofs.Common.{◌≡◌, ◌∙◌, ◌∷◌, [], List, map, option_map, subst}
use Rattle.std.proofs.lemmas.Result.{IfOk-weaker}
use Rattle.profile.specs.series.Zones.{Zone}
use Rattle.profile.specs.events.Confirmed.{IsOneOf}
use Rattle.cal_zones.specs.Kinds.{zone_of}
use Rattle.cal_agenda.specs.Html.{joined}
use Rattle.cal_agenda.specs.Printing.{LinesOf}
use Rattle.cal_agenda.specs.PageDays.{day_said}
use Rattle.cal_agenda.specs.Pages.{AreDays, IsPage, IsSection, page_clocks, page_closing, page_opening}
use Rattle.cal_agenda.specs.declared.page_span.LocalDay.{LocalDay}
use Rattle.cal_agenda.proofs.page.html_page.Goals as goal

pub returns : goal.returns
returns c =
    let name = c.args.name.now in
    let zone = option_map zone_of c.args.zone in
    let Is = IsOneOf c.args.calendar.now in
    let from = c.args.span.start in
    let until = c.args.span.end in
    let days = map day_said c.in_ok-days.days.items in
    let sections = c.in_ok-sections.sections.items in
    let clocks = c.page_clocks-clocks.ensures in
    let are : AreDays (page_clocks zone) from until days = subst (λ (z : Zone). AreDays z from until days) clocks c.in_ok-days.ensures in
    let by_day : LinesOf (IsSection (zone_of c.page_clocks-clocks.result) Is) days sections =
    subst (λ (l : List LocalDay). LinesOf (IsSection (zone_of c.page_clocks-clocks.result) Is) (map day_said l) sections) c.deref.ensures.value c.in_ok-sections.ensures in
    let each : LinesOf (IsSection (page_clocks zone) Is) days sections = subst (λ (z : Zone). LinesOf (IsSection z Is) days sections) clocks by_day in
    let opening : c.deref-2.result.now ≡ page_opening name zone = c.deref-2.ensures.value ∙ c.in_ok-opening.ensures in
    IfOk-weaker c.joined.result (λ octets. octets.items ≡ joined (c.deref-2.result.now ∷ c.deref-3.result.now ∷ page_closing ∷ [])) (λ octets. IsPage name zone Is from until octets.items)
    (λ octets is. record { days = days; are = are; sections = sections; each = each; is = is ∙ (λ i. joined (opening i ∷ c.deref-3.ensures.value i ∷ page_closing ∷ [])) })
    c.joined.ensures
