use Rattle.std.proofs.Common.{◌≡◌, ◌∙◌, option_map}
use Rattle.std.proofs.lemmas.Result.{IfOk-weaker}
use Rattle.cal_zones.specs.Kinds.{zone_of}
use Rattle.cal_agenda.specs.Html.{html}
use Rattle.cal_agenda.specs.PageStyle.{page_style}
use Rattle.cal_agenda.specs.Pages.{page_opening}
use Rattle.cal_agenda.proofs.PageLemmas.{opening_with}
use Rattle.cal_agenda.proofs.page.opening_text.Goals as goal

pub returns : goal.returns
returns c =
    let name = c.args.name.now in
    let title : c.deref.result.now ≡ html name = c.deref.ensures.value ∙ c.in_ok-name.ensures in
    let style : c.as_bytes.result.now ≡ page_style = c.as_bytes.ensures.value in
    let heading : c.deref-2.result.now ≡ html name = c.deref-2.ensures.value ∙ c.in_ok-name.ensures in
    let words = c.as_bytes-2.ensures.value ∙ c.clock_words.ensures in
    IfOk-weaker c.joined.result (λ text. text.items ≡ opening_with c.deref.result.now c.as_bytes.result.now c.deref-2.result.now c.as_bytes-2.result.now)
    (λ text. text.items ≡ page_opening name (option_map zone_of c.args.zone)) (λ text is. is ∙ (λ i. opening_with (title i) (style i) (heading i) (words i))) c.joined.ensures
