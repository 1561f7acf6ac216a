use Rattle.std.proofs.Common.{◌∙◌, [], ap}
use Rattle.ical_values.proofs.AllOrNone.{all_of_them, one_more}
use Rattle.cal_agenda.specs.Html.{html, html_octet}
use Rattle.cal_agenda.proofs.html.html_text.Goals as goal

pub loop-octet-preserved : goal.loop-octet-preserved
loop-octet-preserved c = one_more html_octet c.as_bytes-octet-items.result.now c.loop-octet.octet-index 0 [] c.loop-octet.octets.items _ c.loop-octet-test.true c.loop-octet.invariant c.in_ok-push_octet.ensures

pub returns : goal.returns
returns c = all_of_them html_octet c.as_bytes-octet-items.result.now c.loop-octet.octet-index [] _ c.loop-octet-test.false c.loop-octet.invariant ∙ ap html c.as_bytes-octet-items.ensures.value
