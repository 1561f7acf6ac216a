use Rattle.std.proofs.Common.{◌≡◌, take}
use Rattle.cal_agenda.specs.Html.{html}
use Rattle.cal_agenda.proofs.html.html_text.Given as goal

-- the octets so far
abbrev pub invariant-loop-octet : goal.invariant-loop-octet
invariant-loop-octet l = l.octets.items ≡ html (take l.octet-index l.octet-items)
