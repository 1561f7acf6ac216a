use Rattle.std.proofs.Common.{◌≡◌, ◌∙◌, ◌++◌, ap, to_z, of_z, w64, to_z-of_z, rules, FitsSigned}
use Rattle.profile.specs.checker.Publishing.{plain_address}
use Rattle.cal_agenda.specs.Html.{html}
use Rattle.cal_agenda.specs.Pages.{taken_line}
use Rattle.cal_agenda.proofs.page.add_taken.Goals as goal

pub returns : goal.returns
returns c =
    let i = c.args.instance.now in
    let start_fits : FitsSigned w64 i.start = search rules in
    let start : to_z w64 (of_z w64 i.start) ≡ i.start = to_z-of_z start_fits in
    let end_fits : FitsSigned w64 i.end = search rules in
    let end : to_z w64 (of_z w64 i.end) ≡ i.end = to_z-of_z end_fits in
    let line = c.in_ok-line.line.items in
    let times : c.deref.result.now ≡ c.in_ok-times.times.items = c.deref.ensures.value in
    let who : c.deref-2.result.now ≡ html (plain_address i.key.organiser.now) = c.deref-2.ensures.value ∙ c.in_ok-who.ensures ∙ ap html c.plain_address.ensures in
    let written : line ≡ taken_line c.deref.result.now c.deref-2.result.now = c.in_ok-line.ensures in (
      line,
      (c.in_ok-times.times.items, rw (start, end) at c.in_ok-times.ensures, written ∙ (λ k. taken_line (times k) (who k))),
      c.in_ok-extend_from_slice.ensures.items ∙ ap (λ t. c.args.lines.now.items ++ t) c.deref-3.ensures.value,
    )
