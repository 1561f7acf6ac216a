use Rattle.std.proofs.Common.{◌≡◌, ◌∙◌, ◌++◌, List, ℕ, ◌<ℤ◌, ap, to_z, of_z, w64, to_z-of_z, arith}
use Rattle.std.proofs.lemmas.Int.{ints}
use Rattle.profile.specs.checker.Agendas.{Block, Free}
use Rattle.cal_zones.specs.Kinds.{zone_of}
use Rattle.cal_agenda.specs.PageDays.{day_said}
use Rattle.cal_agenda.specs.Pages.{IsBlockLine, free_line}
use Rattle.cal_agenda.specs.Printing.{LinesOf}
use Rattle.cal_agenda.proofs.BlockLemmas.{free_cases}
use Rattle.cal_agenda.proofs.PageLemmas.{one_line}
use Rattle.cal_agenda.proofs.page.add_free.Goals as goal

pub returns : goal.returns
returns c =
    let IsLine = IsBlockLine (zone_of c.args.zone.now) (day_said c.args.day.now) in
    let start : to_z w64 (of_z w64 c.args.start) ≡ c.args.start = to_z-of_z c.ranges.start in
    let end : to_z w64 (of_z w64 c.args.end) ≡ c.args.end = to_z-of_z c.ranges.end in
    let late = rw (start, end) at c.if-start-end.false in
    let some : c.args.start <ℤ c.args.end = grind (arith, ints, late) in
    let line = c.in_ok-line.line.items in
    let written : line ≡ free_line c.deref.result.now = c.in_ok-line.ensures in
    let is : IsLine (Free c.args.start c.args.end) line = (c.in_ok-times.times.items, rw (start, end) at c.in_ok-times.ensures, written ∙ ap free_line c.deref.ensures.value) in
    let grown = c.in_ok-extend_from_slice.ensures.items ∙ ap (λ t. c.args.lines.now.items ++ t) c.deref-2.ensures.value in
    free_cases (λ (l : List Block). (x : List ℕ) × LinesOf IsLine l x × (c.extend_from_slice.new.self.items ≡ c.args.lines.now.items ++ x)) c.args.start c.args.end
    (λ _. (line, one_line IsLine (Free c.args.start c.args.end) line is, grown))
    (λ none. absurd (omega (arith, ints, some, none)))
