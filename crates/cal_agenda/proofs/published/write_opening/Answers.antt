use Rattle.std.proofs.Common.{◌≡◌, ◌∙◌, ◌++◌, ap, codes}
use Rattle.profile.specs.text.Lines.{folded}
use Rattle.profile.specs.text.Values.{escaped}
use Rattle.cal_agenda.proofs.PublishLemmas.{five_lines}
use Rattle.cal_agenda.proofs.published.write_opening.Goals as goal

pub returns : goal.returns
returns c =
    let name = escaped c.args.name.now in
    let first : c.as_str.result.now ≡ name = c.as_str.ensures.value ∙ c.in_ok-name.ensures in
    let second : c.as_str-2.result.now ≡ name = c.as_str-2.ensures.value ∙ c.in_ok-name.ensures in
    five_lines c.args.out.now.items _ _ _ _ _ (folded (codes "BEGIN:VCALENDAR")) (folded (codes "VERSION:2.0")) (folded (codes "PRODID:-//iTIP room box//EN")) (folded (codes "NAME:" ++ name))
    (folded (codes "X-WR-CALNAME:" ++ name)) c.in_ok-write_line.ensures.written c.in_ok-write_line-2.ensures.written c.in_ok-write_line-3.ensures.written
    (c.in_ok-write_pieces.ensures.written ∙ ap (λ t. c.write_line-3.new.out.items ++ folded (codes "NAME:" ++ t)) first)
    (c.in_ok-write_pieces-2.ensures.written ∙ ap (λ t. c.write_pieces.new.out.items ++ folded (codes "X-WR-CALNAME:" ++ t)) second)
