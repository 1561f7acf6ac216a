-- A line that doesn't begin so stays.
use Rattle.std.proofs.Common.{◌≡◌, ◌++◌, codes, sym, subst}
use Rattle.std.specs.Result.{OnOk}
use Rattle.profile.specs.text.Lines.{folded}
use Rattle.itip_messages.proofs.body_text_lemmas.NamedLines.{other_line}
use Rattle.itip_messages.proofs.body_text.write_named.Goals as goal

pub returns-in-None-clause-ok : goal.returns-in-None-clause-ok
returns-in-None-clause-ok c =
    subst (λ l. OnOk c.line.result (c.line.new.self ≡ c.args.object.now ++ folded l)) (sym (other_line (codes "DTSTART;TZID=Z") c.args.start.now c.args.line.now c.in-None.ensures.cases))
    c.line.ensures.ok
