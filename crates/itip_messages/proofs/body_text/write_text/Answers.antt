-- The lines of the octets, where they are text.
use Rattle.std.proofs.Common.{◌∙◌, ◌++◌, ℕ, Option, Some, sym, ap, subst}
use Rattle.std.specs.Str.Lines.{lines}
use Rattle.std.proofs.lemmas.Result.{on_ok_weaker}
use Rattle.profile.specs.text.Lines.{written}
use Rattle.itip_messages.specs.BodyText.{WritesText, name_of, named_lines}
use Rattle.itip_messages.proofs.body_text_lemmas.NamedLines.{no_text, plain_written, text_written}
use Rattle.itip_messages.proofs.body_text.write_text.Goals as goal

pub returns-in_default-clause-ok : goal.returns-in_default-clause-ok
returns-in_default-clause-ok c = no_text c.args.number c.args.octets.now c.args.object.now c.in_default.ensures.cases.0

pub returns-in-Some-clause-ok : goal.returns-in-Some-clause-ok
returns-in-Some-clause-ok c =
    on_ok_weaker c.write_in_zone.result (λ is.
    subst (λ (n : Option ℕ). WritesText n c.args.octets.now c.args.object.now c.write_in_zone.new.object) (sym c.in-Some.is)
    (text_written (Some c.in-Some.number) c.args.octets.now c.args.object.now c.write_in_zone.new.object
    (is ∙ ap (λ octets. c.args.object.now ++ written (named_lines (name_of (Some c.in-Some.number)) (lines octets))) c.in-Ok.ensures.cases.0)))
    c.write_in_zone.ensures.ok

pub returns-in-None-clause-ok : goal.returns-in-None-clause-ok
returns-in-None-clause-ok c =
    on_ok_weaker c.write_lines.result (λ is.
    subst (λ (n : Option ℕ). WritesText n c.args.octets.now c.args.object.now c.write_lines.new.object) (sym c.in-None.is)
    (plain_written c.args.octets.now c.args.object.now c.write_lines.new.object (is ∙ ap (λ octets. c.args.object.now ++ written (lines octets)) c.in-Ok.ensures.cases.0)))
    c.write_lines.ensures.ok
