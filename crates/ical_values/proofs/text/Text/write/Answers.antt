use Rattle.std.proofs.Common.{◌≡◌, ◌∙◌, sym, rules}
use borrow.Author.Tests.{tests}
use Rattle.std.specs.List.{list_any}
use Rattle.std.proofs.lemmas.Iterator.{YieldsList-from_slice}
use Rattle.std.proofs.lemmas.Iterator.Search.{any_from_yields_List}
use Rattle.ical_values.specs.Escaped.{is_escaped}
use Rattle.ical_values.specs.Octets.{text_octets}
use Rattle.ical_values.proofs.EscapedText.{plain_written}
use Rattle.ical_values.proofs.text.Text.write.Goals as goal

pub returns-clause-ok : goal.returns-clause-ok
returns-clause-ok c =
    let octets = c.as_bytes-octets.result.now in
    let some : c.any-has_escaped.result ≡ list_any is_escaped octets =
    any_from_yields_List is_escaped c.any-has_escaped.new.self _ c.any-has_escaped.result c.any-has_escaped.ensures.ran (YieldsList-from_slice octets (cc)) (λ x b q k. search (rules, tests)) in
    plain_written c.extend_from_slice.result c.args.out.now.items c.extend_from_slice.new.self.items octets (text_octets c.args.self.now) c.as_bytes-octets.ensures.value (sym some ∙ c.if-has_escaped.false) c.extend_from_slice.ensures.items
