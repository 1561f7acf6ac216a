use Rattle.std.proofs.Common.{◌≡◌, rules}
use borrow.Author.Tests.{tests}
use Rattle.std.specs.List.{list_all}
use Rattle.std.proofs.lemmas.Iterator.Adapters.{YieldsList-from_bytes}
use Rattle.std.proofs.lemmas.Iterator.Search.{all_from_yields_List}
use Rattle.profile.specs.text.Lines.{is_name_octet}
use Rattle.ical_lines.proofs.name.is_name.Goals as goal

pub returns-then-not-is_empty : goal.returns-then-not-is_empty
returns-then-not-is_empty c =
    let each : c.all.result ≡ list_all is_name_octet c.args.text.now = all_from_yields_List is_name_octet c.all.new.self _ c.all.result c.all.ensures.ran (YieldsList-from_bytes c.args.text.now (cc)) (λ x b q k. search (rules, tests)) in
    let filled = c.if-not-is_empty.true in
    let empty = c.is_empty.ensures in
    search (rules, tests)
