use Rattle.std.proofs.Common.{◌≡◌, rules}
use borrow.Author.Tests.{tests}
use Rattle.std.specs.List.{list_all}
use Rattle.std.proofs.lemmas.Iterator.{YieldsList-from_slice}
use Rattle.std.proofs.lemmas.Iterator.Search.{all_from_yields_List}
use Rattle.profile.specs.text.Values.{is_path_octet}
use Rattle.ical_values.proofs.address.is_path.Goals as goal

pub returns-then-not-is_empty : goal.returns-then-not-is_empty
returns-then-not-is_empty c =
    let each : c.all.result ≡ list_all is_path_octet c.args.octets.now =
    all_from_yields_List is_path_octet c.all.new.self _ c.all.result c.all.ensures.ran (YieldsList-from_slice c.args.octets.now (cc)) (λ x b q k. search (rules, tests)) in
    let filled = c.if-not-is_empty.true in
    let empty = c.is_empty.ensures in
    search (rules, tests)
