use Rattle.std.proofs.Common.{◌≡◌, ap, ◌∙◌, option_map, rules, slice_get, filter, codes, tests, Bool, List}
use Rattle.std.proofs.lemmas.Iterator.Consumers.{nth_from_yields_List, YieldsList-from_filter}
use Rattle.std.proofs.lemmas.Iterator.{YieldsList-from_slice}
use Rattle.profile.specs.text.Lines.{is_same_name}
use Rattle.ical_tree.specs.declared.component.Component.{Component}
use Rattle.ical_tree.specs.Tree.{component_name}
use Rattle.ical_tree.proofs.read.first_too_many.Goals as goal

pub returns-in-Message-clause-first : goal.returns-in-Message-clause-first
returns-in-Message-clause-first c =
    let named : Component → Bool = λ part. is_same_name (component_name part) (codes "VEVENT") in
    let found : option_map (λ event. event.now) c.nth.result ≡ slice_get (filter named c.children.result.now) 200 =
    nth_from_yields_List c.nth.result c.nth.new.self 200 c.nth.ensures.ran (YieldsList-from_filter _ named (YieldsList-from_slice c.children.result.now (cc)) (cc) (λ x b q k. search (rules, tests))) in
    rw c.in-Message.is (found ∙ ap (λ (parts : List Component). slice_get (filter named parts) 200) c.children.ensures)
