use Rattle.std.proofs.Common.{rules, ◌∙◌, sym, string_bytes}
use Rattle.std.proofs.lemmas.Fn.{always_returns_same}
use Rattle.profile.specs.rooms.Revisions.{octets_cmp}
use Rattle.sched_box.proofs.NameOrder.{found}
use Rattle.sched_box.proofs.folders.is_among.Goals as goal

pub returns : goal.returns
returns c =
    let facts = c.binary_search_by.ensures in
    let name = c.args.name.now in
    let by_name = facts.position (λ a. octets_cmp (string_bytes a) name) (always_returns_same _ _ _ (λ a r g called. (search rules, search rules))) in
    let f = found c.args.names.now name c.binary_search_by.result c.requires facts.bound by_name in
    (λ t. f.0 (sym c.is_ok.ensures.value ∙ t), λ among. c.is_ok.ensures.value ∙ f.1 among)
