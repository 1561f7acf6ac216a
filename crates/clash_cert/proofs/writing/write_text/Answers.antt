use Rattle.std.proofs.Common.{◌∙◌, ◌++◌, ◌∷◌, [], List, ℕ, codes, decimal, subst, ap}
use Rattle.profile.specs.checker.Certificates.{Group, spelled}
use Rattle.ical_values.specs.Written.{Appends}
use Rattle.clash_cert.specs.Texts.{claims_of_text}
use Rattle.clash_cert.specs.Reading.{SpellsGroups}
use Rattle.clash_cert.proofs.PutLemmas.{text_put}
use Rattle.clash_cert.proofs.writing.write_text.Goals as goal

pub returns-clause-ok : goal.returns-clause-ok
returns-clause-ok c =
    let out = c.args.out.now.items in
    let a = c.write_head.new.out.items in
    let b = c.write_groups.new.out.items in
    let d = c.write_pairs.new.out.items in
    text_put (claims_of_text c.args.singles c.args.series c.args.groups.now c.args.pairs.now) out a b d c.extend_from_slice.new.self.items c.requires
    (c.in_ok-write_head.ensures.ok
    ∙ ap (λ (line : List ℕ). out ++ spelled (line ∷ (codes "SINGLES " ++ decimal c.args.singles) ∷ (codes "SERIES " ++ decimal c.args.series) ∷ []) []) c.version_line.ensures)
    (subst (λ (groups : List Group). Appends a b (SpellsGroups groups)) c.listed.ensures c.in_ok-write_groups.ensures.ok) c.in_ok-write_pairs.ensures.ok c.in_ok-extend_from_slice.ensures.items
