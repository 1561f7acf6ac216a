use Rattle.std.proofs.Common.{◌↔◌, ◌∙◌, List, ℕ, Contains, IsTrue, map, not, string_bytes, subst}
use Rattle.sched_box.specs.Running.{answers_name}
use Rattle.sched_box.proofs.TellingLemmas.{file_told, not_among}
use Rattle.sched_box.proofs.folders.compare_file.Goals as goal

pub returns-clause-tells : goal.returns-clause-tells
returns-clause-tells g c = λ known.
    let theirs = map string_bytes c.args.theirs.now in
    let stands = c.is_among-is_there.result in
    let P : List ℕ → Type 0 = λ name. IsTrue stands ↔ Contains theirs name in
    let there = subst P (c.as_str.ensures.value ∙ c.in_ok-name.ensures) c.is_among-is_there.ensures in
    file_told g.J.Journal.begins g.J.Journal.tells (g.I.Folder.image c.args.inbox.now) theirs c.args.journal.now c.begin.new.self c.answers_of.new.journal c.args.file.now c.args.books.now c.answers_of.new.books (not stands) c.name.result.now c.in_ok-octets.octets.items
    c.name.ensures c.begin.ensures (not_among stands (Contains theirs (answers_name c.args.file.now)) there) (c.in_ok-octets.ensures.tells known)
