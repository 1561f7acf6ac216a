use Rattle.std.proofs.Common.{◌++◌, ◌∷◌, [], codes, decimal, refl}
use Rattle.clash_cert.proofs.PutLemmas.{pair_put}
use Rattle.clash_cert.proofs.writing.write_pair.Goals as goal

pub returns-clause-ok : goal.returns-clause-ok
returns-clause-ok c =
    let w = c.in_ok-write_entry.ensures.ok in
    let line = codes "PAIR " ++ (decimal c.args.pair.now.first ++ (codes " " ++ (decimal c.args.pair.now.second ++ (codes " " ++ w.0)))) in (
      line ++ 10 ∷ [],
      (line, (w.0, w.1, refl), refl),
      pair_put (decimal c.args.pair.now.first) (decimal c.args.pair.now.second) w.0 c.args.out.now.items c.write_number.new.out.items c.write_number-2.new.out.items c.write_entry.new.out.items c.extend_from_slice.new.self.items
          c.in_ok-write_number.ensures.ok c.in_ok-write_number-2.ensures.ok w.2 c.in_ok-extend_from_slice.ensures.items,
    )
