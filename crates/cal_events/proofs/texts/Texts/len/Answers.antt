use Rattle.std.proofs.Common.{length, sym, ap, arith}
use Rattle.std.specs.Prelude.{string_bytes}
use Rattle.cal_events.proofs.texts_lemmas.TextLemmas.{count}
use Rattle.cal_events.proofs.texts.Texts.len.Goals as goal

pub returns : goal.returns
returns c =
    let n = count (string_bytes c.self.inside.joined) 0 c.self.inside.ends.items in
    let e = ap length (sym c.self.view_is) in
    omega (arith, c.len.ensures, c.self.inside.ends.ok.0, n, e)
