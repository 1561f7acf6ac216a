use Rattle.clash_cert.specs.Texts.{entry_said}
use Rattle.clash_cert.proofs.TextLemmas.{none_exit}
use Rattle.clash_cert.proofs.Words.{no_names, no_lf, no_words, pair_there}
use Rattle.clash_cert.proofs.reading.read_pair.Goals as goal

pub returns-in_err-rest : goal.returns-in_err-rest
returns-in_err-rest c = none_exit _ _ _ c.from_residual.ensures (no_names c.args.i c.args.j c.args.bytes.now c.in_err-rest.ensures)

pub returns-in_err-words : goal.returns-in_err-words
returns-in_err-words c =
    none_exit _ _ _ c.from_residual-in_err-words.ensures (no_lf c.args.i c.args.j c.args.bytes.now c.in_ok-rest.rest.now c.in_ok-rest.ensures c.in_err-words.ensures)

pub returns-in_err-entry : goal.returns-in_err-entry
returns-in_err-entry c =
    none_exit _ _ _ c.from_residual-in_err-entry.ensures
    (no_words c.args.i c.args.j c.args.bytes.now c.in_ok-rest.rest.now c.in_ok-rest.ensures c.in_ok-words.words.now c.in_ok-words.rest.now c.in_ok-words.ensures c.in_err-entry.ensures)

pub returns : goal.returns
returns c =
    pair_there c.args.i c.args.j c.args.bytes.now c.in_ok-rest.rest.now c.in_ok-rest.ensures c.in_ok-words.words.now c.in_ok-words.rest.now (entry_said c.in_ok-entry.entry) c.in_ok-words.ensures
    c.in_ok-entry.ensures.0 c.in_ok-entry.ensures.1
