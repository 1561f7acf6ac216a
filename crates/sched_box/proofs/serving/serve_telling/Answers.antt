use Rattle.std.proofs.lemmas.Result.{err_from_is_err_and}
use Rattle.profile.specs.streams.Streams.{new_box}
use Rattle.sched_devices.proofs.InputLemmas.{for_each, for_nothing}
use Rattle.sched_box.specs.Config.{config_hosts}
use Rattle.sched_box.proofs.ServingLemmas.{filled_none, serves_from, serves_none, tells_from}
use Rattle.sched_box.proofs.serving.serve_telling.Goals as goal

pub returns-in_err-books-clause-serves : goal.returns-in_err-books-clause-serves
returns-in_err-books-clause-serves g c =
    let p = err_from_is_err_and c.from_residual.result c.from_residual.ensures.1 in
    rw p.1 (serves_none c.args.now (new_box (config_hosts c.args.config.now)) (g.R.Input.remaining c.args.reader.now) (g.W.Output.contents c.args.writer.now) p.0 p.2)

pub returns-clause-serves : goal.returns-clause-serves
returns-clause-serves g c =
    serves_from c.args.now (new_box (config_hosts c.args.config.now)) _ _ c.serve_objects.result
    (c.serve_objects.ensures.serves (new_box (config_hosts c.args.config.now)) c.in_ok-books.ensures.kept)

pub returns-in_err-books-clause-fills : goal.returns-in_err-books-clause-fills
returns-in_err-books-clause-fills g c = filled_none 2 _ _

pub returns-clause-tells : goal.returns-clause-tells
returns-clause-tells g c =
    let before = new_box (config_hosts c.args.config.now) in
    tells_from g.J.Journal.tells _ _ c.args.now before c.serve_objects.new.books _ c.serve_objects.result (c.serve_objects.ensures.tells before c.in_ok-books.ensures.kept)

pub returns-in_err-books-clause-taken : goal.returns-in_err-books-clause-taken
returns-in_err-books-clause-taken g c =
    let p = err_from_is_err_and c.from_residual.result c.from_residual.ensures.1 in
    rw p.1 (for_nothing _ _ _ _ _ _ (g.met.R.Input.takes_nothing c.args.reader.now) (λ left. serves_none c.args.now (new_box (config_hosts c.args.config.now)) left (g.W.Output.contents c.args.writer.now) p.0 p.2))

pub returns-clause-taken : goal.returns-clause-taken
returns-clause-taken g c =
    let before = new_box (config_hosts c.args.config.now) in
    for_each _ _ _ _ _ _ _ c.serve_objects.ensures.taken (λ input left h. serves_from c.args.now before _ _ c.serve_objects.result (h.serves before c.in_ok-books.ensures.kept))

pub returns-in_err-books-clause-taken_told : goal.returns-in_err-books-clause-taken_told
returns-in_err-books-clause-taken_told g c =
    let p = err_from_is_err_and c.from_residual.result c.from_residual.ensures.1 in
    rw p.1 (for_nothing _ _ _ _ _ _ (g.met.R.Input.takes_nothing c.args.reader.now) (λ left. tt))

pub returns-clause-taken_told : goal.returns-clause-taken_told
returns-clause-taken_told g c =
    let before = new_box (config_hosts c.args.config.now) in
    for_each _ _ _ _ _ _ _ c.serve_objects.ensures.taken (λ input left h. tells_from g.J.Journal.tells _ _ c.args.now before c.serve_objects.new.books _ c.serve_objects.result (h.tells before c.in_ok-books.ensures.kept))
