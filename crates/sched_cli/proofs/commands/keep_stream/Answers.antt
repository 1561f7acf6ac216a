use Rattle.ical_values.specs.Octets.{address_octets}
use Rattle.ical_values.proofs.Exits.{err_exit}
use Rattle.sched_cli.specs.Commands.{KeepsNone}
use Rattle.sched_cli.proofs.Keeping.{unopened, unkept, kept_both, kept_taken}
use Rattle.sched_cli.proofs.commands.keep_stream.Goals as goal

pub returns-in_err-config-clause-none : goal.returns-in_err-config-clause-none
returns-in_err-config-clause-none g c =
    let input = g.R.Input.remaining c.args.reader.now in
    let left = g.R.Input.remaining c.read_preamble.new.reader in
    let room = address_octets c.args.room.now in
    err_exit _ (KeepsNone input left room) _ c.from_residual.ensures.1
    (unopened input left room _ c.in_err-config.ensures.refuses c.in_err-config.ensures.faults c.in_err-config.ensures.none c.in_err-config.ensures.stops)

pub returns-clause-none : goal.returns-clause-none
returns-clause-none g c =
    unkept c.keep.result (g.R.Input.remaining c.args.reader.now) _ (g.R.Input.remaining c.keep.new.reader) (address_octets c.args.room.now) _ _
    c.in_ok-config.ensures.opens c.keep.ensures.refuses c.keep.ensures.none c.keep.ensures.bound c.keep.ensures.unhosted

pub returns-clause-keeps : goal.returns-clause-keeps
returns-clause-keeps g c =
    kept_both c.keep.result (λ k. k.0.items) (λ k. k.1.items) (g.R.Input.remaining c.args.reader.now) _ (g.R.Input.remaining c.keep.new.reader)
    (address_octets c.args.room.now) _ _ c.in_ok-config.ensures.opens c.keep.ensures.keeps c.keep.ensures.passes

pub returns-clause-taken : goal.returns-clause-taken
returns-clause-taken g c =
    kept_taken g.R.Input.takes g.R.Input.lent g.R.Input.has_ended c.args.reader.now c.read_preamble.new.reader c.keep.new.reader c.keep.result (λ k. k.0.items) (λ k. k.1.items) (address_octets c.args.room.now) _ _
    g.met.R.Input.takes_more g.met.R.Input.takes_follows c.in_ok-config.ensures.taken c.keep.ensures.taken c.keep.ensures.passes
