-- What holds in each world that a schedule leads to, by the invariant of such worlds.
use Rattle.profile.specs.streams.Streams.{addresses}
use Rattle.sched_laws.proofs.law_lemmas.Booked.{seen_is_booked}
use Rattle.sched_laws.proofs.law_lemmas.Playing.{plays_sound}
use Rattle.sched_laws.proofs.law_lemmas.ShownInstances.{kept_texts_hold, kept_texts_spell_all, shown_is_clear, shown_is_confirmed}
use Rattle.sched_laws.proofs.law_lemmas.ShownSpelled.{texts_are_spelled}
use Rattle.sched_laws.proofs.law.schedules_hold.Goals as goal

pub returns-clause-booked : goal.returns-clause-booked
returns-clause-booked c rooms organisers steps world zoned plays =
    seen_is_booked c.laws_below.ensures (addresses rooms) organisers world (plays_sound c.laws_below.ensures rooms organisers steps world zoned plays)

pub returns-clause-confirmed : goal.returns-clause-confirmed
returns-clause-confirmed c rooms organisers steps world zoned plays =
    shown_is_confirmed c.laws_below.ensures (addresses rooms) organisers world (plays_sound c.laws_below.ensures rooms organisers steps world zoned plays)

pub returns-clause-read : goal.returns-clause-read
returns-clause-read c rooms organisers steps world zoned plays =
    texts_are_spelled c.laws_below.ensures (addresses rooms) organisers world (plays_sound c.laws_below.ensures rooms organisers steps world zoned plays)

pub returns-clause-clear : goal.returns-clause-clear
returns-clause-clear c rooms organisers steps world zoned plays =
    shown_is_clear c.laws_below.ensures (addresses rooms) organisers world (plays_sound c.laws_below.ensures rooms organisers steps world zoned plays)

pub returns-clause-spells : goal.returns-clause-spells
returns-clause-spells c rooms organisers steps world zoned plays =
    kept_texts_spell_all c.laws_below.ensures (addresses rooms) organisers world (plays_sound c.laws_below.ensures rooms organisers steps world zoned plays)

pub returns-clause-kept : goal.returns-clause-kept
returns-clause-kept c rooms organisers steps world zoned plays =
    kept_texts_hold c.laws_below.ensures (addresses rooms) organisers world (plays_sound c.laws_below.ensures rooms organisers steps world zoned plays)
