use Rattle.std.proofs.Common.{Bool, ℤ, sym, subst, rules}
use Rattle.std.proofs.lemmas.Result.{err_from_is_err_and}
use Rattle.profile.specs.streams.Streams.{Config, IsPreamble}
use Rattle.sched_devices.proofs.InputLemmas.{known_of}
use Rattle.sched_box.specs.Config.{config_hosts}
use Rattle.sched_box.specs.declared.fault.ServeFault.TheVariants.{Memory}
use Rattle.sched_box.specs.declared.fault.StreamFault.TheVariants.{Refused, Serve}
use Rattle.sched_box.proofs.PreambleLemmas.{any_nothing, any_opened, nothing_refuses, nothing_stops, opened, opens_not, refused_is, stops_after}
use Rattle.sched_box.proofs.preamble.read_preamble.Goals as goal

-- ---- of the octets that were taken

pub returns-in_err-octets-clause-taken_not : goal.returns-in_err-octets-clause-taken_not
returns-in_err-octets-clause-taken_not g c =
    let p = err_from_is_err_and c.from_residual.result c.from_residual.ensures.1 in
    rw (p.1, p.2) c.in_err-octets.ensures.stops

pub returns-in-Ok-clause-taken : goal.returns-in-Ok-clause-taken
returns-in-Ok-clause-taken g c =
    let same = c.as_slice.ensures.value in
    let (closed, says) = c.in-Ok.ensures.reads in
    let all = c.in_ok-octets.ensures.takes in
    record {
      taken = _;
      takes = all.0;
      holds = λ left follows. opened _ _ _ c.in-Ok.read.1 (config_hosts c.in-Ok.read.0) (all.1 left follows) closed (subst (λ o. IsPreamble closed o c.in-Ok.read.1 (config_hosts c.in-Ok.read.0)) same says);
    }

pub returns-in-Err-Refused-clause-taken_not : goal.returns-in-Err-Refused-clause-taken_not
returns-in-Err-Refused-clause-taken_not g c =
    let same = c.as_slice.ensures.value in
    let none = refused_is ((closed : Bool) (moment : ℤ) (hosts : Config) → IsPreamble closed c.as_slice.result.now moment hosts → ⊥) _ c.in-Err-Refused.refusal (search rules) c.in-Err-Refused.ensures.none in
    let all = c.in_ok-octets.ensures.takes in
    record {
      taken = _;
      takes = all.0;
      holds = λ left follows. (
        opens_not _ _ _ (all.1 left follows) (λ closed moment hosts says. none closed moment hosts (subst (λ o. IsPreamble closed o moment hosts) (sym same) says)),
        stops_after _ _ _ (all.1 left follows),
      );
    }

pub returns-clause-taken_not : goal.returns-clause-taken_not
returns-clause-taken_not g c =
    let all = c.in_ok-octets.ensures.takes in
    record { taken = _; takes = all.0; holds = λ left follows. stops_after _ _ _ (all.1 left follows) }

-- ---- of those that are known

pub returns-in-Ok-clause-opens : goal.returns-in-Ok-clause-opens
returns-in-Ok-clause-opens g c = known_of _ _ _ g.R.Input.remaining _ _ _ g.met.R.Input.known_follows g.met.R.Input.takes_known (returns-in-Ok-clause-taken g c) (λ left h. any_opened _ _ left h)

pub returns-in_err-octets-clause-none : goal.returns-in_err-octets-clause-none
returns-in_err-octets-clause-none g c =
    let p = err_from_is_err_and c.from_residual.result c.from_residual.ensures.1 in
    rw (p.1, p.2) (nothing_refuses _ _ _ (known_of _ _ _ g.R.Input.remaining _ _ _ g.met.R.Input.known_follows g.met.R.Input.takes_known c.in_err-octets.ensures.stops (λ left h. any_nothing _ left h)))

pub returns-in_err-octets-clause-stops : goal.returns-in_err-octets-clause-stops
returns-in_err-octets-clause-stops g c =
    let p = err_from_is_err_and c.from_residual.result c.from_residual.ensures.1 in
    rw p.1 (nothing_stops _ _ _ (known_of _ _ _ g.R.Input.remaining _ _ _ g.met.R.Input.known_follows g.met.R.Input.takes_known c.in_err-octets.ensures.stops (λ left h. any_nothing _ left h)))

pub returns-in-Err-Refused-clause-none : goal.returns-in-Err-Refused-clause-none
returns-in-Err-Refused-clause-none g c =
    (known_of _ _ _ g.R.Input.remaining _ _ _ g.met.R.Input.known_follows g.met.R.Input.takes_known (returns-in-Err-Refused-clause-taken_not g c) (λ left h. any_nothing (Refused c.in-Err-Refused.refusal) left h)).0

pub returns-in-Err-Refused-clause-stops : goal.returns-in-Err-Refused-clause-stops
returns-in-Err-Refused-clause-stops g c =
    (known_of _ _ _ g.R.Input.remaining _ _ _ g.met.R.Input.known_follows g.met.R.Input.takes_known (returns-in-Err-Refused-clause-taken_not g c) (λ left h. any_nothing (Refused c.in-Err-Refused.refusal) left h)).1

pub returns-clause-stops : goal.returns-clause-stops
returns-clause-stops g c = known_of _ _ _ g.R.Input.remaining _ _ _ g.met.R.Input.known_follows g.met.R.Input.takes_known (returns-clause-taken_not g c) (λ left h. any_nothing (Serve Memory) left h)
