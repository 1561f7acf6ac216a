use Rattle.std.proofs.Common.{refl}
use Rattle.std.proofs.KnownBytes.{Keeps-refl}
use Rattle.std.proofs.lemmas.Result.{err_from_is_err_and}
use Rattle.ical_values.specs.Octets.{address_octets}
use Rattle.profile.specs.streams.Streams.{new_box}
use Rattle.sched_box.specs.Config.{config_hosts}
use Rattle.sched_box.specs.Faults.{IfRefusedStream}
use Rattle.sched_box.specs.declared.fault.StreamFault.{StreamFault}
use Rattle.sched_box.specs.declared.fault.StreamFault.TheVariants.{Refused, Serve}
use Rattle.sched_devices.proofs.InputLemmas.{for_each}
use Rattle.sched_box.proofs.MeetingLemmas.{hosted_still, keeps_meetings}
use Rattle.sched_box.proofs.ServingLemmas.{keeping_stopped}
use Rattle.sched_box.proofs.meetings.shown_meetings.Goals as goal

pub returns-then-not-has_organiser-clause-cause : goal.returns-then-not-has_organiser-clause-cause
returns-then-not-has_organiser-clause-cause g c = c.not_hosted.ensures.cause _ _

pub returns-then-not-has_organiser-clause-bound : goal.returns-then-not-has_organiser-clause-bound
returns-then-not-has_organiser-clause-bound g c = c.not_hosted.ensures.bound _ _

pub returns-then-not-has_organiser-clause-unhosted : goal.returns-then-not-has_organiser-clause-unhosted
returns-then-not-has_organiser-clause-unhosted g c = λ no. (c.not_hosted.ensures.refusal, Keeps-refl _)

pub returns-clause-keeps : goal.returns-clause-keeps
returns-clause-keeps g c =
    let hosts = config_hosts c.args.config.now in
    let serves = c.in_ok-serve_objects.ensures.serves (new_box hosts) c.in_ok-books.ensures.kept in
    keeps_meetings c.args.now hosts c.serve_objects.new.books _ c.in_ok-serve_objects.field-0 c.in-Some.kept.now (address_octets c.args.organiser.now) _ serves c.in-Some.ensures.found
    c.in-Some.ensures.address c.in_ok-texts.ensures

pub returns-in_err-serve_objects-clause-bound : goal.returns-in_err-serve_objects-clause-bound
returns-in_err-serve_objects-clause-bound g c =
    let hosts = config_hosts c.args.config.now in
    let p = err_from_is_err_and c.from_residual-in_err-serve_objects.result c.from_residual-in_err-serve_objects.ensures.1 in
    rw (p.1, p.2)
    (keeping_stopped c.args.now (new_box hosts) c.serve_objects.new.books (g.R.Input.remaining c.args.reader.now) (g.R.Input.remaining c.serve_objects.new.reader) _ _ _ _ (c.in_err-serve_objects.ensures.serves (new_box hosts) c.in_ok-books.ensures.kept) c.in_err-serve_objects.ensures.cause)

pub returns-in_err-texts-clause-bound : goal.returns-in_err-texts-clause-bound
returns-in_err-texts-clause-bound g c =
    let (after, kept, all) = c.in_ok-serve_objects.ensures.serves (new_box (config_hosts c.args.config.now)) c.in_ok-books.ensures.kept in
    let p = err_from_is_err_and c.from_residual-in_err-texts.result c.from_residual-in_err-texts.ensures.1 in
    rw (p.1, p.2) all.bound

refused_if : (P : Type 0) (f : StreamFault) → P → IfRefusedStream P f
refused_if P (Refused r) p = p
refused_if P (Serve fault) p = tt

pub returns-in_default-clause-bound : goal.returns-in_default-clause-bound
returns-in_default-clause-bound g c = c.not_hosted-in_default.ensures.bound _ _

pub returns-in_default-clause-none : goal.returns-in_default-clause-none
returns-in_default-clause-none g c =
    let hosts = config_hosts c.args.config.now in
    let serves = c.in_ok-serve_objects.ensures.serves (new_box hosts) c.in_ok-books.ensures.kept in
    refused_if _ c.not_hosted-in_default.result
    (λ among. c.in_default.ensures.none refl (hosted_still c.args.now hosts c.serve_objects.new.books _ c.in_ok-serve_objects.field-0 (address_octets c.args.organiser.now) serves among))

pub returns-clause-taken : goal.returns-clause-taken
returns-clause-taken g c =
    let hosts = config_hosts c.args.config.now in
    for_each _ _ _ _ _ _ _ c.in_ok-serve_objects.ensures.taken
    (λ input left h. keeps_meetings c.args.now hosts c.serve_objects.new.books _ c.in_ok-serve_objects.field-0 c.in-Some.kept.now (address_octets c.args.organiser.now) _ (h.serves (new_box hosts) c.in_ok-books.ensures.kept) c.in-Some.ensures.found
    c.in-Some.ensures.address c.in_ok-texts.ensures)
