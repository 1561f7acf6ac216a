use Rattle.std.proofs.Common.{subst, sym}
use Rattle.std.proofs.KnownBytes.{Keeps-refl}
use Rattle.ical_values.specs.Octets.{address_octets}
use Rattle.profile.specs.checker.Calendars.{CertificateHolds}
use Rattle.profile.specs.streams.Streams.{new_box}
use Rattle.sched_box.specs.Config.{config_hosts}
use Rattle.profile.specs.rooms.Kept.{IsKeptCalendar, IsKeptCertificate}
use Rattle.std.proofs.lemmas.Result.{err_from_is_err_and}
use Rattle.sched_devices.proofs.InputLemmas.{for_each}
use Rattle.sched_box.proofs.ServingLemmas.{keeps_texts, keeping_stopped}
use Rattle.sched_box.proofs.ZoneLemmas.{in_zones}
use Rattle.sched_box.proofs.serving.keep.Goals as goal

pub returns-then-not-has_room-clause-cause : goal.returns-then-not-has_room-clause-cause
returns-then-not-has_room-clause-cause g c = c.not_hosted.ensures.cause _ _

pub returns-then-not-has_room-clause-bound : goal.returns-then-not-has_room-clause-bound
returns-then-not-has_room-clause-bound g c = c.not_hosted.ensures.bound _ _

pub returns-then-not-has_room-clause-unhosted : goal.returns-then-not-has_room-clause-unhosted
returns-then-not-has_room-clause-unhosted g c = λ no. (c.not_hosted.ensures.refusal, Keeps-refl _)

pub returns-clause-keeps : goal.returns-clause-keeps
returns-clause-keeps g c =
    let hosts = config_hosts c.args.config.now in
    let news = c.serve_objects.new.books in
    let kept = c.in-Some.kept.now in
    let serves = c.in_ok-serve_objects.ensures.serves (new_box hosts) c.in_ok-books.ensures.kept in
    let among = c.in-Some.ensures.found in
    keeps_texts c.args.now hosts news _ c.in_ok-serve_objects.field-0 kept (address_octets c.args.room.now) _ _ serves among
    c.in-Some.ensures.address c.in_ok-texts.ensures.calendar c.in_ok-texts.ensures.certificate

pub returns-clause-passes : goal.returns-clause-passes
returns-clause-passes g c =
    let k = returns-clause-keeps g c in
    let room = address_octets c.args.room.now in
    let calendar = c.in_ok-texts.texts.calendar.items in
    let certificate = c.in_ok-texts.texts.certificate.items in
    subst (λ a. CertificateHolds a calendar certificate) k.at
    (c.served_texts_pass.ensures c.args.now (config_hosts c.args.config.now) 1 k.objects k.after k.octets k.refused (in_zones c.args.config.now.rooms.items) k.answers k.kept k.has calendar
    (subst (λ a. IsKeptCalendar a k.kept.words k.kept.book calendar) (sym k.at) k.calendar_is) certificate (subst (λ a. IsKeptCertificate a calendar certificate) (sym k.at) k.certificate_is))

pub returns-in_err-serve_objects-clause-bound : goal.returns-in_err-serve_objects-clause-bound
returns-in_err-serve_objects-clause-bound g c =
    let hosts = config_hosts c.args.config.now in
    let p = err_from_is_err_and c.from_residual-in_err-serve_objects.result c.from_residual-in_err-serve_objects.ensures.1 in
    rw (p.1, p.2)
    (keeping_stopped c.args.now (new_box hosts) c.serve_objects.new.books (g.R.Input.remaining c.args.reader.now) (g.R.Input.remaining c.serve_objects.new.reader) _ _ _ _ (c.in_err-serve_objects.ensures.serves (new_box hosts) c.in_ok-books.ensures.kept) c.in_err-serve_objects.ensures.cause)

pub returns-in_err-texts-clause-bound : goal.returns-in_err-texts-clause-bound
returns-in_err-texts-clause-bound g c =
    let (after, kept, all) = c.in_ok-serve_objects.ensures.serves (new_box (config_hosts c.args.config.now)) c.in_ok-books.ensures.kept in
    let p = err_from_is_err_and c.from_residual-in_err-texts.result c.from_residual-in_err-texts.ensures.1 in
    rw (p.1, p.2) all.bound

pub returns-clause-taken : goal.returns-clause-taken
returns-clause-taken g c =
    let hosts = config_hosts c.args.config.now in
    for_each _ _ _ _ _ _ _ c.in_ok-serve_objects.ensures.taken
    (λ input left h. keeps_texts c.args.now hosts c.serve_objects.new.books _ c.in_ok-serve_objects.field-0 c.in-Some.kept.now (address_octets c.args.room.now) _ _ (h.serves (new_box hosts) c.in_ok-books.ensures.kept) c.in-Some.ensures.found c.in-Some.ensures.address
    c.in_ok-texts.ensures.calendar c.in_ok-texts.ensures.certificate)
