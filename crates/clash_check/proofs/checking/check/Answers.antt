use Rattle.std.proofs.Common.{subst}
use Rattle.profile.specs.events.Confirmed.{Confirmed}
use Rattle.cal_events.specs.Calendar.{HaveDifferentKeys, HaveOwnKeys}
use Rattle.ical_values.specs.Octets.{address_octets}
use Rattle.profile.specs.Headline.{IsFree}
use Rattle.profile.specs.checker.Calendars.{CertificateHolds}
use Rattle.clash_check.proofs.VerdictLemmas.{holds_iff, refused_iff, judgement_of, no_yes, yes_says}
use Rattle.clash_check.proofs.checking.check.Goals as goal

pub returns-in-Ok-clause-yes : goal.returns-in-Ok-clause-yes
returns-in-Ok-clause-yes c =
    holds_iff c.one_calendar_text.ensures.one (address_octets c.args.room.now) c.args.calendar.now c.args.certificate.now _ c.judge_read.result c.in-Ok.ensures.spells c.judge_read.ensures.yes

pub returns-in-Err-Refused-clause-yes : goal.returns-in-Err-Refused-clause-yes
returns-in-Err-Refused-clause-yes c =
    refused_iff c.one_calendar_text.ensures.or_a_fault (address_octets c.args.room.now) c.args.calendar.now c.args.certificate.now c.in-Err-Refused.field-0-0.number c.no.result.verdict
    (rw c.in-Err-Refused.field-0-is at c.in-Err-Refused.ensures.fault) c.no.ensures.no

pub returns-in-Ok-clause-free : goal.returns-in-Ok-clause-free
returns-in-Ok-clause-free c =
    let room = address_octets c.args.room.now in
    let calendar = c.args.calendar.now in
    let certificate = c.args.certificate.now in
    yes_says (CertificateHolds room calendar certificate) (IsFree room calendar) c.judge_read.result (c.yes_means_free.ensures room calendar certificate)
    (holds_iff c.one_calendar_text.ensures.one room calendar certificate _ c.judge_read.result c.in-Ok.ensures.spells c.judge_read.ensures.yes)

pub returns-in-Err-Refused-clause-free : goal.returns-in-Err-Refused-clause-free
returns-in-Err-Refused-clause-free c = no_yes (IsFree (address_octets c.args.room.now) c.args.calendar.now) 80 0 0 c.no.result.verdict c.no.ensures.no

pub returns-in-Ok-clause-judged : goal.returns-in-Ok-clause-judged
returns-in-Ok-clause-judged c =
    judgement_of (address_octets c.args.room.now) c.args.calendar.now c.args.certificate.now c.in-Ok.calendar c.judge_read.result c.in-Ok.ensures.spells
    (subst (λ (a : Confirmed). HaveDifferentKeys a.singles) c.calendar.view_is c.calendar.invariant.0) (subst HaveOwnKeys c.calendar.view_is c.calendar.invariant.2)
    c.judge_read.ensures.verdict c.judge_read.ensures.made
