use Rattle.std.proofs.Common.{ap, sym}
use Rattle.std.proofs.lemmas.Result.{err_from_is_err_and}
use Rattle.cal_events.specs.Component.{method_said}
use Rattle.profile.specs.events.EventComponents as events
use Rattle.sched_box.specs.Answering.{octets_each}
use Rattle.sched_box.proofs.OrganiserLemmas.{refresh_takes, refused_by, reply_takes, store_takes}
use Rattle.sched_box.proofs.SettingLemmas.{if_refused}
use Rattle.sched_box.proofs.organisers.take_object.Goals as goal

pub returns-in_err-sent-in-Store-clause-fault : goal.returns-in_err-sent-in-Store-clause-fault
returns-in_err-sent-in-Store-clause-fault c =
    let p = err_from_is_err_and c.from_residual.result c.from_residual.ensures.1 in
    rw (p.1, p.2) (refused_by events.Store c.args.object.now c.args.organiser.now c.in_err-sent-in-Store.field-0.0 (ap method_said (sym c.in-Store.ensures)) c.in_err-sent-in-Store.ensures.fault)

pub returns-in_err-take_reply-in-Reply-clause-fault : goal.returns-in_err-take_reply-in-Reply-clause-fault
returns-in_err-take_reply-in-Reply-clause-fault c =
    let p = err_from_is_err_and c.from_residual-in_err-take_reply-in-Reply.result c.from_residual-in_err-take_reply-in-Reply.ensures.1 in
    rw (p.1, p.2) (refused_by events.Reply c.args.object.now c.args.organiser.now c.in_err-take_reply-in-Reply.field-0.0 (ap method_said (sym c.in-Reply.ensures)) c.in_err-take_reply-in-Reply.ensures.fault)

pub returns-in_err-octets-in-Refresh-clause-fault : goal.returns-in_err-octets-in-Refresh-clause-fault
returns-in_err-octets-in-Refresh-clause-fault c =
    let p = err_from_is_err_and c.from_residual-in_err-octets-in-Refresh.result c.from_residual-in_err-octets-in-Refresh.ensures.1 in
    rw (p.1, p.2) (refused_by events.Refresh c.args.object.now c.args.organiser.now c.in_err-octets-in-Refresh.field-0.0 (ap method_said (sym c.in-Refresh.ensures)) c.in_err-octets-in-Refresh.ensures.fault)

pub returns-in_err-sent-in-Store-clause-keeps : goal.returns-in_err-sent-in-Store-clause-keeps
returns-in_err-sent-in-Store-clause-keeps c =
    let p = err_from_is_err_and c.from_residual.result c.from_residual.ensures.1 in
    rw (p.1, p.2) (if_refused _ c.in_err-sent-in-Store.field-0.0 c.in_err-sent-in-Store.ensures.err)

pub returns-in_err-take_reply-in-Reply-clause-keeps : goal.returns-in_err-take_reply-in-Reply-clause-keeps
returns-in_err-take_reply-in-Reply-clause-keeps c =
    let p = err_from_is_err_and c.from_residual-in_err-take_reply-in-Reply.result c.from_residual-in_err-take_reply-in-Reply.ensures.1 in
    rw (p.1, p.2) (if_refused _ c.in_err-take_reply-in-Reply.field-0.0 c.in_err-take_reply-in-Reply.ensures.err)

pub returns-in_err-octets-in-Refresh-clause-keeps : goal.returns-in_err-octets-in-Refresh-clause-keeps
returns-in_err-octets-in-Refresh-clause-keeps c =
    let p = err_from_is_err_and c.from_residual-in_err-octets-in-Refresh.result c.from_residual-in_err-octets-in-Refresh.ensures.1 in
    rw (p.1, p.2) (if_refused _ c.in_err-octets-in-Refresh.field-0.0 (λ book keeps. keeps))

pub returns-in_ok-objects_of-in-Store-clause-takes : goal.returns-in_ok-objects_of-in-Store-clause-takes
returns-in_ok-objects_of-in-Store-clause-takes c =
    store_takes c.args.now c.args.object.now c.args.organiser.now c.store.new.self c.in_ok-sent-in-Store.sent.items (octets_each c.in_ok-objects_of-in-Store.field-0.items)
    (ap method_said (sym c.in-Store.ensures)) c.in_ok-sent-in-Store.ensures.steps c.in_ok-objects_of-in-Store.ensures

pub returns-in_ok-take_reply-in-Reply-clause-takes : goal.returns-in_ok-take_reply-in-Reply-clause-takes
returns-in_ok-take_reply-in-Reply-clause-takes c =
    reply_takes c.args.now c.args.object.now c.args.organiser.now c.take_reply.new.self (octets_each c.new.result.items)
    (ap method_said (sym c.in-Reply.ensures)) c.in_ok-take_reply-in-Reply.ensures.steps (ap octets_each c.new.ensures.items)

pub returns-in_ok-only-in-Refresh-clause-takes : goal.returns-in_ok-only-in-Refresh-clause-takes
returns-in_ok-only-in-Refresh-clause-takes c =
    refresh_takes c.args.now c.args.object.now c.args.organiser.now c.in_ok-octets-in-Refresh.octets.items (octets_each c.in_ok-only-in-Refresh.field-0.items)
    (ap method_said (sym c.in-Refresh.ensures)) c.in_ok-octets-in-Refresh.ensures.steps c.in_ok-only-in-Refresh.ensures
