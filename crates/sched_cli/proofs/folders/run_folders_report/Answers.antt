use Rattle.std.proofs.Common.{◌≡◌, true, Option, Result, subst}
use Rattle.profile.specs.streams.Folders.{LosesNamesAlone}
use Rattle.profile.specs.streams.Streams.{Config}
use Rattle.sched_box.specs.Boxes.{Runs}
use Rattle.sched_box.specs.declared.folders.BoxFault.{BoxFault}
use Rattle.sched_box.specs.declared.folders.BoxReport.{BoxReport}
use Rattle.sched_devices.specs.declared.output.WriteFault.{WriteFault}
use Rattle.sched_cli.specs.Running.{EndsLogged}
use Rattle.sched_cli.proofs.RunningLemmas.{device_of, done_logged, no_device_logged, runs_logged, status_logged}
use Rattle.sched_cli.proofs.folders.run_folders_report.Goals as goal

pub returns-clause-status : goal.returns-clause-status
returns-clause-status g c =
    let errors = c.run_folders_telling-status.new.errors in
    let ended = c.end_folders.new.errors in
    let Ends : Option WriteFault → Type 0 = λ f. EndsLogged f c.run_folders_telling-status.result c.end_folders.result (g.E.Output.contents errors) (g.E.Output.contents ended) (g.E.Output.may_lose errors) (g.E.Output.may_lose ended) in
    let ends = subst Ends c.fault.ensures c.end_folders.ensures in
    status_logged _ _ _ _ _ _ _ ends c.run_folders_telling-status.ensures.status

pub returns-clause-device : goal.returns-clause-device
returns-clause-device g c =
    let errors = c.run_folders_telling-status.new.errors in
    let ended = c.end_folders.new.errors in
    let Ends : Option WriteFault → Type 0 = λ f. EndsLogged f c.run_folders_telling-status.result c.end_folders.result (g.E.Output.contents errors) (g.E.Output.contents ended) (g.E.Output.may_lose errors) (g.E.Output.may_lose ended) in
    let ends = subst Ends c.fault.ensures c.end_folders.ensures in
    device_of _ _ _ _ _ _ _ _ _ ends c.run_folders_telling-status.ensures.device

pub returns-clause-told : goal.returns-clause-told
returns-clause-told g c = λ no.
    let errors = c.run_folders_telling-status.new.errors in
    let ended = c.end_folders.new.errors in
    let Ends : Option WriteFault → Type 0 = λ f. EndsLogged f c.run_folders_telling-status.result c.end_folders.result (g.E.Output.contents errors) (g.E.Output.contents ended) (g.E.Output.may_lose errors) (g.E.Output.may_lose ended) in
    let ends = subst Ends c.fault.ensures c.end_folders.ensures in
    c.run_folders_telling-status.ensures.told (no_device_logged _ _ _ _ _ _ _ ends no)

pub returns-clause-whole : goal.returns-clause-whole
returns-clause-whole g c = λ done.
    let errors = c.run_folders_telling-status.new.errors in
    let ended = c.end_folders.new.errors in
    let Ends : Option WriteFault → Type 0 = λ f. EndsLogged f c.run_folders_telling-status.result c.end_folders.result (g.E.Output.contents errors) (g.E.Output.contents ended) (g.E.Output.may_lose errors) (g.E.Output.may_lose ended) in
    let ends = subst Ends c.fault.ensures c.end_folders.ensures in
    (done_logged _ _ _ _ _ _ _ ends done).0

pub returns-clause-runs : goal.returns-clause-runs
returns-clause-runs g c =
    let errors = c.run_folders_telling-status.new.errors in
    let ended = c.end_folders.new.errors in
    let Ends : Option WriteFault → Type 0 = λ f. EndsLogged f c.run_folders_telling-status.result c.end_folders.result (g.E.Output.contents errors) (g.E.Output.contents ended) (g.E.Output.may_lose errors) (g.E.Output.may_lose ended) in
    let ends = subst Ends c.fault.ensures c.end_folders.ensures in
    let old = c.args.outbox.now in
    let new = c.run_folders_telling-status.new.outbox in
    let inbox = c.run_folders_telling-status.new.inbox in
    let MayEnd : Config → Result BoxReport BoxFault → Type 0 = λ hosts result.
    g.I.Folder.is_known c.args.inbox.now ≡ true → g.O.Folder.is_known old ≡ true → LosesNamesAlone (g.O.Folder.image old) (g.O.Folder.may_leave old)
    → Runs (g.I.Folder.image c.args.inbox.now) hosts (record { start = g.O.Folder.image old; now = g.O.Folder.image new; first = g.O.Folder.moment old; last = g.O.Folder.moment new })
    (g.O.Folder.may_leave old) (g.O.Folder.may_leave new) (g.O.Folder.left_since new) result in
    runs_logged _ c.run_folders_telling-status.result c.end_folders.result c.args.config.now MayEnd (g.E.Output.contents c.args.errors.now) (g.E.Output.contents errors) (g.E.Output.contents ended) (g.E.Output.may_lose errors) (g.E.Output.may_lose ended)
    (inbox ≡ c.args.inbox.now) (new ≡ old) c.run_folders_telling-status.ensures.runs ends

pub returns-clause-tells : goal.returns-clause-tells
returns-clause-tells g c = λ done.
    let errors = c.run_folders_telling-status.new.errors in
    let ended = c.end_folders.new.errors in
    let Ends : Option WriteFault → Type 0 = λ f. EndsLogged f c.run_folders_telling-status.result c.end_folders.result (g.E.Output.contents errors) (g.E.Output.contents ended) (g.E.Output.may_lose errors) (g.E.Output.may_lose ended) in
    let ends = subst Ends c.fault.ensures c.end_folders.ensures in
    c.run_folders_telling-status.ensures.tells (done_logged _ _ _ _ _ _ _ ends done).1
