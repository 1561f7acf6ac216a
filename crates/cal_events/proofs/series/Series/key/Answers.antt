use Rattle.std.proofs.Common.{◌≡◌, ◌∙◌, ap, subst, sym, to_z, of_z, w64, to_z-of_z}
use Rattle.std.specs.Prelude.{IfOk}
use Rattle.std.proofs.lemmas.Result.{IfOk-weaker}
use Rattle.profile.specs.checker.Instances.{Instance}
use Rattle.profile.specs.events.Starts.{IsInstance}
use Rattle.cal_events.specs.Calendar.{key_in, owned_key_of}
use Rattle.cal_events.specs.Recurrence.{name_of}
use Rattle.cal_events.specs.declared.event.Event.{Event}
use Rattle.cal_events.specs.Series.{series_said}
use Rattle.cal_events.proofs.shared_lemmas.SeriesLemmas.{key_of_start}
use Rattle.cal_events.proofs.series.Series.key.Goals as goal

pub returns : goal.returns
returns c =
    let series = c.args.self.now in
    let name = name_of series.event.value.name in
    let start = c.args.start in
    let same : to_z w64 (of_z w64 start) ≡ start = to_z-of_z c.ranges.start in
    IfOk-weaker c.owned_key.result (λ key. owned_key_of key ≡ key_in name start) (λ key. (b : Instance) → IsInstance (series_said series) b → b.start ≡ start → owned_key_of key ≡ b.key)
    (λ key is b h e. is ∙ ap (key_in name) (sym e) ∙ sym (key_of_start series.event.value series.ruled b h))
    (subst (λ (e : Event). IfOk c.owned_key.result (λ key. owned_key_of key ≡ key_in (name_of e.name) start)) c.deref.ensures (rw same at c.owned_key.ensures))
