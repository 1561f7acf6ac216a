use denote.Text.{Utf8}
use denote.Shadow.{shadow}
use Rattle.std.proofs.Common.{length}
use Rattle.sched_box.proofs.SettingLemmas.{Sofar}
use Rattle.sched_box.proofs.settings.Settings.read.Given as goal

abbrev pub invariant-loop-line : goal.invariant-loop-line
invariant-loop-line l = shadow (Utf8 l.rest) × Sofar l.fn.text l.rest l.settings

abbrev pub decreases-loop-line : goal.decreases-loop-line
decreases-loop-line l = length l.rest
