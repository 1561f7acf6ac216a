use Rattle.cal_zones.proofs.Reading.{fault_exit}
use Rattle.std.proofs.Common.{ℕ, ◌≡◌}
use Rattle.profile.specs.series.Zones as zones
use Rattle.profile.specs.series.ZoneTexts.{YearRule}
use Rattle.profile.specs.series.RoomZones.{WritesHourMinute}
use Rattle.cal_zones.specs.RoomWords.{WritesYear, BeginsBy}
use Rattle.cal_zones.proofs.RoomReads.{onset_read}
use Rattle.cal_zones.proofs.room_zone.read_onset.Goals as goal

pub returns-in_err-rule-clause-fault : goal.returns-in_err-rule-clause-fault
returns-in_err-rule-clause-fault c =
    fault_exit _ (λ n. (n ≡ 44) × ((o : zones.Observance) → BeginsBy c.args.month.now c.args.day.now c.args.time.now c.args.from c.args.to o → ⊥))
    (λ n. (n ≡ 44) × ((each : YearRule) → WritesYear c.args.month.now c.args.day.now each → ⊥)) _ (λ n q. (q.0, λ o b. q.1 b.each b.writes)) c.from_residual.ensures.1 c.in_err-rule.ensures.fault

pub returns-in_err-start-clause-fault : goal.returns-in_err-start-clause-fault
returns-in_err-start-clause-fault c =
    fault_exit _ (λ n. (n ≡ 44) × ((o : zones.Observance) → BeginsBy c.args.month.now c.args.day.now c.args.time.now c.args.from c.args.to o → ⊥))
    (λ n. (n ≡ 44) × ((second : ℕ) → WritesHourMinute c.args.time.now second → ⊥)) _ (λ n q. (q.0, λ o b. q.1 o.second b.writes_time)) c.from_residual-in_err-start.ensures.1 c.in_err-start.ensures.fault

pub returns-clause-reads : goal.returns-clause-reads
returns-clause-reads c =
    onset_read c.new.result c.in_ok-rule.rule c.args.from c.args.to c.in_ok-start.start c.args.month.now c.args.day.now c.args.time.now c.new.ensures.rule c.new.ensures.start c.new.ensures.from c.new.ensures.to
    c.in_ok-rule.ensures.reads c.in_ok-start.ensures.reads
