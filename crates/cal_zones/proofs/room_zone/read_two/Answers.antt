use Rattle.std.proofs.Common.{ℤ, ◌≡◌}
use Rattle.profile.specs.text.Values.{WritesOffset}
use Rattle.profile.specs.series.Zones as zones
use Rattle.cal_zones.specs.RoomWords.{BeginsBy, AreWords, GoTogether}
use Rattle.cal_zones.proofs.Reading.{fault_exit, weaker_fault}
use Rattle.cal_zones.proofs.RoomReads.{first_begins, second_begins, two_said, two_go, ok_said}
use Rattle.cal_zones.proofs.room_zone.read_two.Goals as goal

pub returns-in_err-standard-clause-fault : goal.returns-in_err-standard-clause-fault
returns-in_err-standard-clause-fault c =
    fault_exit _ (λ n. (n ≡ 44) × ((z : zones.Zone) → AreWords c.args.s.now c.args.d.now c.args.m1.now c.args.d1.now c.args.t1.now c.args.m2.now c.args.d2.now c.args.t2.now z → ⊥))
    (λ n. (n ≡ 44) × ((offset : ℤ) → WritesOffset c.args.s.now offset → ⊥)) _ (λ n q. (q.0, λ z w. q.1 w.standard w.writes_standard)) c.from_residual.ensures.1 c.in_err-standard.ensures.fault

pub returns-in_err-daylight-clause-fault : goal.returns-in_err-daylight-clause-fault
returns-in_err-daylight-clause-fault c =
    fault_exit _ (λ n. (n ≡ 44) × ((z : zones.Zone) → AreWords c.args.s.now c.args.d.now c.args.m1.now c.args.d1.now c.args.t1.now c.args.m2.now c.args.d2.now c.args.t2.now z → ⊥))
    (λ n. (n ≡ 44) × ((offset : ℤ) → WritesOffset c.args.d.now offset → ⊥)) _ (λ n q. (q.0, λ z w. q.1 w.daylight w.writes_daylight)) c.from_residual-in_err-daylight.ensures.1 c.in_err-daylight.ensures.fault

pub returns-in_err-first-clause-fault : goal.returns-in_err-first-clause-fault
returns-in_err-first-clause-fault c =
    fault_exit _ (λ n. (n ≡ 44) × ((z : zones.Zone) → AreWords c.args.s.now c.args.d.now c.args.m1.now c.args.d1.now c.args.t1.now c.args.m2.now c.args.d2.now c.args.t2.now z → ⊥))
    (λ n. (n ≡ 44) × ((o : zones.Observance) → BeginsBy c.args.m1.now c.args.d1.now c.args.t1.now c.in_ok-daylight.daylight c.in_ok-standard.standard o → ⊥)) _
    (λ n q. (q.0, λ z w. q.1 w.a (first_begins c.args.s.now c.args.d.now c.args.m1.now c.args.d1.now c.args.t1.now c.args.m2.now c.args.d2.now c.args.t2.now (c.in_ok-standard.standard) (c.in_ok-daylight.daylight) c.in_ok-standard.ensures.reads c.in_ok-daylight.ensures.reads z w))) c.from_residual-in_err-first.ensures.1 c.in_err-first.ensures.fault

pub returns-in_err-second-clause-fault : goal.returns-in_err-second-clause-fault
returns-in_err-second-clause-fault c =
    fault_exit _ (λ n. (n ≡ 44) × ((z : zones.Zone) → AreWords c.args.s.now c.args.d.now c.args.m1.now c.args.d1.now c.args.t1.now c.args.m2.now c.args.d2.now c.args.t2.now z → ⊥))
    (λ n. (n ≡ 44) × ((o : zones.Observance) → BeginsBy c.args.m2.now c.args.d2.now c.args.t2.now c.in_ok-standard.standard c.in_ok-daylight.daylight o → ⊥)) _
    (λ n q. (q.0, λ z w. q.1 w.b (second_begins c.args.s.now c.args.d.now c.args.m1.now c.args.d1.now c.args.t1.now c.args.m2.now c.args.d2.now c.args.t2.now (c.in_ok-standard.standard) (c.in_ok-daylight.daylight) c.in_ok-standard.ensures.reads c.in_ok-daylight.ensures.reads z w))) c.from_residual-in_err-second.ensures.1 c.in_err-second.ensures.fault

pub returns-clause-words : goal.returns-clause-words
returns-clause-words c =
    ok_said c.joined.result _ _ (λ z w. two_said c.args.s.now c.args.d.now c.args.m1.now c.args.d1.now c.args.t1.now c.args.m2.now c.args.d2.now c.args.t2.now (c.in_ok-standard.standard) (c.in_ok-daylight.daylight) c.in_ok-standard.ensures.reads c.in_ok-daylight.ensures.reads c.in_ok-first.first c.in_ok-second.second c.in_ok-first.ensures.to c.in_ok-second.ensures.to c.in_ok-first.ensures.reads c.in_ok-second.ensures.reads z w) c.joined.ensures.words

pub returns-clause-fault : goal.returns-clause-fault
returns-clause-fault c =
    weaker_fault c.joined.result (λ n. (n ≡ 44) × (GoTogether c.in_ok-first.first c.in_ok-second.second → ⊥)) (λ n. (n ≡ 44) × ((z : zones.Zone) → AreWords c.args.s.now c.args.d.now c.args.m1.now c.args.d1.now c.args.t1.now c.args.m2.now c.args.d2.now c.args.t2.now z → ⊥))
    (λ n q. (q.0, λ z w. q.1 (two_go c.args.s.now c.args.d.now c.args.m1.now c.args.d1.now c.args.t1.now c.args.m2.now c.args.d2.now c.args.t2.now (c.in_ok-standard.standard) (c.in_ok-daylight.daylight) c.in_ok-standard.ensures.reads c.in_ok-daylight.ensures.reads c.in_ok-first.first c.in_ok-second.second c.in_ok-first.ensures.to c.in_ok-second.ensures.to c.in_ok-first.ensures.reads c.in_ok-second.ensures.reads c.in_ok-first.ensures.rule c.in_ok-second.ensures.rule z w))) c.joined.ensures.fault
