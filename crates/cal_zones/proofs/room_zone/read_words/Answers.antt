use Rattle.std.proofs.Common.{◌≡◌, refl, arith, ℤ, length}
use Rattle.profile.specs.text.Values.{WritesOffset}
use Rattle.profile.specs.series.Zones as zones
use Rattle.profile.specs.series.RoomZones.{IsNoRoomZone}
use Rattle.cal_zones.specs.RoomWords.{AreWords}
use Rattle.cal_zones.proofs.Reading.{weaker_fault}
use Rattle.cal_zones.proofs.RoomReads.{one_there, eight_many, find_eight, one_ok, eight_ok}
use Rattle.cal_zones.proofs.room_zone.read_words.Goals as goal

pub returns-then-len-eq1-clause-words : goal.returns-then-len-eq1-clause-words
returns-then-len-eq1-clause-words c =
    one_ok c.read_one.result c.args.words.now (λ z h. one_there c.in_ok-parts.parts.items c.args.words.now z c.in_ok-parts.ensures (omega (arith, c.len.ensures, c.if-len-eq1.true)) h) c.read_one.ensures.words

pub returns-then-len-eq1-clause-fault : goal.returns-then-len-eq1-clause-fault
returns-then-len-eq1-clause-fault c =
    weaker_fault c.read_one.result (λ n. (n ≡ 44) × ((offset : ℤ) → WritesOffset c.args.words.now offset → ⊥)) (λ n. (n ≡ 44) × IsNoRoomZone c.args.words.now)
    (λ n q. (q.0, λ z h. let o = one_there c.in_ok-parts.parts.items c.args.words.now z c.in_ok-parts.ensures (omega (arith, c.len.ensures, c.if-len-eq1.true)) h in q.1 o.0 o.1)) c.read_one.ensures.fault

pub returns-then-len-ne8-clause-fault : goal.returns-then-len-ne8-clause-fault
returns-then-len-ne8-clause-fault c = (
  refl,
  λ z h.
      let n = eight_many c.in_ok-parts.parts.items c.args.words.now z c.in_ok-parts.ensures (λ (one : length c.in_ok-parts.parts.items ≡ 1). absurd (omega (arith, c.len.ensures, one, c.if-len-eq1.false))) h in
      absurd (omega (arith, c.len-2.ensures, c.if-len-ne8.true, n)),
)

pub returns-clause-words : goal.returns-clause-words
returns-clause-words c =
    eight_ok c.read_two.result c.args.words.now c.index.result.now.now c.index-2.result.now.now c.index-3.result.now.now c.index-4.result.now.now c.index-5.result.now.now c.index-6.result.now.now c.index-7.result.now.now c.index-8.result.now.now
    (λ z h. find_eight c.in_ok-parts.parts.items c.args.words.now z c.index.result.now c.index-2.result.now c.index-3.result.now c.index-4.result.now c.index-5.result.now c.index-6.result.now c.index-7.result.now c.index-8.result.now c.in_ok-parts.ensures (λ (one : length c.in_ok-parts.parts.items ≡ 1). absurd (omega (arith, c.len.ensures, one, c.if-len-eq1.false))) c.index.ensures c.index-2.ensures c.index-3.ensures c.index-4.ensures c.index-5.ensures c.index-6.ensures c.index-7.ensures c.index-8.ensures h) c.read_two.ensures.words

pub returns-clause-fault : goal.returns-clause-fault
returns-clause-fault c =
    weaker_fault c.read_two.result (λ n. (n ≡ 44) × ((z : zones.Zone) → AreWords c.index.result.now.now c.index-2.result.now.now c.index-3.result.now.now c.index-4.result.now.now c.index-5.result.now.now c.index-6.result.now.now c.index-7.result.now.now c.index-8.result.now.now z → ⊥)) (λ n. (n ≡ 44) × IsNoRoomZone c.args.words.now)
    (λ n q. (q.0, λ z h. let f = find_eight c.in_ok-parts.parts.items c.args.words.now z c.index.result.now c.index-2.result.now c.index-3.result.now c.index-4.result.now c.index-5.result.now c.index-6.result.now c.index-7.result.now c.index-8.result.now c.in_ok-parts.ensures (λ (one : length c.in_ok-parts.parts.items ≡ 1). absurd (omega (arith, c.len.ensures, one, c.if-len-eq1.false))) c.index.ensures c.index-2.ensures c.index-3.ensures c.index-4.ensures c.index-5.ensures c.index-6.ensures c.index-7.ensures c.index-8.ensures h in q.1 f.0 f.1.are)) c.read_two.ensures.fault
