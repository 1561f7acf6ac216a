use Rattle.std.proofs.Common.{rules, ◌≡◌, to_z, of_z, w32, w64, to_z-of_z}
use Rattle.cal_doors.proofs.condition.Condition.holds.Goals as goal

pub returns-in-Still : goal.returns-in-Still
returns-in-Still c =
    let k = c.in-Still.c in
    let instant : to_z w64 (of_z w64 k.instant) ≡ k.instant = to_z-of_z {w = w64} (search rules) in
    let sets : to_z w32 (of_z w32 k.sets) ≡ k.sets = to_z-of_z {w = w32} (search rules) in
    rw c.in-Still.is (rw (instant, sets) at c.is_still.ensures)

pub returns-in-Latest : goal.returns-in-Latest
returns-in-Latest c =
    let k = c.in-Latest.c in
    let instant : to_z w64 (of_z w64 k.instant) ≡ k.instant = to_z-of_z {w = w64} (search rules) in
    let latest : to_z w64 (of_z w64 k.latest) ≡ k.latest = to_z-of_z {w = w64} (search rules) in
    let sets : to_z w32 (of_z w32 k.sets) ≡ k.sets = to_z-of_z {w = w32} (search rules) in
    rw c.in-Latest.is (rw (instant, latest, sets) at c.is_latest.ensures)

pub returns-in-Only : goal.returns-in-Only
returns-in-Only c =
    let k = c.in-Only.c in
    let instant : to_z w64 (of_z w64 k.instant) ≡ k.instant = to_z-of_z {w = w64} (search rules) in
    let only : to_z w64 (of_z w64 k.only) ≡ k.only = to_z-of_z {w = w64} (search rules) in
    let from : to_z w32 (of_z w32 k.offset_from) ≡ k.offset_from = to_z-of_z {w = w32} (search rules) in
    let to : to_z w32 (of_z w32 k.offset_to) ≡ k.offset_to = to_z-of_z {w = w32} (search rules) in
    rw c.in-Only.is (rw (instant, only, from, to) at c.is_only.ensures)
