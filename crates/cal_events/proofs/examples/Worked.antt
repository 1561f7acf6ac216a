-- The definitions at worked examples.
use Rattle.std.proofs.Common.{◌≡◌, ℕ, ℤ, pos, negsuc, true, false, List, refl, arith}
use Rattle.std.specs.Prelude.{codes}
use Rattle.std.proofs.lemmas.Int.{ints}
use Rattle.profile.specs.checker.Instances.{Instance, IsWithin, horizon}
use Rattle.cal_events.specs.Sweep.{holds_instant}

-- an instance of Ann's meeting in these seconds, named by its start
abbrev meeting : List ℕ → ℤ → ℤ → Instance
meeting uid start end = record { key = record { organiser = codes "mailto:ann@example.com"; uid = uid; slot = start }; start = start; end = end }

-- 2025-03-10, 09:00Z to 10:00Z and 09:30Z to 10:30Z
abbrev first : Instance
first = meeting (codes "a") (pos 1741597200) (pos 1741600800)

abbrev second : Instance
second = meeting (codes "b") (pos 1741599000) (pos 1741602600)

-- an end is in no instance: 10:00Z after 10:00Z is clear
no_end : (t : ℤ) → IsWithin (pos 1741597200) (pos 1741600800) t → IsWithin (pos 1741600800) (pos 1741602600) t → ⊥
no_end t h k = absurd (omega (arith, ints))

-- 99991231T230000Z for two hours and 99991231T233000Z for ten minutes clash at the second's start
abbrev last_hours : Instance
last_hours = meeting (codes "a") (pos 253402297200) (pos 253402304400)

abbrev last_minutes : Instance
last_minutes = meeting (codes "b") (pos 253402299000) (pos 253402299600)

-- what the sweep keeps: starts before the horizon, ends after the start, whatever the signs
kept : holds_instant (record { start = pos 253402297200; end = pos 253402304400 }) ≡ true
kept = refl

old : holds_instant (record { start = negsuc 86399; end = pos 0 }) ≡ true
old = refl

dropped : holds_instant (record { start = horizon; end = pos 253402304400 }) ≡ false
dropped = refl

empty : holds_instant (record { start = pos 1741597200; end = pos 1741597200 }) ≡ false
empty = refl
