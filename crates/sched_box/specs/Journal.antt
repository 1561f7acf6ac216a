-- What the code says of what became of an object.
use Rattle.std.specs.Prelude.{◌≡◌, ◌++◌, ◌∷◌, ◌&&◌, Bool, not, if◌then◌else◌, [], List, map}
use Rattle.std.specs.List.{list_any}
use Rattle.profile.specs.rooms.Rooms.{Kind}
use Rattle.profile.specs.streams.Reports as reports
use Rattle.profile.specs.streams.Reports.{fate_of, is_change, is_repeat, is_stale}
use Rattle.room_books.specs.Taking.{kind_view}
use Rattle.sched_box.specs.declared.journal.Became.{Became}
use Rattle.sched_box.specs.declared.journal.Effects.{Effects}
use Rattle.sched_box.specs.declared.journal.Fate.{Fate}
use Rattle.sched_box.specs.declared.journal.Fate.TheVariants.{Refused, Unreached, Stale, Repeated, CancelsNothing, Taken}

abbrev pub fate_said : Fate → reports.Fate
fate_said (Refused refusal) = reports.Refused refusal.number
fate_said Unreached = reports.Unreached
fate_said Stale = reports.Stale
fate_said Repeated = reports.Repeated
fate_said CancelsNothing = reports.CancelsNothing
fate_said Taken = reports.Taken

-- what became of a message in one room, and whether it decided nothing and freed it of an instance
pub record InRoom : Type 0 where
  pub kind : Kind
  pub frees : Bool

abbrev pub in_room_said : Became → InRoom
in_room_said became = record { kind = kind_view became.kind; frees = became.frees }

abbrev pub kinds_of : List InRoom → List Kind
kinds_of all = map (λ one. one.kind) all

-- these became of a message in some rooms
pub record AreEffects (all : List InRoom) (effects : Effects) : Type 0 where
  pub changed : effects.changed ≡ list_any is_change (kinds_of all)
  pub repeated : effects.repeated ≡ list_any is_repeat (kinds_of all)
  pub stale : effects.stale ≡ list_any is_stale (kinds_of all)
  pub frees : effects.frees ≡ list_any (λ one. one.frees) all

-- what became of it in one room more was added
abbrev pub AddsEffect : Effects → InRoom → Effects → Type 0
AddsEffect before one after = (all : List InRoom) → AreEffects all before → AreEffects (all ++ one ∷ []) after

-- what became of a message, which is a CANCEL or none
abbrev pub fate_in : Bool → List InRoom → reports.Fate
fate_in is_cancel all =
    if list_any is_change (kinds_of all) && (is_cancel && not (list_any (λ one. one.frees) all)) then reports.CancelsNothing else fate_of (kinds_of all)
