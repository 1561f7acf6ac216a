-- Worked examples of the view.
use Rattle.std.proofs.Common.{◌≡◌, ℕ, pos, true, false, [], ◌∷◌, refl}
use Rattle.profile.specs.rooms.Revisions.{Slot, Whole, At, Body, Set, Absent, Cancelled, Part, in_view}
use Rattle.itip_order.specs.Registers.{RepresentsHistory, shown}

part : Slot → ℕ → ℕ → Body → Part
part slot sequence stamp body = record { organiser = 97 ∷ []; uid = 117 ∷ []; slot = slot; revision = record { sequence = sequence; stamp = pos stamp }; body = body }

request : Part
request = part Whole 1 900 (Set (1 ∷ []))

cancel : Part
cancel = part Whole 2 900 Cancelled

instance : Part
instance = part (At (pos 5000)) 1 950 (Set (2 ∷ []))

absent : Part
absent = part Whole 1 950 Absent

cancelled_same : Part
cancelled_same = part Whole 1 950 Cancelled

-- a later CANCEL hides the REQUEST, in both orders
cancel_after : in_view (request ∷ cancel ∷ []) request ≡ false
unfolding request cancel part
cancel_after = refl

cancel_before : in_view (cancel ∷ request ∷ []) cancel ≡ true
unfolding request cancel part
cancel_before = refl

-- of equal revisions the greater octets stay
greater_octets : in_view (part Whole 1 900 (Set (1 ∷ 9 ∷ [])) ∷ part Whole 1 900 (Set (2 ∷ [])) ∷ []) (part Whole 1 900 (Set (2 ∷ []))) ≡ true
unfolding part
greater_octets = refl

lesser_octets : in_view (part Whole 1 900 (Set (1 ∷ 9 ∷ [])) ∷ part Whole 1 900 (Set (2 ∷ [])) ∷ []) (part Whole 1 900 (Set (1 ∷ 9 ∷ []))) ≡ false
unfolding part
lesser_octets = refl

-- an instance without a Whole counts, and so it does beside an older one
alone : in_view (instance ∷ []) instance ≡ true
unfolding instance part
alone = refl

beside_older : in_view (instance ∷ request ∷ []) instance ≡ true
unfolding instance request part
beside_older = refl

-- beside a Whole of its own revision it counts where that is Absent, and not where it is Cancelled
beside_absent : in_view (instance ∷ absent ∷ request ∷ []) instance ≡ true
unfolding instance absent request part
beside_absent = refl

beside_cancelled : in_view (cancelled_same ∷ instance ∷ []) instance ≡ false
unfolding instance cancelled_same part
beside_cancelled = refl

-- a later Whole hides it
below_whole : in_view (instance ∷ cancel ∷ []) instance ≡ false
unfolding instance cancel part
below_whole = refl

-- what was never taken isn't in the view
never_taken : in_view (cancel ∷ []) request ≡ false
unfolding cancel request part
never_taken = refl

-- the registers after a REQUEST, an instance and a CANCEL: the greatest of each of the two slots
three_parts : RepresentsHistory (cancel ∷ instance ∷ []) (request ∷ instance ∷ cancel ∷ [])
unfolding cancel request instance part
three_parts = record { ascending = refl; greatest = refl; covered = refl }

-- and those that they leave in the view
only_cancel : shown (cancel ∷ instance ∷ []) ≡ cancel ∷ []
unfolding cancel instance part
only_cancel = refl
