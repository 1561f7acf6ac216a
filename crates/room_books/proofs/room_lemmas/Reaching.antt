-- A message leads from a book that was reached to another.
-- Cited by Room::new, Room::take_claims.
use Rattle.std.proofs.Common.{ℕ, List, [], ◌∷◌, ◌++◌, inl, inr, refl, subst, Option}
use Rattle.std.proofs.lemmas.List.Elements.{Contains-append_cases}
use Rattle.profile.specs.rooms.Messages.{Outcome}
use Rattle.profile.specs.rooms.Rooms.{Book, Delivery, IsStep, Runs, empty_book}
use Rattle.profile.specs.series.Zones.{Zone}
use Rattle.profile.specs.streams.Streams.{IsDelivered, IsReached}
use Rattle.itip_order.proofs.Lists.{in_cons, none_in_nil}

-- a run, and a step after it
run_then : (before : Book) (deliveries : List Delivery) (book : Book) (delivery : Delivery) (outcome : Outcome) (after : Book) → Runs before deliveries book
    → IsStep book delivery.claims delivery.moment outcome after → Runs before (deliveries ++ delivery ∷ []) after
run_then before [] book delivery outcome after run step = (after, outcome, subst (λ (b : Book). IsStep b delivery.claims delivery.moment outcome after) run step, refl)
run_then before (d ∷ ds) book delivery outcome after run step = (run.0, run.1, run.2, run_then run.0 ds book delivery outcome after run.3 step)

pub reached_then : (room : List ℕ) (zone : Option Zone) (book : Book) (delivery : Delivery) (outcome : Outcome) (after : Book) → IsReached room zone book → IsDelivered room zone delivery
    → IsStep book delivery.claims delivery.moment outcome after → IsReached room zone after
reached_then room zone book delivery outcome after reached delivered step = record {
  deliveries = reached.deliveries ++ delivery ∷ [];
  delivered = λ d c. elim (Contains-append_cases reached.deliveries (delivery ∷ []) d c) [
    | inl old ↦ reached.delivered d old
    | inr new ↦ elim (in_cons delivery [] d new) [ inl here ↦ subst (IsDelivered room zone) here delivered | inr none ↦ absurd (none_in_nil d none) ]
  ];
  runs = run_then empty_book reached.deliveries book delivery outcome after reached.runs step;
}

-- without any message the book is empty
pub reached_empty : (room : List ℕ) (zone : Option Zone) → IsReached room zone empty_book
reached_empty room there = record { deliveries = []; delivered = λ d c. absurd (none_in_nil d c); runs = refl }
