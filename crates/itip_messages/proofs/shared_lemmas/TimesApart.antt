-- Events of which each is for another instant name these by other times, and where the times are fixed the other way round.
-- Behind replies_are_heard, refreshes_are_heard of law, requests_read_back, shown_reads_back of sent_law.
use Rattle.std.proofs.Common.{◌≡◌, ◌≢◌, ◌∙◌, sym, ap, arith, ℕ, ◌<◌, List, map, filter, length, get_or}
use Rattle.std.specs.Prelude.{AllPairs, Contains, option_map}
use Rattle.std.proofs.lemmas.List.{get_or_default}
use Rattle.profile.specs.events.EventComponents.{EventComponent}
use Rattle.profile.specs.events.Events.{InstancesDiffer, TimesDiffer, is_override}
use Rattle.profile.specs.events.Occurrences.{Time}
use Rattle.profile.specs.events.Properties.{Fixed}
use Rattle.cal_events.proofs.shared_lemmas.InOneOrder.{mapped_pairs, of_filtered, pairs_mapped}
use Rattle.itip_messages.specs.SentLaw.{time_as}

at_place : {X : Type 0} (xs : List X) (k : ℕ) (d : X) → k < length xs → Contains xs (get_or xs k d)
at_place xs k d w = (k, w, get_or_default xs k (get_or xs k d) d w)

-- what differs by one thing differs by another, where what has one of these has one of those
differ_by : {X A B : Type 0} (f : X → A) (g : X → B) (xs : List X) → ((x y : X) → Contains xs x → Contains xs y → g x ≡ g y → f x ≡ f y) → AllPairs ◌≢◌ (map f xs) → AllPairs ◌≢◌ (map g xs)
differ_by f g xs one p =
    let apart = mapped_pairs ◌≢◌ f xs p in
    pairs_mapped ◌≢◌ g xs (λ i j d l w same. apart i j d l w (one (get_or xs i d) (get_or xs j d) (at_place xs i d (omega (arith, l, w))) (at_place xs j d w) same))

pub times_apart : (events : List EventComponent) → ((event : EventComponent) → Contains events event → event.recurrence ≡ option_map (λ time. time.instant) event.written.recurrence)
    → InstancesDiffer (filter is_override events) → TimesDiffer (filter is_override events)
times_apart events named differ =
    differ_by (λ (e : EventComponent). e.recurrence) (λ (e : EventComponent). e.written.recurrence) (filter is_override events)
    (λ a b c d same.
    named a (of_filtered is_override events a c).0 ∙ ap (option_map (λ (time : Time). time.instant)) same ∙ sym (named b (of_filtered is_override events b d).0))
    differ

pub instants_apart : (events : List EventComponent) → ((event : EventComponent) → Contains events event → event.written.recurrence ≡ option_map (time_as Fixed) event.recurrence)
    → TimesDiffer (filter is_override events) → InstancesDiffer (filter is_override events)
instants_apart events fixed differ =
    differ_by (λ (e : EventComponent). e.written.recurrence) (λ (e : EventComponent). e.recurrence) (filter is_override events)
    (λ a b c d same. fixed a (of_filtered is_override events a c).0 ∙ ap (option_map (time_as Fixed)) same ∙ sym (fixed b (of_filtered is_override events b d).0))
    differ
