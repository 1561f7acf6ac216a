-- Texts and lines of what an organiser writes.
-- Behind refreshes_are_heard of law, replies_are_heard of law, cancels_read_back of sent_law, requests_read_back of sent_law, shown_reads_back of sent_law, stored_texts_can_be_sent of sent_law.
use Rattle.std.proofs.Common.{◌≡◌, true, false, not, ◌&&◌, ◌||◌, cond, Bool, List, [], ◌∷◌, ℕ, ap, refl, codes, filter}
use Rattle.std.specs.List.{list_any}
use Rattle.std.specs.Str.{is_utf8}
use Rattle.std.proofs.lemmas.Bool.{and_from, and_parts}
use Rattle.profile.specs.organisers.Sent.{status_lines}
use Rattle.profile.specs.text.Lines.{ended, is_content, is_faulty, is_too_long, logical_lines, reads_as_lines}
use Rattle.ical_lines.proofs.CleanLines.{fixed}
use Rattle.itip_messages.specs.Law.{IsTextAddress}
use Rattle.itip_messages.specs.SentLaw.{IsSentAddress}
use Rattle.itip_messages.proofs.shared_lemmas.ReplyLines.{AreOwn, own_more, own_none}

pub text_of : (address : List ℕ) → IsSentAddress address → IsTextAddress address
text_of address s = record { address = s.read.address; utf8 = s.utf8 }

pub status_own : (cancelled : Bool) → AreOwn (status_lines cancelled)
status_own true = let line : is_content (codes "STATUS:CANCELLED") ≡ true = fixed (codes "STATUS:CANCELLED") refl refl refl refl in own_more (codes "STATUS:CANCELLED") [] line refl own_none
status_own false = own_none

pub none_passes : {X : Type 0} (p : X → Bool) (xs : List X) → filter p xs ≡ [] → list_any p xs ≡ false
none_passes p [] e = refl
none_passes {X = X} p (x ∷ xs) e = by (p x) (none_passes p xs) e
  where
    by : (b : Bool) → (filter p xs ≡ [] → list_any p xs ≡ false) → cond b (x ∷ filter p xs) (filter p xs) ≡ [] → b || list_any p xs ≡ false
    by true f d = cc
    by false f d = f d

-- octets that read as lines are within the limits of a message where they aren't too long
pub bounded_reads : (octets : List ℕ) → reads_as_lines false octets ≡ true → is_too_long octets ≡ false → reads_as_lines true octets ≡ true
bounded_reads octets r short =
    let both = and_parts (not (list_any is_faulty (logical_lines octets)) && is_utf8 (ended (logical_lines octets))) true r in
    and_from _ _ both.0 (ap not short)
