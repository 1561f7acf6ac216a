-- Lines that are written one after another.
-- Cited by write_in_zone of body_text, write_lines of body_text, write_revision of event_lines, write_attendees of meeting_text.
use Rattle.std.proofs.Common.{◌≡◌, ◌∙◌, ℕ, List, [], ◌∷◌, ◌++◌, refl, sym, ap, codes, append_assoc, append-nil}
use Rattle.std.specs.Prelude.{decimal}
use Rattle.std.specs.List.{flat_map}
use Rattle.std.proofs.lemmas.Grind.{flat_map-append}
use Rattle.ical_values.specs.Written.{Appends}
use Rattle.profile.specs.text.Lines.{written, folded}
use Rattle.profile.specs.rooms.Revisions.{Revision}
use Rattle.profile.specs.organisers.Sent.{TellsRevision}
use Rattle.itip_messages.proofs.shared_lemmas.LineLemmas.{one_line}
use Rattle.itip_messages.specs.Reply.{IsWrittenStampLine, WritesLines}

-- one more element
pub flat_push : {X Y : Type 0} (f : X → List Y) (xs : List X) (x : X) → flat_map f (xs ++ x ∷ []) ≡ flat_map f xs ++ f x
flat_push f xs x = flat_map-append f xs (x ∷ []) ∙ ap (λ l. flat_map f xs ++ l) (append-nil (f x))

pub one_written : (old new line : List ℕ) (left rest : List (List ℕ)) (all : List ℕ) → new ≡ old ++ folded line → left ≡ line ∷ rest → old ++ written left ≡ all → new ++ written rest ≡ all
one_written old new line left rest all is more h =
    ap (λ o. o ++ written rest) is ∙ append_assoc old (folded line) (written rest) ∙ ap (λ l. old ++ written l) (sym more) ∙ h

pub push_lines : (old now new : List ℕ) (xs ys : List (List ℕ)) → now ≡ old ++ written xs → new ≡ now ++ written ys → new ≡ old ++ written (xs ++ ys)
push_lines old now new xs ys h k = k ∙ ap (λ o. o ++ written ys) h ∙ append_assoc old (written xs) (written ys) ∙ ap (λ l. old ++ l) (sym (flat_map-append folded xs ys))

pub push_line : (old now new line : List ℕ) (xs : List (List ℕ)) → now ≡ old ++ written xs → new ≡ now ++ folded line → new ≡ old ++ written (xs ++ line ∷ [])
push_line old now new line xs h k = push_lines old now new xs (line ∷ []) h (k ∙ ap (λ l. now ++ l) (sym (append-nil (folded line))))

pub no_lines : (old : List ℕ) → old ≡ old ++ written []
no_lines old = sym (append-nil old)

-- SEQUENCE and DTSTAMP
pub revision_written : (revision : Revision) (old now new : List ℕ) → now ≡ old ++ folded (codes "SEQUENCE:" ++ decimal revision.sequence) → Appends now new (IsWrittenStampLine (codes "DTSTAMP:") revision.stamp)
    → WritesLines old new (TellsRevision revision)
revision_written revision old now new h a =
    let stamp = a.1.0 in
    let first = codes "SEQUENCE:" ++ decimal revision.sequence in (
      first ∷ (codes "DTSTAMP:" ++ stamp) ∷ [],
      record { stamp = stamp; tells = a.1.1; is = refl },
      push_line old now new (codes "DTSTAMP:" ++ stamp) (first ∷ []) (one_line old now first h) (a.2 ∙ ap (λ l. now ++ l) a.1.2),
    )
