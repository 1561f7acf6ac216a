-- Of several ATTENDEE lines of one address the first counts, as they come up one after another.
-- Cited by counted_among.
use Rattle.std.proofs.Common.{◌≡◌, ◌∙◌, ℕ, Bool, true, false, not, ◌||◌, cond, List, [], ◌∷◌, ◌++◌, map, filter, take, length, get_or, ◌+◌, ◌<◌, refl, sym, ap, subst, append-nil}
use denote.Ref.{Bor}
use Rattle.std.specs.List.{list_any}
use Rattle.std.specs.Str.{bytes_eq}
use Rattle.std.proofs.lemmas.Bool.{not-true, not-false}
use Rattle.std.proofs.lemmas.List.{map-append, take_more}
use Rattle.std.proofs.lemmas.List.Elements.{filter-append}
use Rattle.std.proofs.lemmas.List.Folds.{list_any-append}
use Rattle.std.proofs.lemmas.Slice.Eq.{bytes_eq-Decides}
use Rattle.ical_values.specs.Octets.{address_octets}
use Rattle.cal_events.specs.declared.component.Attendee.{Attendee as Line}
use Rattle.cal_events.specs.Component.{attendee_of}
use Rattle.profile.specs.events.EventComponents.{Attendee}
use Rattle.itip_messages.specs.Attendees.{line_said}
use Rattle.profile.specs.events.Messages.{counted}
use Rattle.itip_messages.proofs.zones_lemmas.ZoneSets.{either_way}

-- one of the lines has this address
abbrev pub has_line : List ℕ → List Attendee → Bool
has_line address lines = list_any (λ line. bytes_eq address line.address) lines

-- one more line
counted_push : (lines : List Attendee) (line : Attendee) → counted (lines ++ line ∷ []) ≡ counted lines ++ cond (has_line line.address lines) [] (line ∷ [])
counted_push [] line = refl
counted_push (first ∷ lines) line =
    ap (λ l. first ∷ filter other l) (counted_push lines line)
    ∙ ap (λ l. first ∷ l) (filter-append other (counted lines) (cond (has_line line.address lines) [] (line ∷ [])))
    ∙ ap (λ l. first ∷ (filter other (counted lines) ++ l)) (by (has_line line.address lines) (bytes_eq line.address first.address) (either_way first.address line.address))
  where
    other : Attendee → Bool
    other o = not (bytes_eq first.address o.address)

    by : (known same : Bool) → bytes_eq first.address line.address ≡ same → filter other (cond known [] (line ∷ [])) ≡ cond (same || known) [] (line ∷ [])
    by true true e = refl
    by true false e = refl
    by false true e = ap (λ b. cond (not b) (line ∷ []) []) e
    by false false e = ap (λ b. cond (not b) (line ∷ []) []) e

pub counted_more : (lines : List Attendee) (line : Attendee) → has_line line.address lines ≡ false → counted lines ++ line ∷ [] ≡ counted (lines ++ line ∷ [])
counted_more lines line e = sym (counted_push lines line ∙ ap (λ b. counted lines ++ cond b [] (line ∷ [])) e)

pub counted_known : (lines : List Attendee) (line : Attendee) → has_line line.address lines ≡ true → counted lines ≡ counted (lines ++ line ∷ [])
counted_known lines line e = sym (counted_push lines line ∙ ap (λ b. counted lines ++ cond b [] (line ∷ [])) e ∙ append-nil (counted lines))

-- ---- a set of addresses

-- what came up so far: the lines that count, and their addresses
pub record AreCounted (lines : List Attendee) (counting : List (Bor Line)) (seen : List (Bor (List ℕ))) : Type 0 where
  pub count : map line_said counting ≡ counted lines
  pub known : (address : List ℕ) → list_any (λ key. bytes_eq address key.now) seen ≡ has_line address lines

pub none_counted : (counting : List (Bor Line)) (seen : List (Bor (List ℕ))) → counting ≡ [] → seen ≡ [] → AreCounted [] counting seen
none_counted counting seen e f = record { count = ap (map line_said) e; known = λ address. ap (list_any (λ key. bytes_eq address key.now)) f }

module _ (lines : List Attendee) (line : Line) (counting : List (Bor Line)) (old new : List (Bor (List ℕ))) (key : Bor (List ℕ)) (h : AreCounted lines counting old) (is : key.now ≡ address_octets line.address)
    (put : new ≡ cond (list_any (λ other. bytes_eq key.now other.now) old) old (old ++ key ∷ [])) where
  abbrev said : Attendee
  said = attendee_of line

  there : list_any (λ other. bytes_eq key.now other.now) old ≡ has_line said.address lines
  there = h.known key.now ∙ ap (λ a. has_line a lines) is

  there_already : has_line said.address lines ≡ true → (address : List ℕ) (b : Bool) → bytes_eq address said.address ≡ b → has_line address lines ≡ (has_line address lines || (b || false))
  there_already e address false s = by (has_line address lines)
    where
      by : (a : Bool) → a ≡ (a || false)
      by true = refl
      by false = refl
  there_already e address true s =
      let a : has_line address lines ≡ true = subst (λ z. has_line z lines ≡ true) (sym ((bytes_eq-Decides address said.address).0 s)) e in
      a ∙ sym (ap (λ b. b || true) a)

  known_more : (address : List ℕ) → list_any (λ other. bytes_eq address other.now) new ≡ has_line address (lines ++ said ∷ [])
  known_more address =
      ap (list_any (λ other. bytes_eq address other.now)) put
      ∙ by (list_any (λ other. bytes_eq key.now other.now) old) there
      ∙ sym (list_any-append (λ l. bytes_eq address l.address) lines (said ∷ []))
    where
      by : (b : Bool) → b ≡ has_line said.address lines → list_any (λ other. bytes_eq address other.now) (cond b old (old ++ key ∷ [])) ≡ (has_line address lines || (bytes_eq address said.address || false))
      by false e = list_any-append (λ other. bytes_eq address other.now) old (key ∷ []) ∙ (λ i. h.known address i || (bytes_eq address (is i) || false))
      by true e = h.known address ∙ there_already (sym e) address (bytes_eq address said.address) refl

  pub line_counts : (more : List (Bor Line)) (pushed : Bor Line) → pushed.now ≡ line → not (list_any (λ other. bytes_eq key.now other.now) old) ≡ true → more ≡ counting ++ pushed ∷ [] → AreCounted (lines ++ attendee_of line ∷ []) more new
  line_counts more pushed it fresh e = record {
    count = ap (map line_said) e ∙ map-append line_said counting (pushed ∷ []) ∙ (λ i. h.count i ++ attendee_of (it i) ∷ []) ∙ counted_more lines said (sym there ∙ not-true _ fresh);
    known = known_more;
  }

  pub line_known : not (list_any (λ other. bytes_eq key.now other.now) old) ≡ false → AreCounted (lines ++ attendee_of line ∷ []) counting new
  line_known stale = record { count = h.count ∙ counted_known lines said (sym there ∙ not-false _ stale); known = known_more }

pub lines_more : (lines : List Line) (k : ℕ) (line : Line) → k < length lines → line ≡ get_or lines k line → map attendee_of (take (k + 1) lines) ≡ map attendee_of (take k lines) ++ attendee_of line ∷ []
lines_more lines k line inside is =
    ap (map attendee_of) (take_more lines k line inside ∙ ap (λ x. take k lines ++ x ∷ []) (sym is)) ∙ map-append attendee_of (take k lines) (line ∷ [])
