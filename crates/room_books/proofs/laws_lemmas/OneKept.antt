-- A book that messages lead to has one kept calendar.
-- Behind one_kept_calendar of laws.
use Rattle.std.proofs.Common.{◌≡◌, ◌≢◌, ◌∙◌, ℕ, ℤ, zero, suc, true, not, List, [], ◌∷◌, ◌++◌, get_or, map, codes, decimal, Option, Some, None, refl, sym, ap, subst}
use Rattle.std.specs.Prelude.{slice_get}
use Rattle.std.specs.declared.cmp.Ordering.TheVariants.{Less, Equal}
use Rattle.std.specs.List.{Contains, flat_map, AllZip}
use Rattle.std.specs.Str.{bytes_eq}
use Rattle.std.proofs.lemmas.Bool.{true≢false}
use Rattle.std.proofs.lemmas.Cmp.{tied_itself}
use Rattle.std.proofs.lemmas.Option.{same_Some, slice_get_within, get_or_from_slice_get}
use Rattle.std.proofs.lemmas.Slice.Eq.{bytes_eq-Decides}
use Rattle.profile.specs.text.Lines.{written}
use Rattle.profile.specs.text.Values.{WritesStamp, escaped}
use Rattle.profile.specs.events.Properties.{Form, Fixed, Floating, WholeDay, BothOrNeither}
use Rattle.profile.specs.events.EventComponents.{EventComponent}
use Rattle.profile.specs.events.ZonedTimes.{EventTimes}
use Rattle.profile.specs.series.Zones.{Zone}
use Rattle.profile.specs.rooms.Messages.{Content, IsContent, IsZoneRest, StartsIn, TellsSlot, opening_lines}
use Rattle.profile.specs.rooms.Revisions.{Part, Slot, Whole, At, slot_cmp}
use Rattle.profile.specs.rooms.Rooms.{Claim, Book, is_set}
use Rattle.profile.specs.rooms.Kept.{KeptComponent, Shown, Hidden, part_kept, IsKeptComponent, AreKept, AreKeptOf, HidesSlot, IsEventOf, IsKeptCalendar, IsKeptEvent, IsNamed, each_once, first_parts, kept_zone_name, renamed, room_zone_lines, zone_kept, zone_texts, zones_kept}
use Rattle.profile.specs.streams.Streams.{IsReached}
use Rattle.cal_events.proofs.shared_lemmas.InOneOrder.{one_order}
use Rattle.itip_order.proofs.Lists.{in_head, in_tail, filter_at}
use Rattle.itip_order.proofs.Order.{slot_total}
use Rattle.itip_messages.proofs.body_lemmas.ZonePlaces.{named_lines}
use Rattle.room_books.specs.Room.{Pairwise}
use Rattle.room_books.proofs.shared_lemmas.Pairs.{pairs_filter}
use Rattle.room_books.proofs.laws_lemmas.KeptAnswers.{IsAskedFor, set_body}
use Rattle.room_books.proofs.laws_lemmas.KeptEntries.{entry_placed}
use Rattle.room_books.proofs.laws_lemmas.KeptRuns.{KeepsAll, runs_keep}

abbrev Lines : Type 0
Lines = List (List ℕ)

-- a stamp is written in one way
abbrev pub OneForm : Type 0
OneForm = (x y : List ℕ) (a : ℤ) → WritesStamp x a → WritesStamp y a → x ≡ y

-- ---- its entries

not_before : (o : Slot) → slot_cmp o o ≡ Less → ⊥
not_before o l = let x : Less ≡ Equal = sym l ∙ tied_itself slot_total o in cc

of_meeting : (book : Book) (first : Part) (xs ys : List KeptComponent) → AreKeptOf book first xs → AreKeptOf book first ys → xs ≡ ys
of_meeting book first xs ys h k =
    one_order (λ a b. slot_cmp (part_kept a).slot (part_kept b).slot ≡ Less) (λ e. not_before (part_kept e).slot)
    (λ a b c. slot_total.trans (part_kept a).slot (part_kept b).slot (part_kept c).slot) xs ys h.order k.order
    (λ e c. (k.exact e).1 ((h.exact e).0 c)) (λ e c. (h.exact e).1 ((k.exact e).0 c))

of_meetings : (book : Book) (firsts : List Part) (xs ys : List (List KeptComponent)) → AllZip (AreKeptOf book) firsts xs → AllZip (AreKeptOf book) firsts ys → xs ≡ ys
of_meetings book [] [] [] h k = refl
of_meetings book [] [] (y ∷ ys) h k = absurd k
of_meetings book [] (x ∷ xs) ys h k = absurd h
of_meetings book (p ∷ ps) [] ys h k = absurd h
of_meetings book (p ∷ ps) (x ∷ xs) [] h k = absurd k
of_meetings book (p ∷ ps) (x ∷ xs) (y ∷ ys) h k =
    let first = of_meeting book p x y h.0 k.0 in
    let rest = of_meetings book ps xs ys h.1 k.1 in
    λ i. first i ∷ rest i

one_entries : (book : Book) (xs ys : List KeptComponent) → AreKept book xs → AreKept book ys → xs ≡ ys
one_entries book xs ys h k = h.are ∙ ap (flat_map (λ (c : List KeptComponent). c)) (of_meetings book (first_parts book.taken) h.by_meeting k.by_meeting h.each k.each) ∙ sym k.are

-- ---- the names of its zones

in_got : (xs : Lines) (place : ℕ) (x : List ℕ) → slice_get xs place ≡ Some x → Contains xs x
in_got xs place x e = (place, slice_get_within xs place x e, get_or_from_slice_get xs place x x e)

-- each is there once
each_apart : (zones : Lines) → Pairwise ◌≢◌ (each_once zones)
each_apart [] = tt
each_apart (zone ∷ zones) = (
  λ y c same.
      let other : not (bytes_eq zone y) ≡ true = (filter_at (λ other. not (bytes_eq zone other)) (each_once zones) y c).1 in
      true≢false (sym other ∙ ap not ((bytes_eq-Decides zone y).1 same)),
  pairs_filter ◌≢◌ (λ other. not (bytes_eq zone other)) (each_once zones) (each_apart zones),
)

one_place : (xs : Lines) (p q : ℕ) (x : List ℕ) → Pairwise ◌≢◌ xs → slice_get xs p ≡ Some x → slice_get xs q ≡ Some x → p ≡ q
one_place [] p q x d e f = cc
one_place (y ∷ ys) zero zero x d e f = refl
one_place (y ∷ ys) zero (suc q) x d e f = absurd (d.0 x (in_got ys q x f) (same_Some y x e))
one_place (y ∷ ys) (suc p) zero x d e f = absurd (d.0 x (in_got ys p x e) (same_Some y x f))
one_place (y ∷ ys) (suc p) (suc q) x d e f = ap suc (one_place ys p q x d.1 e f)

-- ---- the lines of a content under a name

abbrev named : List ℕ → List ℕ → List ℕ
named name = renamed (codes "DTSTART;TZID=Z") (codes "DTSTART;TZID=" ++ name)

-- without a zone DTSTART stays
start_stays : (name : List ℕ) (form : Form) (times : EventTimes) (line : List ℕ) → StartsIn form None times line → named name line ≡ line
start_stays name Fixed times line (text, w, e) = ap (named name) e ∙ sym e
start_stays name Floating times line (text, w, e) = ap (named name) e ∙ sym e
start_stays name WholeDay times line (text, w, e) = ap (named name) e ∙ sym e

-- where only the first line may change, and doesn't, none does
first_stays : (f : List ℕ → List ℕ) (lines rest : Lines) (s t : List ℕ) → lines ≡ s ∷ rest → map f lines ≡ t ∷ rest → f s ≡ s → map f lines ≡ lines
first_stays f lines rest s t e m same =
    let first : f s ≡ t = ap (λ (l : Lines). get_or l 0 []) (sym (ap (map f) e) ∙ m) in
    m ∙ ap (λ (x : List ℕ). x ∷ rest) (sym first ∙ same) ∙ sym e

lines_stay : (name : List ℕ) (content : Content) (event : EventComponent) → IsContent content event → content.zone ≡ None → map (named name) content.lines ≡ content.lines
lines_stay name content event c none =
    let n = named_lines name content event c in
    first_stays (named name) content.lines _ c.start n.start c.are n.are (without event.times.zone content.zone c.in_zone none c.starts)
  where
    without : (zone : Option Zone) (rest : Option (List ℕ)) → BothOrNeither IsZoneRest zone rest → rest ≡ None → StartsIn event.times.form zone event.times c.start → named name c.start ≡ c.start
    without None rest w e starts = start_stays name event.times.form event.times c.start starts
    without (Some zone) None w e starts = absurd w
    without (Some zone) (Some rest) w e starts = cc

lines_named : (zones : Lines) (x y : List ℕ) (content : Content) (event : EventComponent) → IsContent content event → IsNamed (each_once zones) content.zone x → IsNamed (each_once zones) content.zone y
    → map (named x) content.lines ≡ map (named y) content.lines
lines_named zones x y content event c h k = by content.zone refl h k
  where
    by : (zone : Option (List ℕ)) → content.zone ≡ zone → IsNamed (each_once zones) zone x → IsNamed (each_once zones) zone y → map (named x) content.lines ≡ map (named y) content.lines
    by None e h k = lines_stay x content event c e ∙ sym (lines_stay y content event c e)
    by (Some zone) e h k =
        ap (λ (name : List ℕ). map (named name) content.lines) (h.2 ∙ ap kept_zone_name (one_place (each_once zones) h.0 k.0 zone (each_apart zones) h.1 k.1) ∙ sym k.2)

-- ---- its VEVENTs

module _ (form : OneForm) (room : List ℕ) where
  one_slot : (slot : Slot) (x y : Lines) → TellsSlot slot x → TellsSlot slot y → x ≡ y
  one_slot Whole x y h k = h ∙ sym k
  one_slot (At t) x y (u, w, e) (v, z, f) = e ∙ ap (λ (s : List ℕ). (codes "RECURRENCE-ID:" ++ s) ∷ []) (form u v t w z) ∙ sym f

  event_lines : (part : Part) (a b : Lines) (answer : List ℕ) (x y : Lines) → a ≡ b → IsEventOf room part a answer x → IsEventOf room part b answer y → x ≡ y
  event_lines part a b answer x y same h k =
      let slot = one_slot part.slot h.slot k.slot h.tells_slot k.tells_slot in
      let stamp = form h.stamp k.stamp part.revision.stamp h.written_stamp k.written_stamp in
      h.is
      ∙ (λ i. (codes "BEGIN:VEVENT" ∷ (codes "UID:" ++ escaped part.uid) ∷ slot i)
      ++ ((codes "SEQUENCE:" ++ decimal part.revision.sequence) ∷ (codes "DTSTAMP:" ++ stamp i) ∷ [])
      ++ same i
      ++ ((codes "ORGANIZER:" ++ part.organiser) ∷ (codes "ATTENDEE;PARTSTAT=" ++ answer ++ codes ":" ++ room) ∷ codes "END:VEVENT" ∷ []))
      ∙ sym k.is

  abbrev instant_of : Slot → ℤ → ℤ
  instant_of Whole other = other
  instant_of (At t) other = t

  hiding_lines : (slot : Slot) (x y : Lines) → HidesSlot slot x → HidesSlot slot y → x ≡ y
  hiding_lines slot x y h k =
      let instant : h.instant ≡ k.instant = ap (λ (s : Slot). instant_of s k.instant) (sym h.at ∙ k.at) in
      let text = form h.text k.text h.instant h.written (subst (WritesStamp k.text) (sym instant) k.written) in
      h.is ∙ ap (λ (s : List ℕ). (codes "DTSTART:" ++ s) ∷ codes "DURATION:PT0S" ∷ codes "STATUS:CANCELLED" ∷ []) text ∙ sym k.is

  module _ (zone : Option Zone) (book : Book) (keeps : KeepsAll room zone book) (zones : Lines) where
    one_event : (first : Part) (entry : KeptComponent) (x y : Lines) → IsKeptComponent book first entry → IsKeptEvent room (each_once zones) entry x → IsKeptEvent room (each_once zones) entry y → x ≡ y
    one_event first (Shown claim) x y is (n, given, h) (m, also, k) =
        let f = subst (IsAskedFor room zone) is.to (keeps.each is.answer is.given) in
        let a = f.asked in
        let set : is_set claim.part ≡ true = ap (λ (c : Claim). is_set c.part) (sym is.to) ∙ keeps.set is.answer is.given in
        let when = (set_body room a.given.method a.event claim.content claim.part.body a.is_part.body set).when in
        event_lines claim.part _ _ (codes "ACCEPTED") x y (lines_named zones n m claim.content a.event when given also) h k
    one_event first (Hidden part) x y is (a, g, h) (b, l, k) = event_lines part a b (codes "DECLINED") x y (hiding_lines part.slot a b g l) h k

    one_events : (entries : List KeptComponent) (xs ys : List Lines) → ((e : KeptComponent) → Contains entries e → (first : Part) × IsKeptComponent book first e)
        → AllZip (IsKeptEvent room (each_once zones)) entries xs → AllZip (IsKeptEvent room (each_once zones)) entries ys → xs ≡ ys
    one_events [] [] [] f h k = refl
    one_events [] [] (y ∷ ys) f h k = absurd k
    one_events [] (x ∷ xs) ys f h k = absurd h
    one_events (e ∷ es) [] ys f h k = absurd h
    one_events (e ∷ es) (x ∷ xs) [] f h k = absurd k
    one_events (e ∷ es) (x ∷ xs) (y ∷ ys) f h k =
        let is = f e (in_head e es) in
        let first = one_event is.0 e x y is.1 h.0 k.0 in
        let rest = one_events es xs ys (λ z c. f z (in_tail e es z c)) h.1 k.1 in
        λ i. first i ∷ rest i

-- ---- the calendar

pub one_kept : OneForm → (room words : List ℕ) (zone : Option Zone) (book : Book) (x y : List ℕ) → IsReached room zone book → IsKeptCalendar room words book x → IsKeptCalendar room words book y → x ≡ y
one_kept form room words zone book x y r h k =
    let keeps = runs_keep room zone r.deliveries book r.delivered r.runs in
    let entries = one_entries book h.entries k.entries h.kept k.kept in
    let each = subst (λ (es : List KeptComponent). AllZip (IsKeptEvent room (zones_kept es)) es k.events) (sym entries) k.each in
    let events = one_events form room zone book keeps (flat_map zone_kept h.entries) h.entries h.events k.events
    (λ e c. let p = entry_placed book h.entries h.kept e c in (p.first, p.is)) h.each each in
    h.is
    ∙ (λ i. written (opening_lines None ++ room_zone_lines words) ++ zone_texts 0 (zones_kept (entries i))
    ++ written (flat_map (λ lines. lines) (events i) ++ codes "END:VCALENDAR" ∷ []))
    ∙ sym k.is
