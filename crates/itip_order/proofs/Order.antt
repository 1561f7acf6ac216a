-- The orders of places and of parts are total, and tie only what is the same.
use Rattle.std.proofs.Common.{◌≡◌, ℕ, ℤ, pos, true, List, [], refl, ap, subst}
use Rattle.std.specs.declared.cmp.Ordering.{Ordering}
use Rattle.std.specs.declared.cmp.Ordering.TheVariants.{Less, Equal, Greater}
use Rattle.std.specs.Ordering.{nat_cmp, int_cmp, ordering_then, then_cmp, on, is_eq}
use Rattle.std.specs.Cmp.{IsTotalOrder}
use Rattle.std.specs.FinMap.{IsAntisymmetric, nat_cmp-IsAntisymmetric, int_cmp-IsAntisymmetric, slice_cmp-IsAntisymmetric}
use Rattle.std.proofs.lemmas.Cmp.{nat_cmp_total, int_cmp_total, nat_list_cmp_total, on_total, then_total}
use Rattle.profile.specs.rooms.Revisions.{Slot, Whole, At, Revision, Body, Set, Absent, Cancelled, Part, octets_cmp, slot_cmp, meeting_cmp, place_cmp, revision_cmp, body_cmp, part_cmp}

-- the Whole comes first
slot_rank : Slot → ℕ
slot_rank Whole = 0
slot_rank (At a) = 1

slot_instant : Slot → ℤ
slot_instant Whole = pos 0
slot_instant (At a) = a

slot_cmp_is : (a b : Slot) → then_cmp (on slot_rank nat_cmp) (on slot_instant int_cmp) a b ≡ slot_cmp a b
unfolding slot_rank slot_instant
slot_cmp_is Whole Whole = refl
slot_cmp_is Whole (At b) = refl
slot_cmp_is (At a) Whole = refl
slot_cmp_is (At a) (At b) = refl

pub slot_total : IsTotalOrder slot_cmp
slot_total = subst IsTotalOrder (λ i a b. slot_cmp_is a b i) (then_total (on_total slot_rank nat_cmp_total) (on_total slot_instant int_cmp_total))

body_rank : Body → ℕ
body_rank (Set octets) = 0
body_rank Absent = 1
body_rank Cancelled = 2

body_octets : Body → List ℕ
body_octets (Set octets) = octets
body_octets Absent = []
body_octets Cancelled = []

body_cmp_is : (a b : Body) → then_cmp (on body_rank nat_cmp) (on body_octets octets_cmp) a b ≡ body_cmp a b
unfolding body_rank body_octets
body_cmp_is (Set a) (Set b) = refl
body_cmp_is (Set a) Absent = refl
body_cmp_is (Set a) Cancelled = refl
body_cmp_is Absent (Set b) = refl
body_cmp_is Absent Absent = refl
body_cmp_is Absent Cancelled = refl
body_cmp_is Cancelled (Set b) = refl
body_cmp_is Cancelled Absent = refl
body_cmp_is Cancelled Cancelled = refl

pub body_total : IsTotalOrder body_cmp
body_total = subst IsTotalOrder (λ i a b. body_cmp_is a b i) (then_total (on_total body_rank nat_cmp_total) (on_total body_octets nat_list_cmp_total))

pub revision_total : IsTotalOrder revision_cmp
revision_total = then_total (on_total (λ (r : Revision). r.sequence) nat_cmp_total) (on_total (λ (r : Revision). r.stamp) int_cmp_total)

pub part_total : IsTotalOrder part_cmp
part_total = then_total (on_total (λ (p : Part). p.revision) revision_total) (on_total (λ (p : Part). p.body) body_total)

pub meeting_total : IsTotalOrder meeting_cmp
meeting_total = then_total (on_total (λ (p : Part). p.organiser) nat_list_cmp_total) (on_total (λ (p : Part). p.uid) nat_list_cmp_total)

pub place_total : IsTotalOrder place_cmp
place_total = then_total meeting_total (on_total (λ (p : Part). p.slot) slot_total)

-- two orders tie where both do
pub then_equal : (a b : Ordering) → ordering_then a b ≡ Equal → (a ≡ Equal) × (b ≡ Equal)
then_equal Less b e = absurd (cc)
then_equal Equal b e = (refl, e)
then_equal Greater b e = absurd (cc)

pub is_eq_true : (o : Ordering) → is_eq o ≡ true → o ≡ Equal
is_eq_true Less e = absurd (cc)
is_eq_true Equal e = refl
is_eq_true Greater e = absurd (cc)

octets_same : IsAntisymmetric octets_cmp
octets_same = slice_cmp-IsAntisymmetric nat_cmp-IsAntisymmetric

pub slot_same : IsAntisymmetric slot_cmp
slot_same Whole Whole e = refl
slot_same Whole (At b) e = absurd (cc)
slot_same (At a) Whole e = absurd (cc)
slot_same (At a) (At b) e = ap At (int_cmp-IsAntisymmetric a b e)

body_same : IsAntisymmetric body_cmp
body_same (Set a) (Set b) e = ap Set (octets_same a b e)
body_same (Set a) Absent e = absurd (cc)
body_same (Set a) Cancelled e = absurd (cc)
body_same Absent (Set b) e = absurd (cc)
body_same Absent Absent e = refl
body_same Absent Cancelled e = absurd (cc)
body_same Cancelled (Set b) e = absurd (cc)
body_same Cancelled Absent e = absurd (cc)
body_same Cancelled Cancelled e = refl

revision_same : IsAntisymmetric revision_cmp
revision_same a b e =
    let both = then_equal _ _ e in
    let s = nat_cmp-IsAntisymmetric _ _ both.0 in
    let t = int_cmp-IsAntisymmetric _ _ both.1 in
    λ i. record { sequence = s i; stamp = t i }

-- two parts that tie in place and in order are one
pub part_same : (a b : Part) → place_cmp a b ≡ Equal → part_cmp a b ≡ Equal → a ≡ b
part_same a b place order =
    let places = then_equal _ _ place in
    let meetings = then_equal _ _ places.0 in
    let orders = then_equal _ _ order in
    let o = octets_same _ _ meetings.0 in
    let u = octets_same _ _ meetings.1 in
    let s = slot_same _ _ places.1 in
    let r = revision_same _ _ orders.0 in
    let b' = body_same _ _ orders.1 in
    λ i. record { organiser = o i; uid = u i; slot = s i; revision = r i; body = b' i }
