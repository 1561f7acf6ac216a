-- The slots of registers together are those of the one list or of the other.
use Rattle.std.proofs.Common.{◌≡◌, Bool, true, false, cond, List, [], ◌∷◌, ◌++◌, ◌⊎◌, inl, inr, map, subst}
use Rattle.std.specs.declared.cmp.Ordering.{Ordering}
use Rattle.std.specs.declared.cmp.Ordering.TheVariants.{Less, Equal, Greater}
use Rattle.std.specs.Ordering.{is_gt}
use Rattle.std.specs.List.{Contains}
use Rattle.std.proofs.lemmas.List.Elements.{Contains-append_left, Contains-append_right}
use Rattle.profile.specs.rooms.Revisions as revisions
use Rattle.profile.specs.rooms.Revisions.{Part, place_cmp, part_cmp}
use Rattle.itip_order.specs.Parts.{part_of, parts_of, slot_of}
use Rattle.itip_order.specs.Registers.{put_by, put_part, together}
use Rattle.itip_order.specs.declared.part.Part.{Part as Own}
use Rattle.itip_order.proofs.Lists.{in_cons, in_head, in_tail, none_in_nil}

-- a part that was put in its place is among the others
put_from : (p : Part) (R : List Part) (x : Part) → Contains (put_part p R) x → (p ≡ x) ⊎ Contains R x
put_from p [] x c = elim (in_cons p [] x c) [ inl here ↦ inl here | inr none ↦ absurd (none_in_nil x none) ]
put_from p (r ∷ R) x c = step (place_cmp p r) (put_from p R x) c
  where
    either : (b : Bool) → Contains (cond b p r ∷ R) x → (p ≡ x) ⊎ Contains (r ∷ R) x
    either true c = elim (in_cons p R x c) [ inl here ↦ inl here | inr rest ↦ inr (in_tail r R x rest) ]
    either false c = inr c

    step : (o : Ordering) → (Contains (put_part p R) x → (p ≡ x) ⊎ Contains R x) → Contains (put_by o p r R (put_part p R)) x → (p ≡ x) ⊎ Contains (r ∷ R) x
    step Less old c = elim (in_cons p (r ∷ R) x c) [ inl here ↦ inl here | inr rest ↦ inr rest ]
    step Equal old c = either (is_gt (part_cmp p r)) c
    step Greater old c = elim (in_cons r (put_part p R) x c) [
      | inl here ↦ inr (subst (Contains (r ∷ R)) here (in_head r R))
      | inr rest ↦ elim (old rest) [ inl this ↦ inl this | inr among ↦ inr (in_tail r R x among) ]
    ]

-- what both hold is of the one or of the other
pub together_from : (R more : List Part) (x : Part) → Contains (together R more) x → Contains R x ⊎ Contains more x
together_from R [] x c = inl c
together_from R (m ∷ more) x c = elim (together_from (put_part m R) more x c) [
  | inl first ↦ elim (put_from m R x first) [ inl this ↦ inr (subst (Contains (m ∷ more)) this (in_head m more)) | inr old ↦ inl old ]
  | inr rest ↦ inr (in_tail m more x rest)
]

abbrev pub slots_said : List Own → List revisions.Slot
slots_said parts = map (λ part. slot_of part.slot) parts

own_slot : (parts : List Own) (x : Part) → Contains (parts_of parts) x → Contains (slots_said parts) x.slot
own_slot [] x c = absurd (none_in_nil x c)
own_slot (p ∷ parts) x c = elim (in_cons (part_of p) (parts_of parts) x c) [
  | inl here ↦ subst (λ (z : Part). Contains (slots_said (p ∷ parts)) z.slot) here (in_head (slot_of p.slot) (slots_said parts))
  | inr rest ↦ in_tail (slot_of p.slot) (slots_said parts) x.slot (own_slot parts x rest)
]

-- so its slot is one of theirs
pub slots_together : (first second : List Own) (x : Part) → Contains (together (parts_of first) (parts_of second)) x → Contains (slots_said first ++ slots_said second) x.slot
slots_together first second x c = elim (together_from (parts_of first) (parts_of second) x c) [
  | inl one ↦ Contains-append_left (slots_said first) (slots_said second) x.slot (own_slot first x one)
  | inr other ↦ Contains-append_right (slots_said first) (slots_said second) x.slot (own_slot second x other)
]
