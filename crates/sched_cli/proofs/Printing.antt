-- What `expand` prints, put together.
use Rattle.std.proofs.Common.{◌≡◌, ◌∙◌, ap, sym, refl, subst, inl, inr, ◌⊎◌, ℕ, suc, ◌+◌, ◌-◌, ◌<◌, slice_range, get_or, take, drop, length, take_all, List, [], ◌∷◌, ◌++◌, append_assoc, append-nil, length-append, decimal, arith, ℤ, pos, negsuc, ◌+ℤ◌, ◌-ℤ◌, ◌<ℤ◌, ◌≤ℤ◌, unsigned_abs}
use Rattle.std.specs.Prelude.{Option, Some, None, Contains}
use Rattle.std.specs.List.{AllZip, concat}
use Rattle.std.specs.Io.KnownBytes.{Appends}
use Rattle.std.proofs.lemmas.Int.{ints, by_lt_z}
use Rattle.std.proofs.lemmas.List.Folds.{concat-append}
use Rattle.std.proofs.lemmas.List.Elements.{All-nil, All-push, All-contains, Contains-push, Contains-append_left}
use Rattle.std.proofs.lemmas.List.Quantifiers.{all_pairs_push}
use Rattle.std.proofs.KnownBytes.{Appends-nil, Appends-trans}
use Rattle.profile.specs.text.Values.{WritesStamp}
use Rattle.profile.specs.checker.Instances.{Instance as SaidInstance}
use Rattle.profile.specs.series.Zones.{Zone}
use Rattle.profile.specs.series.RoomZones.{IsRoomZone}
use Rattle.profile.specs.events.Events.{Event, SpellsEvent}
use Rattle.profile.specs.events.Starts.{IsInstance, ComesBefore}
use Rattle.profile.specs.events.Expanding.{IsInstanceLine}
use Rattle.cal_events.specs.Calendar.{instance_of}
use Rattle.cal_events.specs.Instances.{IsAfter, IsPastSlot}
use Rattle.cal_events.specs.Left.{IsLeft, GivesFirst}
use Rattle.cal_events.specs.MeetingComponents.{IsInEventDates}
use Rattle.cal_events.specs.Event.{AreAlike, said_meeting}
use Rattle.cal_events.specs.declared.instance.Instance.{Instance}
use Rattle.cal_events.specs.declared.instances.Bound.{Bound}
use Rattle.cal_events.specs.declared.instances.Instances.{Instances}
use Rattle.cal_events.proofs.shared_lemmas.EventLemmas.{push_zip}
use Rattle.sched_cli.specs.Expanding.{HasLine, IsPrintedLine, IsHandedOver, AreFirstPlaces, PrintsFirst, AreGoneThrough, PrintsUpTo, ExpandsTo}

-- ---- what was handed over

-- one piece after another
pub handed_on : (a b c : Option (List ℕ)) (text after piece octets : List ℕ) → IsHandedOver a b text octets → IsHandedOver b c after (text ++ piece) → IsHandedOver a c after (octets ++ piece)
handed_on a b c text after piece octets (w, p, e) (v, q, f) =
    (w ++ v, Appends-trans a b c w v p q, append_assoc w v after ∙ ap (λ l. w ++ l) f ∙ sym (append_assoc w text piece) ∙ ap (λ l. l ++ piece) e)

-- ---- one line

joined : (before slot space start digits end : List ℕ) → ((before ++ (slot ++ space)) ++ (start ++ space)) ++ (digits ++ end) ≡ before ++ (slot ++ space ++ start ++ space ++ digits ++ end)
joined before slot space start digits end = simp append_assoc

-- how long it lasts
lasts_so : (s e : ℤ) → s ≤ℤ e → e ≡ s +ℤ pos (unsigned_abs (e -ℤ s))
lasts_so s e l = go (e -ℤ s) (omega (arith, ints))
  where
    go : (d : ℤ) → s +ℤ d ≡ e → e ≡ s +ℤ pos (unsigned_abs d)
    go (pos n) h = sym h
    go (negsuc n) h = absurd (omega (arith, ints, h, l))

pub line_there : (b : SaidInstance) (before a c after slot start : List ℕ) (seconds : ℕ) → WritesStamp slot b.key.slot → WritesStamp start b.start → seconds ≡ unsigned_abs (b.end -ℤ b.start)
    → a ≡ before ++ (slot ++ 32 ∷ []) → c ≡ a ++ (start ++ 32 ∷ []) → after ≡ c ++ (decimal seconds ++ 10 ∷ []) → (line : List ℕ) × IsPrintedLine b line × (after ≡ before ++ line)
line_there b before a c after slot start seconds p q is e f g = (
  slot ++ 32 ∷ [] ++ start ++ 32 ∷ [] ++ decimal seconds ++ 10 ∷ [],
  λ has. record {
    slot = slot;
    start = start;
    seconds = seconds;
    writes_slot = p;
    writes_start = q;
    lasts = lasts_so b.start b.end has.ends ∙ ap (λ n. b.start +ℤ pos n) (sym is);
    is = refl;
  },
  g ∙ ap (λ l. l ++ (decimal seconds ++ 10 ∷ [])) (f ∙ ap (λ l. l ++ (start ++ 32 ∷ [])) e) ∙ joined before slot (32 ∷ []) start (decimal seconds) (10 ∷ []),
)

-- what was appended last, once more
pub appended_again : (xs t : List ℕ) (n m : ℕ) → n ≡ length xs → m ≡ length (xs ++ t) → slice_range (xs ++ t) n m ≡ t
appended_again xs t n m e f =
    ap (λ k. slice_range (xs ++ t) k m) e ∙ ap (take (m - length xs)) (behind xs t) ∙ take_all (m - length xs) t (omega (arith, f, length-append xs t))
  where
    behind : (xs t : List ℕ) → drop (length xs) (xs ++ t) ≡ t
    behind [] t = refl
    behind (x ∷ xs) t = behind xs t

-- and one that it doesn't have
pub no_line : (b : SaidInstance) (before : List ℕ) → (HasLine b → ⊥) → (line : List ℕ) × IsPrintedLine b line × (before ≡ before ++ line)
no_line b before none = ([], λ has. absurd (none has), sym (append-nil before))

-- ---- the order of instances

order : (x y : ℤ) → (x <ℤ y) ⊎ ((x ≡ y) ⊎ (y <ℤ x))
order x y =
    by_lt_z x y (λ less. inl less)
    (λ most. by_lt_z y x (λ more. inr (inr more)) (λ least. inr (inl (omega (arith, ints, most, least)))))

-- two have one place, or one of them comes first
placed : (a b : SaidInstance) → ComesBefore a b ⊎ (((a.start ≡ b.start) × (a.key.slot ≡ b.key.slot)) ⊎ ComesBefore b a)
placed a b =
    elim (order a.start b.start) [
      | inl less ↦ inl (inl less)
      | inr o ↦ elim o [
        | inl e ↦ elim (order a.key.slot b.key.slot) [
          | inl less ↦ inl (inr (e, less))
          | inr p ↦ elim p [ inl f ↦ inr (inl (e, f)) | inr more ↦ inr (inr (inr (sym e, more))) ]
        ]
        | inr more ↦ inr (inr (inl more))
      ]
    ]

past : (last : Option ℤ) (a b : ℤ) → IsPastSlot last a → a <ℤ b → IsPastSlot last b
past None a b h l = tt
past (Some k) a b h l = omega (arith, ints, h, l)

-- what comes after one that is to come is to come too
after_later : (bound : Bound) (a b : SaidInstance) → IsAfter bound a.start a.key.slot → ComesBefore a b → IsAfter bound b.start b.key.slot
after_later bound a b (inl l) (inl m) = inl (omega (arith, ints, l, m))
after_later bound a b (inl l) (inr (e, m)) = inl (omega (arith, ints, l, e))
after_later bound a b (inr (e, p)) (inl m) = inl (omega (arith, ints, e, m))
after_later bound a b (inr (e, p)) (inr (f, m)) = inr (e ∙ f, past bound.slot a.key.slot b.key.slot p m)

-- ---- the instances that were gone through

-- at first none
pub none_yet : (meeting : Event) (left : Instances) → ((b : SaidInstance) → IsLeft left b → IsInstance meeting b) → ((b : SaidInstance) → IsInstance meeting b → HasLine b → IsLeft left b) → AreGoneThrough meeting left 0 []
none_yet meeting left its all = record {
  its = its;
  each = All-nil (IsInstance meeting);
  ordered = λ i j d l w. absurd (omega (arith, w));
  counted = refl;
  later = λ b h. All-nil (λ a. ComesBefore a b);
  others = λ b h line. inr (all b h line);
}

module _ (meeting : Event) (old new : Instances) (i : Instance) (given : GivesFirst old (Some i) new) where
  abbrev it : SaidInstance
  it = instance_of i

  -- what is left then was left, and comes after it
  still : (b : SaidInstance) → IsLeft new b → IsLeft old b × ComesBefore it b
  still b (is, after) =
      let behind : ComesBefore it b = subst (λ (x : Bound). IsAfter x b.start b.key.slot) given.1.2 after in
      let there : IsInstance (said_meeting old.event.now) b = subst (λ e. IsInstance (said_meeting e.now) b) given.0 is in
      ((there, after_later old.after it b given.1.0.1 behind), behind)

  -- and all that comes after it
  goes_on : (b : SaidInstance) → IsLeft old b → ComesBefore it b → IsLeft new b
  goes_on b (is, _) behind = (
    subst (λ e. IsInstance (said_meeting e.now) b) (sym given.0) is,
    subst (λ (x : Bound). IsAfter x b.start b.key.slot) (sym given.1.2) behind,
  )

  pub one_gone : (count : ℕ) (done : List SaidInstance) → AreGoneThrough meeting old count done → AreGoneThrough meeting new (count + 1) (done ++ it ∷ [])
  one_gone count done g = record {
    its = λ b h. g.its b (still b h).0;
    each = All-push (IsInstance meeting) done it g.each (g.its it given.1.0);
    ordered = all_pairs_push ComesBefore done it g.ordered (g.later it given.1.0);
    counted = length-append done (it ∷ []) ∙ ap (λ n. n + 1) g.counted;
    later = λ b h. All-push (λ a. ComesBefore a b) done it (g.later b (still b h).0) (still b h).1;
    others = λ b is line.
        elim (g.others b is line) [
          | inl (a, c, p, q) ↦ inl (a, Contains-append_left done (it ∷ []) a c, p, q)
          | inr left ↦ elim (placed it b) [
            | inl behind ↦ inr (goes_on b left behind)
            | inr o ↦ elim o [ inl same ↦ inl (it, Contains-push done it, same.0, same.1) | inr before ↦ absurd (given.1.1 b left before) ]
          ]
        ];
  }

-- none is left
pub all_gone : (meeting : Event) (old : Instances) (count limit : ℕ) (done : List SaidInstance) → AreGoneThrough meeting old count done → count < limit → ((b : SaidInstance) → IsLeft old b → ⊥) → AreFirstPlaces meeting limit done
all_gone meeting old count limit done g w none = record {
  each = g.each;
  ordered = g.ordered;
  short = omega (arith, w, g.counted);
  others = λ b is line. elim (g.others b is line) [ inl there ↦ inl there | inr left ↦ absurd (none b left) ];
}

-- as many as were asked for
pub enough_gone : (meeting : Event) (old : Instances) (count limit : ℕ) (done : List SaidInstance) → AreGoneThrough meeting old count done → count ≡ limit → AreFirstPlaces meeting limit done
enough_gone meeting old count limit done g e = record {
  each = g.each;
  ordered = g.ordered;
  short = omega (arith, e, g.counted);
  others = λ b is line. elim (g.others b is line) [ inl there ↦ inl there | inr left ↦ inr (g.counted ∙ e, g.later b left) ];
}

-- ---- their lines

pub one_more : (meeting : Event) (old new : Instances) (i : Instance) (count : ℕ) (a b c : Option (List ℕ)) (text after line : List ℕ) → GivesFirst old (Some i) new
    → IsPrintedLine (instance_of i) line → IsHandedOver b c after (text ++ line) → PrintsUpTo meeting old count a b text → PrintsUpTo meeting new (count + 1) a c after
one_more meeting old new i count a b c text after line given on moved so_far = record {
  done = so_far.done ++ instance_of i ∷ [];
  gone = one_gone meeting old new i given count so_far.done so_far.gone;
  lines = so_far.lines ++ line ∷ [];
  each = push_zip IsPrintedLine so_far.done so_far.lines (instance_of i) line so_far.each on;
  written = subst (IsHandedOver a c after) (sym (concat-append so_far.lines (line ∷ []) ∙ ap (λ l. concat so_far.lines ++ l) (append-nil line)))
      (handed_on a b c text after line (concat so_far.lines) so_far.written moved);
}

-- where none is left
pub no_more : (meeting : Event) (old : Instances) (count limit : ℕ) (a b c : Option (List ℕ)) (text after : List ℕ) → count < limit → ((x : SaidInstance) → IsLeft old x → ⊥) → IsHandedOver b c after text
    → PrintsUpTo meeting old count a b text → PrintsFirst meeting limit a c after
no_more meeting old count limit a b c text after w none moved so_far = record {
  instances = so_far.done;
  first = all_gone meeting old count limit so_far.done so_far.gone w none;
  lines = so_far.lines;
  each = so_far.each;
  written = subst (IsHandedOver a c after) (append-nil (concat so_far.lines))
      (handed_on a b c text after [] (concat so_far.lines) so_far.written (subst (IsHandedOver b c after) (sym (append-nil text)) moved));
}

-- and where they are as many as were asked for
pub enough : (meeting : Event) (old : Instances) (count limit : ℕ) (a b : Option (List ℕ)) (text : List ℕ) → count ≡ limit → PrintsUpTo meeting old count a b text → PrintsFirst meeting limit a b text
enough meeting old count limit a b text e so_far = record {
  instances = so_far.done;
  first = enough_gone meeting old count limit so_far.done so_far.gone e;
  lines = so_far.lines;
  each = so_far.each;
  written = so_far.written;
}

-- no instance that has a line starts earlier than 64 bits count
pub from_the_first : (b : SaidInstance) → HasLine b → negsuc 9_223_372_036_854_775_807 ≤ℤ b.start
from_the_first b line = omega (arith, ints, line.start.0)

pub no_line_yet : (meeting : Event) (left : Instances) (a : Option (List ℕ)) → AreGoneThrough meeting left 0 [] → PrintsUpTo meeting left 0 a a []
no_line_yet meeting left a g = record { done = []; gone = g; lines = []; each = tt; written = ([], Appends-nil a, refl) }

-- and the text was written too
pub finished : (meeting : Event) (limit : ℕ) (a b c : Option (List ℕ)) (text : List ℕ) → PrintsFirst meeting limit a b text → Appends b c text → PrintsFirst meeting limit a c []
finished meeting limit a b c text so_far q =
    let (w, p, e) = so_far.written in
    record { instances = so_far.instances; first = so_far.first; lines = so_far.lines; each = so_far.each; written = (w ++ text, Appends-trans a b c w text p q, append-nil (w ++ text) ∙ e) }

-- ---- of the event that octets spell

abbrev OneInstance : Type 0
OneInstance = (words : List ℕ) (room : Option Zone) (octets : List ℕ) (meeting : Event) (a b : SaidInstance) → IsRoomZone words room → SpellsEvent room octets meeting → IsInstance meeting a → IsInstance meeting b → a.start ≡ b.start → a.key.slot ≡ b.key.slot → a ≡ b

abbrev AreDated : Type 0
AreDated = (words : List ℕ) (room : Option Zone) (octets : List ℕ) (meeting : Event) (a : SaidInstance) → IsRoomZone words room → SpellsEvent room octets meeting → IsInstance meeting a → IsInEventDates a.key.slot × IsInEventDates a.start × (a.start ≤ℤ a.end)

pub lines_there : (instances : List SaidInstance) (lines : List (List ℕ)) → ((b : SaidInstance) → Contains instances b → HasLine b) → AllZip IsPrintedLine instances lines → AllZip IsInstanceLine instances lines
lines_there [] [] has h = tt
lines_there [] (l ∷ ls) has h = absurd h
lines_there (b ∷ bs) [] has h = absurd h
lines_there (b ∷ bs) (l ∷ ls) has h =
    (h.0 (has b (0, omega arith, refl)), lines_there bs ls (λ a c. has a (suc c.0, omega (arith, c.1), c.2)) h.1)

-- an event that was read takes place as the one that they spell
pub expanded : OneInstance → AreDated → (words : List ℕ) (room : Option Zone) (octets : List ℕ) (kept meeting : Event) (limit : ℕ) (a b : Option (List ℕ)) → IsRoomZone words room → SpellsEvent room octets meeting
    → AreAlike kept meeting → PrintsFirst kept limit a b [] → ExpandsTo room octets limit a b
expanded one dated words room octets kept meeting limit a b named spelled alike p = (
  written,
  record {
    meeting = meeting;
    spelled = spelled;
    instances = p.instances;
    first = record {
      each = λ k d w. (alike (get_or p.instances k d)).0 (p.first.each k d w);
      ordered = p.first.ordered;
      short = p.first.short;
      others = λ x is. elim (p.first.others x ((alike x).1 is) (has x is)) [
        | inl (y, c, q, r) ↦ inl (subst (Contains p.instances) (one words room octets meeting y x named spelled (its y c) is q r) c)
        | inr h ↦ inr h
      ];
    };
    lines = p.lines;
    each = lines_there p.instances p.lines (λ x c. has x (its x c)) p.each;
    is = sym (append-nil written) ∙ p.written.2;
  },
  p.written.1,
)
  where
    written : List ℕ
    written = p.written.0

    its : (x : SaidInstance) → Contains p.instances x → IsInstance meeting x
    its x c = (alike x).0 (All-contains (IsInstance kept) p.instances x p.first.each c)

    has : (x : SaidInstance) → IsInstance meeting x → HasLine x
    has x is =
        let d = dated words room octets meeting x named spelled is in
        record { slot = (omega (arith, ints, d.0), omega (arith, ints, d.0)); start = (omega (arith, ints, d.1), omega (arith, ints, d.1)); ends = d.2 }
