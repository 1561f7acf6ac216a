-- The parts of a duration: digits, then a letter.
use Rattle.std.proofs.Common.{◌≡◌, ◌≢◌, ◌∙◌, ℕ, ◌+◌, ◌-◌, ◌*◌, ◌<◌, ◌≤◌, inl, inr, min, List, [], ◌∷◌, ◌++◌, length, get_or, take, drop, refl, sym, ap, arith, append_assoc, length-append}
use Rattle.std.proofs.lemmas.List.{append-nil, drop_more, take-append-drop, take_rest, nil_from_length, get_or_append_left, get_or-take}
use Rattle.std.proofs.Math.Seq.{get_or-append_seam}
use Rattle.std.proofs.Common.{length-take}
use Rattle.std.proofs.lemmas.Str.{digit_value_digit}
use Rattle.std.proofs.lemmas.Int.Digits.{digits_more, digits_value_more}
use Rattle.std.proofs.lemmas.Bool.{cases_order}
use Rattle.std.proofs.lemmas.Str.Parse.{digit_from_value, digit_at}
use Rattle.std.specs.Int.{IsInRange}
use Rattle.std.specs.Str.Parse.{AllDigits, digits_value}
use Rattle.profile.specs.text.Values.{IsNumber, SpellsPart, SpellsExact, SpellsDays, SpellsCounts, SpellsUnsigned}
use Rattle.ical_values.specs.Counts.{capped, BeginsNumber, TakesCapped, TakesOrSkips, CountsExact, CountsDays, CountsUnsigned}

pub head : (a b : ℕ) (xs ys : List ℕ) → a ∷ xs ≡ b ∷ ys → a ≡ b
head a b xs ys e = ap (λ x. get_or x 0 0) e

pub tail : (a b : ℕ) (xs ys : List ℕ) → a ∷ xs ≡ b ∷ ys → xs ≡ ys
tail a b xs ys e = ap (drop 1) e

-- digits end where the letter is
split_same : (d e : List ℕ) (l k : ℕ) (r s : List ℕ) → AllDigits 10 d → AllDigits 10 e → 57 < l → 57 < k → d ++ l ∷ r ≡ e ++ k ∷ s → (d ≡ e) × (l ≡ k) × (r ≡ s)
split_same [] [] l k r s p q low high h = (refl, head l k r s h, tail l k r s h)
split_same [] (c ∷ cs) l k r s p q low high h =
    absurd (omega (arith, head l c r (cs ++ k ∷ s) h, digit_from_value c q.0))
split_same (c ∷ cs) [] l k r s p q low high h =
    absurd (omega (arith, head c k (cs ++ l ∷ r) s h, digit_from_value c p.0))
split_same (c ∷ cs) (a ∷ as') l k r s p q low high h =
    let rest = split_same cs as' l k r s p.1 q.1 low high (tail c a _ _ h) in
    let first = head c a _ _ h in
    (rw (first, rest.0) refl, rest.1, rest.2)

-- a text begins with one number and one letter
pub begins_same : (l k : ℕ) (text : List ℕ) (m n : ℕ) (r s : List ℕ) → 57 < l → 57 < k → BeginsNumber l text m r → BeginsNumber k text n s → (l ≡ k) × (m ≡ n) × (r ≡ s)
begins_same l k text m n r s low high p q =
    let same = split_same p.digits q.digits l k r s p.number.1 q.number.1 low high (sym p.spelled ∙ q.spelled) in
    (same.1, sym p.number.2 ∙ ap (digits_value 10) same.0 ∙ q.number.2, same.2)

pub begins_nothing : (l n : ℕ) (rest : List ℕ) → BeginsNumber l [] n rest → ⊥
begins_nothing l n rest b =
    absurd (omega (arith, ap length b.spelled, length-append b.digits (l ∷ rest)))

pub part_begins : (l : ℕ) (digits rest : List ℕ) (n : ℕ) → IsNumber digits n → BeginsNumber l ((digits ++ l ∷ []) ++ rest) n rest
part_begins l digits rest n h = record { digits = digits; number = h; spelled = append_assoc digits (l ∷ []) rest }

-- another part in front: still no such beginning
pub begins_later : (l k : ℕ) (part rest : List ℕ) (m : ℕ) → 57 < l → 57 < k → l ≢ k → SpellsPart k part m → ((n : ℕ) (end : List ℕ) → BeginsNumber l rest n end → ⊥) → (n : ℕ) (end : List ℕ) → BeginsNumber l (part ++ rest) n end → ⊥
begins_later l k part rest m low high other (inl p) f n end b = f n end (rw p.0 at b)
begins_later l k part rest m low high other (inr (digits, number, e)) f n end b =
    other (begins_same l k ((digits ++ k ∷ []) ++ rest) n m end rest low high (rw e at b) (part_begins k digits rest m number)).0

-- what is taken at the front is the part that is there
pub part_fixed : (l : ℕ) (text part rest : List ℕ) (n count : ℕ) (left : List ℕ) → 57 < l → SpellsPart l part n → text ≡ part ++ rest → ((m : ℕ) (end : List ℕ) → BeginsNumber l rest m end → ⊥) → TakesOrSkips l text count left → (left ≡ rest) × (count ≡ capped n)
part_fixed l text part rest n count left low (inl p) e f (inl t) =
    let bare : text ≡ rest = e ∙ ap (λ x. x ++ rest) p.0 in
    absurd (f t.0 left (rw bare at t.1))
part_fixed l text part rest n count left low (inl p) e f (inr t) =
    let bare : text ≡ rest = e ∙ ap (λ x. x ++ rest) p.0 in
    (t.1 ∙ bare, rw (t.0, p.1) refl)
part_fixed l text part rest n count left low (inr (digits, number, q)) e f (inl t) =
    let b = part_begins l digits rest n number in
    let here = rw (e ∙ ap (λ x. x ++ rest) q) at t.1 in
    let same = begins_same l l _ t.0 n left rest low low here b in
    (same.2, t.2 ∙ ap capped same.1)
part_fixed l text part rest n count left low (inr (digits, number, q)) e f (inr t) =
    let b = part_begins l digits rest n number in
    absurd (t.2 n rest (rw (e ∙ ap (λ x. x ++ rest) q) b))

-- READING A NUMBER

-- the digits at the front are counted to the letter
pub front_count : (letter : ℕ) (text : List ℕ) (count n : ℕ) (rest : List ℕ) → 57 < letter → AllDigits 10 (take count text) → (count < length text → IsInRange 48 57 (get_or text count 0) → ⊥) → (b : BeginsNumber letter text n rest) → count ≡ length b.digits
front_count letter text count n rest low digits last b =
    let long : length text ≡ length b.digits + (length rest + 1) = ap length b.spelled ∙ length-append b.digits (letter ∷ rest) ∙ omega arith in
    elim (cases_order count (length b.digits)) [
      | inl same ↦ same
      | inr (inl lt) ↦
          let at_count : get_or text count 0 ≡ get_or b.digits count 0 = ap (λ t. get_or t count 0) b.spelled ∙ get_or_append_left b.digits (letter ∷ rest) 0 count lt in
          absurd (last (omega arith) (rw at_count (digit_at b.digits count b.number.1 lt)))
      | inr (inr gt) ↦
          let at_letter : get_or text (length b.digits) 0 ≡ letter = ap (λ t. get_or t (length b.digits) 0) b.spelled ∙ get_or-append_seam b.digits letter rest 0 in
          let taken : get_or (take count text) (length b.digits) 0 ≡ letter = get_or-take count text (length b.digits) 0 gt ∙ at_letter in
          let inside : length b.digits < length (take count text) = omega (arith, length-take count text) in
          absurd (omega (arith, taken, digit_at (take count text) (length b.digits) digits inside))
    ]

-- so no text begins with a number and this letter where the digits at the front fill it
pub no_letter_left : (letter : ℕ) (text : List ℕ) (count : ℕ) → 57 < letter → AllDigits 10 (take count text) → (count < length text → IsInRange 48 57 (get_or text count 0) → ⊥) → length text ≤ count → (n : ℕ) (rest : List ℕ) → BeginsNumber letter text n rest → ⊥
no_letter_left letter text count low digits last end n rest b =
    let long : length text ≡ length b.digits + (length rest + 1) = ap length b.spelled ∙ length-append b.digits (letter ∷ rest) ∙ omega arith in
    absurd (omega (arith, front_count letter text count n rest low digits last b))

-- or where another octet comes after them
pub no_such_letter : (letter : ℕ) (text : List ℕ) (count : ℕ) → 57 < letter → AllDigits 10 (take count text) → (count < length text → IsInRange 48 57 (get_or text count 0) → ⊥) → get_or text count 0 ≢ letter → (n : ℕ) (rest : List ℕ) → BeginsNumber letter text n rest → ⊥
no_such_letter letter text count low digits last other n rest b =
    let count_is = front_count letter text count n rest low digits last b in
    let at_letter : get_or text (length b.digits) 0 ≡ letter = ap (λ t. get_or t (length b.digits) 0) b.spelled ∙ get_or-append_seam b.digits letter rest 0 in
    other (rw count_is at_letter)

-- or where no digit is at the front
pub no_digits : (letter : ℕ) (text : List ℕ) (count : ℕ) → 57 < letter → AllDigits 10 (take count text) → (count < length text → IsInRange 48 57 (get_or text count 0) → ⊥) → count ≡ 0 → (n : ℕ) (rest : List ℕ) → BeginsNumber letter text n rest → ⊥
no_digits letter text count low digits last none n rest b = absurd (omega (arith, none, b.number.0, front_count letter text count n rest low digits last b))

-- the digits at the front, the letter and what follows it
pub part_taken : (letter : ℕ) (text : List ℕ) (count number : ℕ) → count ≢ 0 → count < length text → AllDigits 10 (take count text) → number ≡ capped (digits_value 10 (take count text)) → get_or text count 0 ≡ letter → TakesCapped letter text number (take (length text - (count + 1)) (drop (count + 1) text))
part_taken letter text count number some inside digits value at =
    let long : length (take count text) ≡ count = omega (arith, length-take count text) in
    let rest : drop count text ≡ letter ∷ take (length text - (count + 1)) (drop (count + 1) text) = drop_more text count 0 inside ∙ (ap (λ z. z ∷ drop (count + 1) text) at ∙ ap (λ z. letter ∷ z) (sym (take_rest text (count + 1)))) in (
      digits_value 10 (take count text),
      record {
        digits = take count text;
        number = (omega (arith, some, long), digits, refl);
        spelled = sym (take-append-drop count text) ∙ ap (λ z. take count text ++ z) rest;
      },
      value,
    )

-- one more digit
pub number_more : (text : List ℕ) (i number product sum : ℕ) → i < length text → 48 ≤ get_or text i 0 → get_or text i 0 ≤ 57 → AllDigits 10 (take i text) → number ≡ capped (digits_value 10 (take i text)) → product ≡ min (number * 10) 18_446_744_073_709_551_615 → sum ≡ min (product + (get_or text i 0 - 48)) 18_446_744_073_709_551_615 → AllDigits 10 (take (i + 1) text) × (sum ≡ capped (digits_value 10 (take (i + 1) text)))
number_more text i number product sum lt low high digits e f g =
    let digit = digit_value_digit (get_or text i 0) (low, high) in
    (digits_more 10 text i lt digits (omega (arith, digit)), omega (arith, e, f, g, digit, digits_value_more 10 text i lt))

-- THE EXACT PART

-- what was taken or skipped as a part of the text
pub part_of : (l : ℕ) (text : List ℕ) (count : ℕ) (left : List ℕ) → TakesOrSkips l text count left → (part : List ℕ) × (n : ℕ) × SpellsPart l part n × (text ≡ part ++ left) × (count ≡ capped n)
part_of l text count left (inl (n, b, e)) =
    (b.digits ++ l ∷ [], n, inr (b.digits, b.number, refl), b.spelled ∙ sym (append_assoc b.digits (l ∷ []) left), e)
part_of l text count left (inr (z, same, f)) = ([], 0, inl (refl, refl), sym same, z)

exact_found' : (text body r1 r2 r3 hp mp sp : List ℕ) (h m s a b c total : ℕ) → text ≡ 84 ∷ body → 0 < length body → SpellsPart 72 hp h → SpellsPart 77 mp m → SpellsPart 83 sp s → body ≡ hp ++ r1 → r1 ≡ mp ++ r2 → r2 ≡ sp ++ r3 → r3 ≡ [] → a ≡ capped h → b ≡ capped m → c ≡ capped s → total ≡ capped (3600 * a + 60 * b + c) → CountsExact text total
exact_found' text body r1 r2 r3 hp mp sp h m s a b c total e some hour minute second f g k end x y z t =
    let whole : body ≡ (hp ++ mp) ++ sp = rw (f, g, k, end) (simp (append_assoc, append-nil) refl) in (
      3600 * h + 60 * m + s,
      record {
        hour_part = hp;
        minute_part = mp;
        second_part = sp;
        hours = h;
        minutes = m;
        seconds = s;
        hour = hour;
        minute = minute;
        second = second;
        some = rw whole at some;
        spelled = e ∙ ap (λ w. 84 ∷ w) whole;
        counted = refl;
      },
      omega (arith, x, y, z, t),
    )

pub exact_found : (text body r1 r2 r3 : List ℕ) (a b c total : ℕ) → text ≡ 84 ∷ body → 0 < length body → TakesOrSkips 72 body a r1 → TakesOrSkips 77 r1 b r2 → TakesOrSkips 83 r2 c r3 → length r3 ≡ 0 → total ≡ capped (3600 * a + 60 * b + c) → CountsExact text total
exact_found text body r1 r2 r3 a b c total e some hour minute second end t =
    let p = part_of 72 body a r1 hour in
    let q = part_of 77 r1 b r2 minute in
    let r = part_of 83 r2 c r3 second in
    exact_found' text body r1 r2 r3 p.0 q.0 r.0 p.1 q.1 r.1 a b c total e some p.2 q.2 r.2 p.3 q.3 r.3 (nil_from_length r3 end) p.4 q.4 r.4 t

-- in an exact part nothing is left after hours, minutes and seconds
pub exact_left : (text body r1 r2 r3 : List ℕ) (a b c total : ℕ) → text ≡ 84 ∷ body → TakesOrSkips 72 body a r1 → TakesOrSkips 77 r1 b r2 → TakesOrSkips 83 r2 c r3 → SpellsExact text total → (r3 ≡ [])
exact_left text body r1 r2 r3 a b c total e hour minute second s =
    let hp = s.hour_part in
    let mp = s.minute_part in
    let sp = s.second_part in
    let here : body ≡ (hp ++ mp) ++ sp = tail 84 84 body ((hp ++ mp) ++ sp) (sym e ∙ s.spelled) in
    let seam : (hp ++ mp) ++ sp ≡ hp ++ (mp ++ (sp ++ [])) = simp (append_assoc, append-nil) refl in
    let m_none = begins_later 77 83 sp [] s.seconds (omega arith) (omega arith) (λ x. omega arith) s.second (begins_nothing 77) in
    let h_none = begins_later 72 77 mp (sp ++ []) s.minutes (omega arith) (omega arith) (λ x. omega arith) s.minute (begins_later 72 83 sp [] s.seconds (omega arith) (omega arith) (λ x. omega arith) s.second (begins_nothing 72)) in
    let first = part_fixed 72 body hp (mp ++ (sp ++ [])) s.hours a r1 (omega arith) s.hour (here ∙ seam) h_none hour in
    let next = part_fixed 77 r1 mp (sp ++ []) s.minutes b r2 (omega arith) s.minute first.0 m_none minute in
    (part_fixed 83 r2 sp [] s.seconds c r3 (omega arith) s.second next.0 (begins_nothing 83) second).0

digits_no_letter : (digits rest more text : List ℕ) (l : ℕ) → 0 < length digits → AllDigits 10 digits → text ≡ digits ++ l ∷ rest → text ≡ 84 ∷ more → ⊥
digits_no_letter [] rest more text l some all e f = absurd (omega arith)
digits_no_letter (c ∷ cs) rest more text l some all e f =
    absurd (omega (arith, head c 84 (cs ++ l ∷ rest) more (sym e ∙ f), digit_from_value c all.0))

-- no number and letter begin an exact part
pub exact_begins : (l : ℕ) (text rest : List ℕ) (n total : ℕ) → SpellsExact text total → BeginsNumber l text n rest → ⊥
exact_begins l text rest n total s b =
    digits_no_letter b.digits rest ((s.hour_part ++ s.minute_part) ++ s.second_part) text l b.number.0 b.number.1 b.spelled s.spelled

-- DAYS AND WEEKS

pub days_alone : (text rest : List ℕ) (count : ℕ) → TakesCapped 68 text count rest → length rest ≡ 0 → CountsDays text count 0
days_alone text rest count (n, b, e) end =
    (n, 0, inl (b.digits, b.number, rw (nil_from_length rest end) at b.spelled, refl), e, refl)

pub days_of_time : (text : List ℕ) (count : ℕ) → CountsExact text count → CountsDays text 0 count
days_of_time text count (total, s, e) = (0, total, inr (inl (s, refl)), refl, e)

pub days_none : (text : List ℕ) → ((n : ℕ) (rest : List ℕ) → BeginsNumber 68 text n rest → ⊥) → ((total : ℕ) → SpellsExact text total → ⊥) → (days seconds : ℕ) → SpellsDays text days seconds → ⊥
days_none text f g days seconds (inl (digits, number, e, z)) = f days [] (record { digits = digits; number = number; spelled = e })
days_none text f g days seconds (inr (inl (s, z))) = g seconds s
days_none text f g days seconds (inr (inr (digits, exact, number, s, e))) = f days exact (record { digits = digits; number = number; spelled = e })

pub days_rest_none : (text rest : List ℕ) (n : ℕ) → BeginsNumber 68 text n rest → length rest ≢ 0 → ((total : ℕ) → SpellsExact rest total → ⊥) → (days seconds : ℕ) → SpellsDays text days seconds → ⊥
days_rest_none text rest n b some g days seconds (inl (digits, number, e, z)) =
    let same = begins_same 68 68 text n days rest [] (omega arith) (omega arith) b (record { digits = digits; number = number; spelled = e }) in
    some (ap length same.2)
days_rest_none text rest n b some g days seconds (inr (inl (s, z))) = exact_begins 68 text rest n seconds s b
days_rest_none text rest n b some g days seconds (inr (inr (digits, exact, number, s, e))) =
    let same = begins_same 68 68 text n days rest exact (omega arith) (omega arith) b (record { digits = digits; number = number; spelled = e }) in
    g seconds (rw (← same.2) at s)

-- a text that begins with days spells no weeks
pub days_begin : (text rest : List ℕ) (n days seconds : ℕ) → BeginsNumber 87 text n rest → SpellsDays text days seconds → ⊥
days_begin text rest n days seconds b (inl (digits, number, e, z)) =
    absurd (omega (arith, (begins_same 87 68 text n days rest [] (omega arith) (omega arith) b (record { digits = digits; number = number; spelled = e })).0))
days_begin text rest n days seconds b (inr (inl (s, z))) = exact_begins 87 text rest n seconds s b
days_begin text rest n days seconds b (inr (inr (digits, exact, number, s, e))) =
    absurd (omega (arith, (begins_same 87 68 text n days rest exact (omega arith) (omega arith) b (record { digits = digits; number = number; spelled = e })).0))

-- AFTER THE P

unsigned_of : (text body : List ℕ) (days seconds : ℕ) → text ≡ 80 ∷ body → SpellsUnsigned text days seconds → SpellsCounts body days seconds
unsigned_of text body days seconds e (counts, h, f) = rw (tail 80 80 counts body (sym f ∙ e)) at h

pub unsigned_weeks : (text body rest : List ℕ) (count product : ℕ) → text ≡ 80 ∷ body → TakesCapped 87 body count rest → length rest ≡ 0 → product ≡ min (count * 7) 18_446_744_073_709_551_615 → CountsUnsigned text product 0
unsigned_weeks text body rest count product e (n, b, f) end g =
    (7 * n, 0, (body, inl (b.digits, n, b.number, rw (nil_from_length rest end) at b.spelled, refl, refl), e), omega (arith, f, g), refl)

pub unsigned_days : (text body : List ℕ) (d s : ℕ) → text ≡ 80 ∷ body → CountsDays body d s → CountsUnsigned text d s
unsigned_days text body d s e (days, seconds, h, f, g) = (days, seconds, (body, inr h, e), f, g)

pub unsigned_no_weeks : (text body : List ℕ) → text ≡ 80 ∷ body → ((n : ℕ) (rest : List ℕ) → BeginsNumber 87 body n rest → ⊥) → ((days seconds : ℕ) → SpellsDays body days seconds → ⊥) → (days seconds : ℕ) → SpellsUnsigned text days seconds → ⊥
unsigned_no_weeks text body e f g days seconds u =
    elim (unsigned_of text body days seconds e u) [
      | inl (digits, weeks, number, h, x, y) ↦ f weeks [] (record { digits = digits; number = number; spelled = h })
      | inr h ↦ g days seconds h
    ]

pub unsigned_weeks_rest : (text body rest : List ℕ) (n : ℕ) → text ≡ 80 ∷ body → BeginsNumber 87 body n rest → length rest ≢ 0 → (days seconds : ℕ) → SpellsUnsigned text days seconds → ⊥
unsigned_weeks_rest text body rest n e b some days seconds u =
    elim (unsigned_of text body days seconds e u) [
      | inl (digits, weeks, number, h, x, y) ↦
          some (ap length (begins_same 87 87 body n weeks rest [] (omega arith) (omega arith) b (record { digits = digits; number = number; spelled = h })).2)
      | inr h ↦ days_begin body rest n days seconds b h
    ]
