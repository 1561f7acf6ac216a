-- Where the octets of a preamble lead, and where it ends.
use Rattle.std.proofs.Common.{◌≡◌, ◌⊎◌, inl, inr, ℕ, ℤ, ◌+◌, ◌-◌, ◌<◌, ◌≤◌, Bool, true, false, cond, eqb, List, [], ◌∷◌, ◌++◌, length, Option, Some, None, IfSome, OnSome, zero, suc, min, take, drop, get_or, nat_lt, ◌&&◌, not, length-drop, length-take, length-take-le, refl, sym, ap, subst, ◌∙◌, arith, length-append, true≢false}
use Rattle.std.proofs.lemmas.Bool.{false_from_ne_true}
use Rattle.std.proofs.lemmas.Bool.Decides.{nat_tests}
use Rattle.memchr.specs.Find.{IsFirstByte, is_byte}
use Rattle.std.proofs.lemmas.List.{append_assoc, append_cancel_right, get_or-take, take_all, take_more}
use Rattle.std.specs.Io.KnownBytes.{Consumes, IsAtEnd, prepend_known}
use Rattle.profile.specs.streams.Streams.{Setting, SaysSettings, by_end, by_lf, by_crlf, last, with_lf, with_crlf, Config, IsPreamble}
use Rattle.sched_box.specs.declared.preamble.LineState.{LineState}
use Rattle.sched_box.specs.declared.preamble.LineState.TheVariants.{Start, Return, Inside, Closed}
use Rattle.sched_box.specs.Preamble.{is_closed, next_place, place_after, rest_of, Leads, TakesPreamblePiece, TakesPreamble, IsLong, OpensNothing, OpensStream, OpensNot, StopsInPreamble}
use Rattle.sched_box.specs.Objects.{LendsNothing}
use Rattle.sched_box.specs.declared.fault.ServeFault.{ServeFault}
use Rattle.sched_box.proofs.ObjectLemmas.{nothing_next}
use Rattle.sched_devices.specs.Input.{IsFilledWithin, MayFollow}
use Rattle.sched_devices.proofs.InputLemmas.{consumes_back}
use Rattle.sched_box.specs.declared.fault.StreamFault.{StreamFault}
use Rattle.sched_box.specs.declared.fault.StreamFault.TheVariants.{Refused, Serve}
use Rattle.ical_lines.specs.declared.fault.Fault.{Fault}
use Rattle.ical_lines.specs.declared.fault.Fault.TheVariants as fault
use Rattle.ical_lines.specs.declared.fault.Refusal.{Refusal}
use Rattle.ical_values.specs.Refused.{IfRefused}
use Rattle.sched_box.specs.Faults.{IfRefusedStream}
use Rattle.sched_box.proofs.Lines.{Above, setting_above, setting_some}

-- ---- leading on

pub leads_none : (p : LineState) → Leads p [] p
leads_none p = record { place = refl; rest = λ more. refl }

place_append : (p : LineState) (xs ys : List ℕ) → place_after p (xs ++ ys) ≡ place_after (place_after p xs) ys
place_append p [] ys = refl
place_append p (x ∷ xs) ys = place_append (next_place p x) xs ys

pub leads_trans : (a b c : LineState) (xs ys : List ℕ) → Leads a xs b → Leads b ys c → Leads a (xs ++ ys) c
leads_trans a b c xs ys l m = record {
  place = place_append a xs ys ∙ ap (λ p. place_after p ys) l.place ∙ m.place;
  rest = λ more. ap (rest_of a) (append_assoc xs ys more) ∙ l.rest (ys ++ more) ∙ m.rest more;
}

pub leads_step : (p : LineState) (x : ℕ) → is_closed p ≡ false → Leads p (x ∷ []) (next_place p x)
leads_step p x open' = record {
  place = refl;
  rest = λ more. ap (λ b. cond b (x ∷ more) (rest_of (next_place p x) more)) open';
}

closed_rest : (ys : List ℕ) → rest_of Closed ys ≡ ys
closed_rest [] = refl
closed_rest (y ∷ ys) = refl

rest_short : (p : LineState) (ys : List ℕ) → length (rest_of p ys) ≤ length ys
rest_short p [] = omega arith
rest_short Closed (y ∷ ys) = omega arith
rest_short Start (y ∷ ys) = let h = rest_short (next_place Start y) ys in omega arith
rest_short Return (y ∷ ys) = let h = rest_short (next_place Return y) ys in omega arith
rest_short Inside (y ∷ ys) = let h = rest_short (next_place Inside y) ys in omega arith

-- ---- the rest of a line, up to its LF

no_lf_leads : (cs : List ℕ) → ((k : ℕ) → k < length cs → eqb (get_or cs k 0) 10 ≡ false) → Leads Inside cs Inside
no_lf_leads [] h = leads_none Inside
no_lf_leads (c ∷ cs) h =
    let here : next_place Inside c ≡ Inside = ap (λ b. cond b Start Inside) (h 0 (omega arith)) in
    let P : LineState → Type 0 = Leads Inside (c ∷ []) in
    leads_trans Inside Inside Inside (c ∷ []) cs (subst P here (leads_step Inside c refl)) (no_lf_leads cs (λ k l. h (suc k) (omega arith)))

lf_leads : (c : ℕ) → eqb c 10 ≡ true → Leads Inside (c ∷ []) Start
lf_leads c h =
    let P : LineState → Type 0 = Leads Inside (c ∷ []) in
    subst P (ap (λ b. cond b Start Inside) h) (leads_step Inside c refl)

pub line_ends : (lent : List ℕ) (end : ℕ) → IsFirstByte (is_byte 10) lent (Some end) → Leads Inside (take (end + 1) lent) Start
line_ends lent end found =
    let within : end < length lent = omega (arith, found.0.high) in
    let front = no_lf_leads (take end lent) (λ k l. let m : k < end = omega (arith, l, length-take end lent) in rw (get_or-take end lent k 0 m) (false_from_ne_true (eqb (get_or lent k 0) 10) (found.0.before k (omega arith) m))) in
    subst (λ (z : List ℕ). Leads Inside z Start) (sym (take_more lent end 0 within)) (leads_trans Inside Inside Start (take end lent) (get_or lent end 0 ∷ []) front (lf_leads (get_or lent end 0) found.1))

pub line_goes : (lent : List ℕ) → IsFirstByte (is_byte 10) lent None → Leads Inside (take (length lent) lent) Inside
line_goes lent none =
    subst (λ (z : List ℕ). Leads Inside z Inside) (sym (take_all (length lent) lent (omega arith))) (no_lf_leads lent (λ k l. false_from_ne_true (eqb (get_or lent k 0) 10) (none k (omega arith) l)))

-- ---- where settings lead

no_ten : (c : ℕ) → 32 ≤ c → eqb c 10 ≡ false
no_ten c h = grind (arith, nat_tests)

no_thirteen : (c : ℕ) → 32 ≤ c → eqb c 13 ≡ false
no_thirteen c h = grind (arith, nat_tests)

inside : (c : ℕ) → 32 ≤ c → next_place Inside c ≡ Inside
inside c h = ap (λ b. cond b Start Inside) (no_ten c h)

starts : (c : ℕ) → 32 ≤ c → next_place Start c ≡ Inside
starts c h = ap (λ b. cond b Closed (cond (eqb c 13) Return Inside)) (no_ten c h) ∙ ap (λ b. cond b Return Inside) (no_thirteen c h)

inside_leads : (cs : List ℕ) → Above cs → Leads Inside cs Inside
inside_leads [] a = leads_none Inside
inside_leads (c ∷ cs) a =
    let P : LineState → Type 0 = Leads Inside (c ∷ []) in
    leads_trans Inside Inside Inside (c ∷ []) cs (subst P (inside c a.0) (leads_step Inside c refl)) (inside_leads cs a.1)

line_leads : (cs : List ℕ) → Above cs → 0 < length cs → Leads Start cs Inside
line_leads [] a some = absurd (omega arith)
line_leads (c ∷ cs) a some =
    let P : LineState → Type 0 = Leads Start (c ∷ []) in
    leads_trans Start Inside Inside (c ∷ []) cs (subst P (starts c a.0) (leads_step Start c refl)) (inside_leads cs a.1)

pub says_leads : {closed : Bool} {octets : List ℕ} {list : List Setting} → SaysSettings closed octets list → (place : LineState) × Leads Start octets place × (is_closed place ≡ closed)
says_leads by_end = (Start, leads_none Start, refl)
says_leads by_lf = (Closed, leads_step Start 10 refl, refl)
says_leads by_crlf = (Closed, leads_trans Start Return Closed (13 ∷ []) (10 ∷ []) (leads_step Start 13 refl) (leads_step Return 10 refl), refl)
says_leads (last line setting is) = (Inside, line_leads line (setting_above line setting is) (setting_some line setting is), refl)
says_leads (with_lf {closed} {rest} {settings} line setting is says) =
    let (place, leads, closes) = says_leads says in
    (place, leads_trans Start Inside place line (10 ∷ rest) (line_leads line (setting_above line setting is) (setting_some line setting is)) (leads_trans Inside Start place (10 ∷ []) rest (leads_step Inside 10 refl) leads), closes)
says_leads (with_crlf {closed} {rest} {settings} line setting is says) =
    let (place, leads, closes) = says_leads says in (
      place,
      leads_trans Start Inside place line (13 ∷ 10 ∷ rest) (line_leads line (setting_above line setting is) (setting_some line setting is))
          (leads_trans Inside Inside place (13 ∷ []) (10 ∷ rest) (leads_step Inside 13 refl) (leads_trans Inside Start place (10 ∷ []) rest (leads_step Inside 10 refl) leads)),
      closes,
    )

-- what follows a preamble
follows : (octets preamble rest : List ℕ) (closed : Bool) (moment : ℤ) (hosts : Config)
    → octets ≡ preamble ++ rest → (closed ≡ false → rest ≡ []) → IsPreamble closed preamble moment hosts → rest_of Start octets ≡ rest
follows octets preamble rest closed moment hosts is all says =
    let (place, leads, closes) = says_leads says.says in
    ap (rest_of Start) is ∙ leads.rest rest ∙ at closed place closes all
  where
    at : (c : Bool) (p : LineState) → is_closed p ≡ c → (c ≡ false → rest ≡ []) → rest_of p rest ≡ rest
    at true Closed e h = closed_rest rest
    at true Start e h = absurd (true≢false (sym e))
    at true Return e h = absurd (true≢false (sym e))
    at true Inside e h = absurd (true≢false (sym e))
    at false p e h = ap (rest_of p) (h refl) ∙ sym (h refl)

-- ---- what was taken from a reader

-- the place where the octets lead is one
one_place : (octets : List ℕ) (a b : LineState) → Leads Start octets a → Leads Start octets b → a ≡ b
one_place octets a b l m = sym l.place ∙ m.place

pub opened : (a b : Option (List ℕ)) (octets : List ℕ) (moment : ℤ) (hosts : Config) → TakesPreamble a b octets → (closed : Bool) → IsPreamble closed octets moment hosts → OpensStream a b moment hosts
opened a b octets moment hosts t closed says = record {
  preamble = octets;
  closed = closed;
  consumed = t.consumed;
  says = says;
  all = λ e.
      let (place, leads, closes) = says_leads says.says in
      at t.stops (ap is_closed (one_place octets t.place place t.leads leads) ∙ closes ∙ e);
}
  where
    at : (t.place ≡ Closed) ⊎ OnSome a (IsAtEnd b) → is_closed t.place ≡ false → OnSome a (IsAtEnd b)
    at (inl e) no_end = absurd (true≢false (sym (ap is_closed e) ∙ no_end))
    at (inr end) no_end = end

pub opens_not : (a b : Option (List ℕ)) (octets : List ℕ) → TakesPreamble a b octets
    → ((closed : Bool) (moment : ℤ) (hosts : Config) → IsPreamble closed octets moment hosts → ⊥) → IfSome a OpensNot
opens_not None b octets t none = tt
opens_not (Some xs) None octets t none = absurd t.consumed
opens_not (Some xs) (Some ys) octets t none = refuses
  where
    after : (t.place ≡ Closed) ⊎ (ys ≡ []) → rest_of t.place ys ≡ ys
    after (inl e) = ap (λ p. rest_of p ys) e ∙ closed_rest ys
    after (inr e) = ap (rest_of t.place) e ∙ sym e

    refuses : OpensNot xs
    refuses preamble rest closed moment hosts is all says =
        let there : rest_of Start xs ≡ rest = follows xs preamble rest closed moment hosts is all says in
        let here : rest_of Start xs ≡ ys = ap (rest_of Start) t.consumed ∙ t.leads.rest ys ∙ after t.stops in
        let same : rest ≡ ys = sym there ∙ here in
        let whole : preamble ≡ octets = append_cancel_right preamble octets ys (sym (ap (λ z. preamble ++ z) same) ∙ sym is ∙ t.consumed) in
        let P : List ℕ → Type 0 = λ z. IsPreamble closed z moment hosts in
        none closed moment hosts (subst P whole says)

pub long_not : (octets : List ℕ) → IsLong octets → OpensNot octets
long_not octets long preamble rest closed moment hosts is all says =
    let there : length (rest_of Start octets) ≡ length rest = ap length (follows octets preamble rest closed moment hosts is all says) in
    let split : length octets ≡ length preamble + length rest = ap length is ∙ length-append preamble rest in
    let short = says.short in
    omega arith

pub long_not_known : (a : Option (List ℕ)) → IfSome a IsLong → IfSome a OpensNot
long_not_known None h = tt
long_not_known (Some xs) h = long_not xs h

pub too_long : (a b : Option (List ℕ)) (octets : List ℕ) (place : LineState) → Consumes a b octets → Leads Start octets place → 65_536 < length octets → IfSome a IsLong
too_long None b octets place c l long = tt
too_long (Some xs) None octets place c l long = absurd c
too_long (Some xs) (Some ys) octets place c l long =
    let rest : length (rest_of Start xs) ≡ length (rest_of place ys) = ap length (ap (rest_of Start) c ∙ l.rest ys) in
    let less : length (rest_of place ys) ≤ length ys = rest_short place ys in
    let split : length xs ≡ length octets + length ys = ap length c ∙ length-append octets ys in
    omega arith

-- ---- a piece

-- what is taken of what a reader lends, of which at most this many octets are looked at
pub piece : (lent left : List ℕ) (has_ended : Bool) (most count : ℕ) (from to : LineState) (goes : Bool) → count ≤ length (take most lent) → most ≡ min (length lent) 65_537
    → left ≡ drop count lent → (length lent ≡ 0 → has_ended ≡ true) → Leads from (take count (take most lent)) to
    → (is_closed from ≡ false → 0 < length (take most lent) → 0 < count) → goes ≡ (nat_lt 0 count && not (is_closed to))
    → TakesPreamblePiece left has_ended from to (take count (take most lent)) goes
piece lent left has_ended most count from to goes within most_is left_is end leads some goes_is =
    let long : length (take most lent) ≡ most = length-take-le most lent (omega arith) in
    let count_is : length (take count (take most lent)) ≡ count = length-take-le count (take most lent) within in
    record {
      leads = leads;
      stops = λ e. stop (is_closed from) refl (is_closed to) refl (sym goes_is ∙ e);
      some = λ e. goes_some (is_closed to) (sym (goes_is ∙ refl) ∙ e) count_is;
    }
  where
    not_closed : (b : Bool) → (true && not b) ≡ true → b ≡ false
    not_closed true e = absurd (true≢false (sym e))
    not_closed false e = refl

    goes_some : (b : Bool) → (nat_lt 0 count && not b) ≡ true → length (take count (take most lent)) ≡ count → (0 < length (take count (take most lent))) × (b ≡ false)
    goes_some b e is =
        let h : nat_lt 0 count ≡ true = grind (arith, nat_tests) in
        let k : 0 < count = grind (arith, nat_tests) in
        (omega arith, not_closed b (sym (ap (λ (x : Bool). x && not b) h) ∙ e))

    closed_to : (p : LineState) → is_closed p ≡ true → p ≡ Closed
    closed_to Start e = absurd (true≢false (sym e))
    closed_to Return e = absurd (true≢false (sym e))
    closed_to Inside e = absurd (true≢false (sym e))
    closed_to Closed e = refl

    none_taken : count ≡ 0 → from ≡ to
    none_taken e = sym (ap (λ n. place_after from (take n (take most lent))) e) ∙ leads.place

    zero_count : (nat_lt 0 count && true) ≡ false → count ≡ 0
    zero_count e = grind (arith, nat_tests)

    nothing : (n : ℕ) → (0 < n → 0 < count) → count ≡ 0 → n ≡ most → length lent ≡ 0
    nothing zero h none e = omega arith
    nothing (suc n) h none e = let k = h (omega arith) in absurd (omega arith)

    no_lent : count ≡ 0 → (0 < length (take most lent) → 0 < count) → length lent ≡ 0
    no_lent none h = nothing (length (take most lent)) h none (length-take-le most lent (omega arith))

    none_of : (xs : List ℕ) → length xs ≡ 0 → xs ≡ []
    none_of [] e = refl
    none_of (x ∷ xs) e = absurd (omega arith)

    stop : (f : Bool) → is_closed from ≡ f → (t : Bool) → is_closed to ≡ t → (nat_lt 0 count && not (is_closed to)) ≡ false → (to ≡ Closed) ⊎ LendsNothing left has_ended
    stop f fe true te e = inl (closed_to to te)
    stop true fe false te e =
        let none : count ≡ 0 = zero_count (ap (λ b. nat_lt 0 count && not b) (sym te) ∙ e) in
        inl (sym (none_taken none) ∙ closed_to from fe)
    stop false fe false te e =
        let none : count ≡ 0 = zero_count (ap (λ b. nat_lt 0 count && not b) (sym te) ∙ e) in
        let nothing_lent : length lent ≡ 0 = no_lent none (some fe) in
        inr (left_is ∙ none_of (drop count lent) (omega (arith, nothing_lent, length-drop count lent)), end nothing_lent)

-- the last piece
pub taken_all : (lent : List ℕ) (has_ended : Bool) (octets taken : List ℕ) (place to : LineState) (goes : Bool) → Leads Start octets place → TakesPreamblePiece lent has_ended place to taken goes → goes ≡ false
    → (left : Option (List ℕ)) → IfSome left (MayFollow lent has_ended) → TakesPreamble (prepend_known (octets ++ taken) left) left (octets ++ taken)
taken_all lent has_ended octets taken place to goes leads t e left follows = record {
  place = to;
  consumed = consumes_back (octets ++ taken) left;
  leads = leads_trans Start place to octets taken leads t.leads;
  stops = at (t.stops e);
}
  where
    at : (to ≡ Closed) ⊎ LendsNothing lent has_ended → (to ≡ Closed) ⊎ OnSome (prepend_known (octets ++ taken) left) (IsAtEnd left)
    at (inl closes) = inl closes
    at (inr none) = inr (nothing_next (octets ++ taken) lent has_ended left follows none)

-- the reader was filled seldom
pub filled_once : (a c : Option (List ℕ)) (octets : List ℕ) (fills spent lent : ℕ) → Consumes a c octets → spent ≤ fills + (1 - lent) + length octets → IsFilledWithin 1 fills spent a c
filled_once None c octets fills spent lent consumed few = tt
filled_once (Some xs) None octets fills spent lent consumed few = absurd consumed
filled_once (Some xs) (Some ys) octets fills spent lent consumed few =
    let split : length xs ≡ length octets + length ys = ap length consumed ∙ length-append octets ys in
    omega arith

-- ---- no octet past the empty line was taken

pub stops : (a b : Option (List ℕ)) (octets : List ℕ) (place : LineState) → Consumes a b octets → Leads Start octets place → StopsInPreamble a b
stops a b octets place consumed l = record { taken = octets; consumed = consumed; within = short a b consumed }
  where
    short : (a b : Option (List ℕ)) → Consumes a b octets → IfSome a (λ xs. IfSome b (λ ys. length (rest_of Start xs) ≤ length ys))
    short None b c = tt
    short (Some xs) None c = tt
    short (Some xs) (Some ys) c =
        let all : length (rest_of Start xs) ≡ length (rest_of place ys) = ap (λ z. length (rest_of Start z)) c ∙ ap length (l.rest ys) in
        let few = rest_short place ys in
        omega arith

pub stops_after : (a b : Option (List ℕ)) (octets : List ℕ) → TakesPreamble a b octets → StopsInPreamble a b
stops_after a b octets t = stops a b octets t.place t.consumed t.leads

-- where the reader failed or memory was refused
pub stopped_reading : (octets : List ℕ) (place : LineState) (fault : StreamFault) (serve : ServeFault) → fault ≡ Serve serve → Leads Start octets place → (left : Option (List ℕ)) → OpensNothing fault (prepend_known octets left) left
stopped_reading octets place fault serve is leads left =
    subst (λ f. OpensNothing f (prepend_known octets left) left) (sym is) (stops (prepend_known octets left) left octets place (consumes_back octets left) leads)

-- where the preamble is too long
pub stopped_long : (octets : List ℕ) (place : LineState) → Leads Start octets place → 65_536 < length octets → (left : Option (List ℕ))
    → IfSome (prepend_known octets left) OpensNot × StopsInPreamble (prepend_known octets left) left
stopped_long octets place leads long left =
    let all = prepend_known octets left in
    let consumed = consumes_back octets left in
    (long_not_known all (too_long all left octets place consumed leads long), stops all left octets place consumed leads)

-- of octets of which nothing is known nothing is said
pub any_opened : (moment : ℤ) (hosts : Config) (left : Option (List ℕ)) → OpensStream None None moment hosts → OpensStream None left moment hosts
any_opened moment hosts left opens = record { preamble = opens.preamble; closed = opens.closed; consumed = tt; says = opens.says; all = λ e. tt }

pub any_nothing : (fault : StreamFault) (left : Option (List ℕ)) → OpensNothing fault None None → OpensNothing fault None left
any_nothing (Refused refusal) left (none, stop) = (tt, record { taken = stop.taken; consumed = tt; within = tt })
any_nothing (Serve fault) left stop = record { taken = stop.taken; consumed = tt; within = tt }

pub nothing_stops : (fault : StreamFault) (a b : Option (List ℕ)) → OpensNothing fault a b → StopsInPreamble a b
nothing_stops (Refused refusal) a b h = h.1
nothing_stops (Serve fault) a b h = h

pub nothing_refuses : (fault : StreamFault) (a b : Option (List ℕ)) → OpensNothing fault a b → IfRefusedStream (IfSome a OpensNot) fault
nothing_refuses (Refused refusal) a b h = h.0
nothing_refuses (Serve fault) a b h = tt

pub refused_is : (P : Type 0) (f : Fault) (r : Refusal) → f ≡ fault.Refused r → IfRefused P f → P
refused_is P fault.Memory r e h = absurd (cc)
refused_is P (fault.Refused x) r e h = h
