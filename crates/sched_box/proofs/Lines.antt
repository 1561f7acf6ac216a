-- What is in the lines of a preamble: no octet below a space; and where the first line of some octets ends.
use Rattle.std.proofs.Common.{◌≡◌, ◌≢◌, ℕ, zero, suc, ◌/◌, ◌%◌, ◌<◌, ◌≤◌, Bool, true, false, List, [], ◌∷◌, ◌++◌, length, get_or, take, cond, ◌==◌, ◌&&◌, nat_lt, decimal, refl, sym, ap, subst, ◌∙◌, arith, codes, inl, inr, ◌⊎◌, ℤ, ◌+◌, ◌^◌, Option, Some, None}
use Rattle.std.proofs.lemmas.Bool.Decides.{nat_tests}
use Rattle.std.proofs.lemmas.List.{append_cancel_right, append_assoc}
use Rattle.std.proofs.lemmas.Fmt.{decimal_by_steps}
use Rattle.std.specs.Int.{is_negative}
use Rattle.std.specs.Prelude.{unsigned_abs}
use Rattle.std.specs.List.{list_all}
use Rattle.profile.specs.text.Values.{two_digits, four_digits, SpellsDate, SpellsTime, SpellsClock, SpellsStamp, WritesOffset, IsAddress, is_scheme, is_scheme_octet, is_path, is_path_octet}
use Rattle.profile.specs.faults.Faults.{is_between}
use Rattle.profile.specs.series.RoomZones.{IsRoomZone, BeginsSo, WritesHourMinute, WritesMonthDay}
use Rattle.profile.specs.series.RuleTexts.{weekday_word}
use Rattle.profile.specs.series.Zones.{Observance, Zone}
use Rattle.profile.specs.series.ZoneTexts.{MonthDays, OnDay, FromStart, FromEnd, InWeek, is_each_year}
use Rattle.profile.specs.streams.Streams.{Setting, Now, Room, InZone, Organiser, IsSetting, SaysSettings, by_end, by_lf, by_crlf, last, with_lf, with_crlf}
use Rattle.sched_box.specs.Settings.{IsUnbroken, Breaks}

-- ---- no octet is below a space

abbrev pub Above : List ℕ → Type 0
Above [] = Unit {0}
Above (c ∷ cs) = (32 ≤ c) × Above cs

pub above_append : (xs ys : List ℕ) → Above xs → Above ys → Above (xs ++ ys)
above_append [] ys a b = b
above_append (x ∷ xs) ys a b = (a.0, above_append xs ys a.1 b)

above_two : (n : ℕ) → Above (two_digits n)
above_two n = (omega arith, (omega arith, tt))

above_date : (text : List ℕ) (n : ℤ) → SpellsDate text n → Above text
above_date text n s =
    let P : List ℕ → Type 0 = Above in
    let four = above_append (two_digits (s.year / 100)) (two_digits (s.year % 100)) (above_two (s.year / 100)) (above_two (s.year % 100)) in
    subst P (sym s.spelled) (above_append (four_digits s.year ++ two_digits s.month) (two_digits s.day) (above_append (four_digits s.year) (two_digits s.month) four (above_two s.month)) (above_two s.day))

above_time : (limit : ℕ) (text : List ℕ) (n : ℕ) → SpellsTime limit text n → Above text
above_time limit text n s =
    let P : List ℕ → Type 0 = Above in
    subst P (sym s.spelled) (above_append (two_digits s.hour ++ two_digits s.minute) (two_digits s.second) (above_append (two_digits s.hour) (two_digits s.minute) (above_two s.hour) (above_two s.minute)) (above_two s.second))

above_clock : (limit : ℕ) (text : List ℕ) (n : ℤ) → SpellsClock limit text n → Above text
above_clock limit text n s =
    let P : List ℕ → Type 0 = Above in
    subst P (sym s.spelled) (above_append (s.date ++ codes "T") s.time (above_append s.date (codes "T") (above_date s.date s.number s.on) (omega arith, tt)) (above_time limit s.time s.second s.at_second))

above_stamp : (text : List ℕ) (t : ℤ) → SpellsStamp text t → Above text
above_stamp text t s =
    let P : List ℕ → Type 0 = Above in
    subst P (sym s.2) (above_append s.0 (codes "Z") (above_clock 60 s.0 t s.1) (omega arith, tt))

-- each octet comes after the space
abbrev Past : List ℕ → Type 0
Past [] = Unit {0}
Past (c ∷ cs) = (33 ≤ c) × Past cs

past_append : (xs ys : List ℕ) → Past xs → Past ys → Past (xs ++ ys)
past_append [] ys a b = b
past_append (x ∷ xs) ys a b = (a.0, past_append xs ys a.1 b)

above_past : (xs : List ℕ) → Past xs → Above xs
above_past [] p = tt
above_past (x ∷ xs) p = (omega (arith, p.0), above_past xs p.1)

scheme_octets : (cs : List ℕ) → list_all is_scheme_octet cs ≡ true → Past cs
scheme_octets [] h = tt
scheme_octets (c ∷ cs) h =
    let rest : list_all is_scheme_octet cs ≡ true = grind (arith, nat_tests) in
    let first : 33 ≤ c = grind (arith, nat_tests) in
    (first, scheme_octets cs rest)

past_scheme : (cs : List ℕ) → is_scheme cs ≡ true → Past cs
past_scheme [] h = tt
past_scheme (c ∷ cs) h =
    let rest : list_all is_scheme_octet cs ≡ true = grind (arith, nat_tests) in
    let first : 33 ≤ c = grind (arith, nat_tests) in
    (first, scheme_octets cs rest)

path_octets : (cs : List ℕ) → list_all is_path_octet cs ≡ true → Past cs
path_octets [] h = tt
path_octets (c ∷ cs) h =
    let rest : list_all is_path_octet cs ≡ true = grind (arith, nat_tests) in
    let first : 33 ≤ c = grind (arith, nat_tests) in
    (first, path_octets cs rest)

path_all : (cs : List ℕ) → is_path cs ≡ true → list_all is_path_octet cs ≡ true
path_all cs h = grind (arith, nat_tests)

past_address : (text : List ℕ) → IsAddress text → Past text
past_address text a =
    let P : List ℕ → Type 0 = Past in
    subst P (sym a.2) (past_append a.0 (codes ":" ++ a.1) (past_scheme a.0 a.3) (omega arith, path_octets a.1 (path_all a.1 a.4)))

above_address : (text : List ℕ) → IsAddress text → Above text
above_address text a = above_past text (past_address text a)

-- the words of a zone
above_take : (n : ℕ) (xs : List ℕ) → Above xs → Above (take n xs)
above_take zero xs a = tt
above_take (suc n) [] a = tt
above_take (suc n) (x ∷ xs) a = (a.0, above_take n xs a.1)

above_either : (b : Bool) (xs ys : List ℕ) → Above xs → Above ys → Above (cond b xs ys)
above_either true xs ys a c = a
above_either false xs ys a c = c

above_offset : (text : List ℕ) (offset : ℤ) → WritesOffset text offset → Above text
above_offset text offset (time, spelled, is) =
    let all = above_time 59 time (unsigned_abs offset) spelled in
    let plus : Above (codes "+") = (omega arith, tt) in
    let minus : Above (codes "-") = (omega arith, tt) in
    let P : List ℕ → Type 0 = Above in
    subst P (sym is)
    (above_append (cond (is_negative offset) (codes "-") (codes "+")) (cond (unsigned_abs offset % 60 == 0) (take 4 time) time)
    (above_either (is_negative offset) (codes "-") (codes "+") minus plus)
    (above_either (unsigned_abs offset % 60 == 0) (take 4 time) time (above_take 4 time all) all))

above_decimal : (n : ℕ) → n < 2 ^ 64 → Above (decimal n)
above_decimal =
    decimal_by_steps (λ n ds. Above ds)
    (λ n l. (omega arith, tt))
    (λ n ds l a. above_append ds ((48 + n % 10) ∷ []) a (omega arith, tt))

above_weekday : (n : ℕ) → Above (weekday_word n)
above_weekday n =
    let mo : Above (codes "MO") = (omega arith, (omega arith, tt)) in
    let tu : Above (codes "TU") = (omega arith, (omega arith, tt)) in
    let we : Above (codes "WE") = (omega arith, (omega arith, tt)) in
    let th : Above (codes "TH") = (omega arith, (omega arith, tt)) in
    let fr : Above (codes "FR") = (omega arith, (omega arith, tt)) in
    let sa : Above (codes "SA") = (omega arith, (omega arith, tt)) in
    let su : Above (codes "SU") = (omega arith, (omega arith, tt)) in
    let from_sa = above_either (n == 5) (codes "SA") (codes "SU") sa su in
    let from_fr = above_either (n == 4) (codes "FR") _ fr from_sa in
    let from_th = above_either (n == 3) (codes "TH") _ th from_fr in
    let from_we = above_either (n == 2) (codes "WE") _ we from_th in
    let from_tu = above_either (n == 1) (codes "TU") _ tu from_we in
    above_either (n == 0) (codes "MO") _ mo from_tu

small_parts : (m n k : ℕ) → (is_between 1 12 m && is_between 1 4 n && nat_lt k 7) ≡ true → (m < 13) × (n < 5)
small_parts m n k h =
    let month : m < 13 = grind (arith, nat_tests) in
    let number : n < 5 = grind (arith, nat_tests) in
    (month, number)

above_day : (day : List ℕ) (month : ℕ) (days : MonthDays) → is_each_year month days ≡ true → WritesMonthDay day days → (month < 13) × Above day
above_day day month (OnDay n) h w = absurd w
above_day day month (FromStart n k) h w =
    let small = small_parts month n k h in
    let P : List ℕ → Type 0 = Above in
    (small.0, subst P (sym w) (above_append (decimal n) (weekday_word k) (above_decimal n (omega arith)) (above_weekday k)))
above_day day month (FromEnd n k) h w =
    let small = small_parts month n k h in
    let P : List ℕ → Type 0 = Above in
    (small.0, subst P (sym w) (above_append (codes "-" ++ decimal n) (weekday_word k) (above_append (codes "-") (decimal n) (omega arith, tt) (above_decimal n (omega arith))) (above_weekday k)))
above_day day month (InWeek n k) h w = absurd w

above_minutes : (text : List ℕ) (second : ℕ) → WritesHourMinute text second → Above text
above_minutes text second w =
    let P : List ℕ → Type 0 = Above in
    subst P (sym w.is) (above_append (two_digits w.hour) (two_digits w.minute) (above_two w.hour) (above_two w.minute))

space : Above (codes " ")
space = (omega arith, tt)

above_onset : (text : List ℕ) (from to : ℤ) (o : Observance) → BeginsSo text from to o → Above text
above_onset text from to o b =
    let day = above_day b.day b.each.month b.each.days b.on b.writes_day in
    let P : List ℕ → Type 0 = Above in
    subst P (sym b.is)
    (above_append (decimal b.each.month ++ codes " " ++ b.day ++ codes " ") b.time
    (above_append (decimal b.each.month ++ codes " " ++ b.day) (codes " ")
    (above_append (decimal b.each.month ++ codes " ") b.day (above_append (decimal b.each.month) (codes " ") (above_decimal b.each.month (omega (arith, day.0))) space) day.1) space)
    (above_minutes b.time o.second b.writes_time))

above_words : (words : List ℕ) (zone : Option Zone) → IsRoomZone words zone → Above words
above_words words None is =
    let P : List ℕ → Type 0 = Above in
    subst P (sym is) (omega arith, (omega arith, (omega arith, (omega arith, (omega arith, tt)))))
above_words words (Some zone) (inl one) = above_offset words one.0 one.2
above_words words (Some zone) (inr two) =
    let P : List ℕ → Type 0 = Above in
    subst P (sym two.is)
    (above_append (two.standard_text ++ codes " " ++ two.daylight_text ++ codes " " ++ two.standard_onset ++ codes " ") two.daylight_onset
    (above_append (two.standard_text ++ codes " " ++ two.daylight_text ++ codes " " ++ two.standard_onset) (codes " ")
    (above_append (two.standard_text ++ codes " " ++ two.daylight_text ++ codes " ") two.standard_onset
    (above_append (two.standard_text ++ codes " " ++ two.daylight_text) (codes " ")
    (above_append (two.standard_text ++ codes " ") two.daylight_text
    (above_append two.standard_text (codes " ") (above_offset two.standard_text two.standard two.writes_standard) space)
    (above_offset two.daylight_text two.daylight two.writes_daylight)) space)
    (above_onset two.standard_onset two.daylight two.standard two.a two.begins_standard)) space)
    (above_onset two.daylight_onset two.standard two.daylight two.b two.begins_daylight))

pub setting_above : (line : List ℕ) (setting : Setting) → IsSetting line setting → Above line
setting_above line (Now t) (stamp, is, spelled) =
    let P : List ℕ → Type 0 = Above in
    subst P (sym is) (above_append (codes "now ") stamp (omega arith, (omega arith, (omega arith, (omega arith, tt)))) (above_stamp stamp t spelled))
setting_above line (Room a) (text, is, address, lower) =
    let P : List ℕ → Type 0 = Above in
    subst P (sym is) (above_append (codes "room ") text (omega arith, (omega arith, (omega arith, (omega arith, (omega arith, tt))))) (above_address text address))
setting_above line (InZone room) (text, is, address, lower, means) =
    let P : List ℕ → Type 0 = Above in
    let word : Above (codes "zone ") = (omega arith, (omega arith, (omega arith, (omega arith, (omega arith, tt))))) in
    subst P (sym is)
    (above_append (codes "zone " ++ text ++ codes " ") room.words
    (above_append (codes "zone " ++ text) (codes " ") (above_append (codes "zone ") text word (above_address text address)) space)
    (above_words room.words room.zone means))
setting_above line (Organiser a) (text, is, address, lower) =
    let P : List ℕ → Type 0 = Above in
    let word : Above (codes "organiser ") = (omega arith, (omega arith, (omega arith, (omega arith, (omega arith, (omega arith, (omega arith, (omega arith, (omega arith, (omega arith, tt)))))))))) in
    subst P (sym is) (above_append (codes "organiser ") text word (above_address text address))

pub setting_some : (line : List ℕ) (setting : Setting) → IsSetting line setting → 0 < length line
setting_some line (Now t) (stamp, is, spelled) = subst (λ (l : List ℕ). 0 < length l) (sym is) (omega arith)
setting_some line (Room a) (text, is, address, lower) = subst (λ (l : List ℕ). 0 < length l) (sym is) (omega arith)
setting_some line (InZone room) (text, is, address, lower, means) = subst (λ (l : List ℕ). 0 < length l) (sym is) (omega arith)
setting_some line (Organiser a) (text, is, address, lower) = subst (λ (l : List ℕ). 0 < length l) (sym is) (omega arith)

-- ---- no LF, and no space

-- the octets lack this one
abbrev pub Without : ℕ → List ℕ → Type 0
Without mark octets = (i : ℕ) → i < length octets → get_or octets i 0 ≢ mark

above_at : (xs : List ℕ) → Above xs → (i : ℕ) → i < length xs → 32 ≤ get_or xs i 0
above_at [] a i l = absurd (omega arith)
above_at (x ∷ xs) a zero l = a.0
above_at (x ∷ xs) a (suc i) l = above_at xs a.1 i (omega arith)

pub above_unbroken : (xs : List ℕ) → Above xs → IsUnbroken xs
above_unbroken xs a i l = let h = above_at xs a i l in λ e. omega arith

past_at : (xs : List ℕ) → Past xs → (i : ℕ) → i < length xs → 33 ≤ get_or xs i 0
past_at [] a i l = absurd (omega arith)
past_at (x ∷ xs) a zero l = a.0
past_at (x ∷ xs) a (suc i) l = past_at xs a.1 i (omega arith)

-- an address has no space
pub no_space : (text : List ℕ) → IsAddress text → Without 32 text
no_space text a i l = let h = past_at text (past_address text a) i l in λ e. omega arith

tail_without : (mark x : ℕ) (xs : List ℕ) → Without mark (x ∷ xs) → Without mark xs
tail_without mark x xs u i l = u (suc i) (omega arith)

pub tail_unbroken : (x : ℕ) (xs : List ℕ) → IsUnbroken (x ∷ xs) → IsUnbroken xs
tail_unbroken = tail_without 10

return_unbroken : (xs : List ℕ) → IsUnbroken xs → IsUnbroken (xs ++ 13 ∷ [])
return_unbroken [] u zero l = λ e. omega arith
return_unbroken [] u (suc i) l = absurd (omega arith)
return_unbroken (x ∷ xs) u zero l = u 0 (omega arith)
return_unbroken (x ∷ xs) u (suc i) l = return_unbroken xs (tail_unbroken x xs u) i (omega arith)

pub not_without : (mark : ℕ) (xs ys : List ℕ) → Without mark (xs ++ mark ∷ ys) → ⊥
not_without mark [] ys u = u 0 (omega arith) refl
not_without mark (x ∷ xs) ys u = not_without mark xs ys (tail_without mark x (xs ++ mark ∷ ys) u)

pub no_break : (xs ys : List ℕ) → IsUnbroken (xs ++ 10 ∷ ys) → ⊥
no_break = not_without 10

-- the first such octet is at one place
pub cut_at : (mark : ℕ) (a b x y : List ℕ) → Without mark a → Without mark b → a ++ mark ∷ x ≡ b ++ mark ∷ y → (a ≡ b) × (x ≡ y)
cut_at mark [] [] x y u v e = (refl, cc)
cut_at mark [] (d ∷ b) x y u v e = absurd (v 0 (omega arith) (cc))
cut_at mark (c ∷ a) [] x y u v e = absurd (u 0 (omega arith) (cc))
cut_at mark (c ∷ a) (d ∷ b) x y u v e =
    let head : c ≡ d = cc in
    let rest : a ++ mark ∷ x ≡ b ++ mark ∷ y = cc in
    let both = cut_at mark a b x y (tail_without mark c a u) (tail_without mark d b v) rest in
    (ap (λ z. z ∷ a) head ∙ ap (λ z. d ∷ z) both.0, both.1)

cut : (a b x y : List ℕ) → IsUnbroken a → IsUnbroken b → a ++ 10 ∷ x ≡ b ++ 10 ∷ y → (a ≡ b) × (x ≡ y)
cut = cut_at 10

pub nil_no : (xs ys : List ℕ) → [] ≡ xs ++ 10 ∷ ys → ⊥
nil_no [] ys e = cc
nil_no (x ∷ xs) ys e = cc

-- ---- the first line of some settings

-- an empty line, which ends them
pub record Ends (whole after : List ℕ) (closed : Bool) (list : List Setting) : Type 0 where
  pub whole_is : (whole ≡ []) ⊎ (whole ≡ 13 ∷ [])
  pub after_is : after ≡ []
  pub list_is : list ≡ []

-- a line that says a setting
pub record Goes (whole after : List ℕ) (closed : Bool) (list : List Setting) : Type 0 where
  pub bare : List ℕ
  pub setting : Setting
  pub more : List Setting
  pub is : IsSetting bare setting
  pub whole_is : (whole ≡ bare) ⊎ (whole ≡ bare ++ 13 ∷ [])
  pub says : SaysSettings closed after more
  pub list_is : list ≡ setting ∷ more

pub first_line : {closed : Bool} {octets : List ℕ} {list : List Setting} → SaysSettings closed octets list → (whole after : List ℕ) → octets ≡ whole ++ 10 ∷ after → IsUnbroken whole → Ends whole after closed list ⊎ Goes whole after closed list
first_line by_end whole after e u = absurd (nil_no whole after e)
first_line by_lf whole after e u =
    let both = cut [] whole [] after (λ i l. absurd (omega arith)) u e in
    inl (record { whole_is = inl (sym both.0); after_is = sym both.1; list_is = refl })
first_line by_crlf whole after e u =
    let both = cut (13 ∷ []) whole [] after (return_unbroken [] (λ i l. absurd (omega arith))) u e in
    inl (record { whole_is = inr (sym both.0); after_is = sym both.1; list_is = refl })
first_line (last line setting is) whole after e u = absurd (no_break whole after (subst IsUnbroken e (above_unbroken line (setting_above line setting is))))
first_line (with_lf {closed} {rest} {settings} line setting is says) whole after e u =
    let both = cut line whole rest after (above_unbroken line (setting_above line setting is)) u e in
    inr (record { bare = line; setting = setting; more = settings; is = is; whole_is = inl (sym both.0); says = subst (λ (o : List ℕ). SaysSettings closed o settings) both.1 says; list_is = refl })
first_line (with_crlf {closed} {rest} {settings} line setting is says) whole after e u =
    let both = cut (line ++ 13 ∷ []) whole rest after (return_unbroken line (above_unbroken line (setting_above line setting is))) u (append_assoc line (13 ∷ []) (10 ∷ rest) ∙ e) in
    inr (record { bare = line; setting = setting; more = settings; is = is; whole_is = inr (sym both.0); says = subst (λ (o : List ℕ). SaysSettings closed o settings) both.1 says; list_is = refl })

above_no_return : (xs : List ℕ) → Above (xs ++ 13 ∷ []) → ⊥
above_no_return [] a = let h : 32 ≤ 13 = a.0 in omega arith
above_no_return (x ∷ xs) a = above_no_return xs a.1

-- the line without its break is the line of the setting
pub same_line : (octets line after : List ℕ) (b : Breaks octets line after) (bare : List ℕ) (setting : Setting) → IsSetting bare setting → (b.whole ≡ bare) ⊎ (b.whole ≡ bare ++ 13 ∷ []) → bare ≡ line
same_line octets line after b bare setting is w = at b.bare w
  where
    at : (b.whole ≡ line ++ 13 ∷ []) ⊎ ((b.whole ≡ line) × ((front : List ℕ) → b.whole ≢ front ++ 13 ∷ [])) → (b.whole ≡ bare) ⊎ (b.whole ≡ bare ++ 13 ∷ []) → bare ≡ line
    at (inl cr) (inl plain) = absurd (above_no_return line (subst Above (sym plain ∙ cr) (setting_above bare setting is)))
    at (inl cr) (inr other) = append_cancel_right bare line (13 ∷ []) (sym other ∙ cr)
    at (inr none) (inl plain) = sym plain ∙ none.0
    at (inr none) (inr other) = absurd (none.1 bare other)

-- an empty line is bare
pub empty_line : (octets line after : List ℕ) (b : Breaks octets line after) → (b.whole ≡ []) ⊎ (b.whole ≡ 13 ∷ []) → length line ≡ 0
empty_line octets line after b w = at b.bare w
  where
    at : (b.whole ≡ line ++ 13 ∷ []) ⊎ ((b.whole ≡ line) × ((front : List ℕ) → b.whole ≢ front ++ 13 ∷ [])) → (b.whole ≡ []) ⊎ (b.whole ≡ 13 ∷ []) → length line ≡ 0
    at (inl cr) (inl plain) = absurd (short line (sym plain ∙ cr))
      where
        short : (xs : List ℕ) → [] ≡ xs ++ 13 ∷ [] → ⊥
        short [] e = cc
        short (x ∷ xs) e = cc
    at (inl cr) (inr other) = ap length (append_cancel_right line [] (13 ∷ []) (sym cr ∙ other))
    at (inr none) (inl plain) = ap length (sym none.0 ∙ plain)
    at (inr none) (inr other) = absurd (none.1 [] other)
