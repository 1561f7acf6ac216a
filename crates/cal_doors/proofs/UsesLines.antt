-- What the lines of a VEVENT say of local times: from when on, and until when.
use Rattle.std.proofs.Common.{◌≡◌, ◌∙◌, ℕ, Bool, true, false, List, ◌++◌, length, codes, sym, ap, arith, ℤ, pos, ◌+ℤ◌, ◌≤ℤ◌}
use Rattle.std.specs.Prelude.{Contains, Option, Some, None, Result, Ok, Err, IfOk, IfSome}
use Rattle.std.specs.List.{list_any}
use Rattle.std.specs.Int.{int_min}
use Rattle.std.specs.Str.{str_to_ascii_lowercase, bytes_eq}
use Rattle.std.proofs.lemmas.Int.{ints, by_lt_z}
use Rattle.std.proofs.lemmas.Bool.{true≢false}
use Rattle.std.proofs.lemmas.Slice.Eq.{bytes_eq-Decides}
use Rattle.profile.specs.text.Lines.{line_name, line_value}
use Rattle.profile.specs.text.Values.{two_digits, four_digits, SpellsClock, SpellsLocal, SpellsStamp, SpellsDuration}
use Rattle.profile.specs.events.Properties.{is_of}
use Rattle.profile.specs.series.Rules.{RuleText, UntilLocal}
use Rattle.profile.specs.series.RuleTexts.{SpellsRule}
use Rattle.profile.specs.doors.Uses.{time_properties, is_time_line, SaysLocal, SaysOnClock, SaysStamp, LastsDays, RuleEndsBy, EventEndsBy}
use Rattle.profile.specs.doors.Uses.RuleEndsBy.{by_day, by_local, by_instant}
use Rattle.ical_values.proofs.Readings.{clock_same}
use Rattle.ical_values.proofs.Spans.{duration_same}
use Rattle.cal_doors.specs.Used.{LineBeginsBy, LineEndsBy, HasNoDays}
use Rattle.cal_doors.proofs.UsesScans.{of_filtered}

-- ---- the earlier and the later of two

pub least_of : (x y m : ℤ) → m ≡ int_min x y → (m ≤ℤ x) × (m ≤ℤ y)
least_of x y m is =
    by_lt_z y x
    (λ l. let e : m ≡ y = grind (arith, ints, is, l) in (omega (arith, ints, e, l), omega (arith, ints, e)))
    (λ l. let e : m ≡ x = grind (arith, ints, is, l) in (omega (arith, ints, e), omega (arith, ints, e, l)))

pub through : (a b c : ℤ) → a ≤ℤ b → b ≤ℤ c → a ≤ℤ c
through a b c l m = omega (arith, ints, l, m)

-- ---- answers that say more

pub if_ok : {T E : Type 0} (P Q : T → Type 0) (r : Result T E) → ((x : T) → P x → Q x) → IfOk r P → IfOk r Q
if_ok P Q (Ok x) f h = f x h
if_ok P Q (Err e) f h = tt

pub if_some : {T : Type 0} (P Q : T → Type 0) (o : Option T) → ((x : T) → P x → Q x) → IfSome o P → IfSome o Q
if_some P Q (Some x) f h = f x h
if_some P Q None f h = tt

-- ---- texts

pub one_local : (text : List ℕ) (a b : ℤ) → SpellsLocal text a → SpellsLocal text b → a ≡ b
one_local text a b = clock_same 60 text a b (omega arith)

clock_text : (limit : ℕ) (text : List ℕ) (t : ℤ) (c : SpellsClock limit text t)
    → text ≡ (four_digits c.on.year ++ two_digits c.on.month ++ two_digits c.on.day) ++ codes "T" ++ (two_digits c.at_second.hour ++ two_digits c.at_second.minute ++ two_digits c.at_second.second)
clock_text limit text t c =
    c.spelled ∙ ap (λ x. x ++ codes "T" ++ c.time) c.on.spelled
    ∙ ap (λ x. (four_digits c.on.year ++ two_digits c.on.month ++ two_digits c.on.day) ++ codes "T" ++ x) c.at_second.spelled

local_length : (text : List ℕ) (t : ℤ) → SpellsLocal text t → length text ≡ 15
local_length text t c = ap length (clock_text 60 text t c)

stamp_length : (text : List ℕ) (t : ℤ) → SpellsStamp text t → length text ≡ 16
stamp_length text t s = ap length (s.2 ∙ ap (λ x. x ++ codes "Z") (clock_text 60 s.0 t s.1))

pub not_both : {P : Type 0} (text : List ℕ) (a b : ℤ) → SpellsLocal text a → SpellsStamp text b → P
not_both text a b l s = let e = local_length text a l in let f = stamp_length text b s in absurd (omega (arith, e, f))

pub seconds_alone : (text : List ℕ) (kept secs : ℕ) → SpellsDuration text kept secs → kept ≡ 0 → (days seconds : ℕ) → SpellsDuration text days seconds → days ≡ 0
seconds_alone text kept secs read none days seconds s = (duration_same text days seconds kept secs s read).0 ∙ none

-- ---- a line is of one kind

name_is : (name line : List ℕ) → is_of name line ≡ true → str_to_ascii_lowercase (line_name line) ≡ str_to_ascii_lowercase name
name_is name line h = (bytes_eq-Decides (str_to_ascii_lowercase (line_name line)) (str_to_ascii_lowercase name)).0 h

pub other_name : (name other line : List ℕ) → is_of name line ≡ true → is_of other line ≡ bytes_eq (str_to_ascii_lowercase name) (str_to_ascii_lowercase other)
other_name name other line h = ap (λ x. bytes_eq x (str_to_ascii_lowercase other)) (name_is name line h)

pub no_times : (name line : List ℕ) → is_of name line ≡ true → is_time_line line ≡ list_any (λ other. bytes_eq (str_to_ascii_lowercase name) (str_to_ascii_lowercase other)) time_properties
no_times name line h = ap (λ x. list_any (λ other. bytes_eq x (str_to_ascii_lowercase other)) time_properties) (name_is name line h)

pub against : {P : Type 0} (b : Bool) → b ≡ false → b ≡ true → P
against b f t = absurd (true≢false (sym t ∙ f))

-- ---- from when on

-- a rule
pub rule_begins : (days : Bool) (line : List ℕ) (first : ℤ) → is_of (codes "RRULE") line ≡ true
    → ((rule : RuleText) (local : ℤ) → SpellsRule (line_value line) rule → rule.until ≡ Some (UntilLocal local) → first ≤ℤ local) → LineBeginsBy days line first
rule_begins days line first is says = record {
  until = λ r local _ spelled ends. says r local spelled ends;
  local_days = λ on local times s. against (is_time_line line) (no_times (codes "RRULE") line is) times;
  utc_days = λ on instant times s. against (is_time_line line) (no_times (codes "RRULE") line is) times;
}

-- times
pub times_begin : (days : Bool) (line : List ℕ) (first : ℤ) → is_of (codes "RRULE") line ≡ false
    → ((local : ℤ) → SaysOnClock line local → (first +ℤ pos 86_399) ≤ℤ local) → ((instant : ℤ) → SaysStamp line instant → first ≤ℤ instant) → LineBeginsBy days line first
times_begin days line first no_rule locals stamps = record {
  until = λ r local is. against (is_of (codes "RRULE") line) no_rule is;
  local_days = λ on local times s. locals local s;
  utc_days = λ on instant times s. stamps instant s;
}

pub begins_earlier : (days : Bool) (line : List ℕ) (later first : ℤ) → first ≤ℤ later → LineBeginsBy days line later → LineBeginsBy days line first
begins_earlier days line later first le b = record {
  until = λ r local is s e. through first later local le (b.until r local is s e);
  local_days = λ on local t s. let m = b.local_days on local t s in omega (arith, ints, le, m);
  utc_days = λ on instant t s. through first later instant le (b.utc_days on instant t s);
}

-- no line has days
pub no_days_last : (lines : List (List ℕ)) → ((line : List ℕ) → Contains lines line → HasNoDays line) → LastsDays lines → ⊥
no_days_last lines none (line, length, there, lasts, some) =
    let f = of_filtered (is_of (codes "DURATION")) lines line there in
    let z : length.days ≡ 0 = none line f.0 f.1 length.days length.seconds lasts in
    omega (arith, z, some)

-- ---- until when

pub says_nothing_last : (line : List ℕ) (last : ℤ) → is_of (codes "RRULE") line ≡ false → is_of (codes "DURATION") line ≡ false → is_time_line line ≡ false → LineEndsBy line last
says_nothing_last line last rule duration times = record {
  times = λ local is s. against (is_time_line line) times is;
  rules = λ is. against (is_of (codes "RRULE") line) rule is;
  no_days = λ length is s. against (is_of (codes "DURATION") line) duration is;
}

pub rule_ends : (line : List ℕ) (last : ℤ) → is_of (codes "RRULE") line ≡ true → ((rule : RuleText) × SpellsRule (line_value line) rule × RuleEndsBy rule last) → LineEndsBy line last
rule_ends line last is ends = record {
  times = λ local t s. against (is_time_line line) (no_times (codes "RRULE") line is) t;
  rules = λ _. ends;
  no_days = λ length d s. against (is_of (codes "DURATION") line) (other_name (codes "RRULE") (codes "DURATION") line is) d;
}

pub duration_ends : (line : List ℕ) (last : ℤ) → is_of (codes "DURATION") line ≡ true
    → ((days seconds : ℕ) → SpellsDuration (line_value line) days seconds → days ≡ 0) → LineEndsBy line last
duration_ends line last is none = record {
  times = λ local t s. against (is_time_line line) (no_times (codes "DURATION") line is) t;
  rules = λ r. against (is_of (codes "RRULE") line) (other_name (codes "DURATION") (codes "RRULE") line is) r;
  no_days = λ length d s. none length.days length.seconds s;
}

pub times_end : (line : List ℕ) (last : ℤ) → is_of (codes "RRULE") line ≡ false → is_of (codes "DURATION") line ≡ false
    → ((local : ℤ) → SaysLocal line local → local ≤ℤ last) → LineEndsBy line last
times_end line last rule duration locals = record {
  times = λ local is s. locals local s;
  rules = λ is. against (is_of (codes "RRULE") line) rule is;
  no_days = λ length is s. against (is_of (codes "DURATION") line) duration is;
}

rule_later : (rule : RuleText) (earlier last : ℤ) → earlier ≤ℤ last → RuleEndsBy rule earlier → RuleEndsBy rule last
rule_later rule earlier last le (by_day day is m) = by_day day is (omega (arith, ints, le, m))
rule_later rule earlier last le (by_local local is m) = by_local local is (omega (arith, ints, le, m))
rule_later rule earlier last le (by_instant instant is m) = by_instant instant is (omega (arith, ints, le, m))

pub ends_later : (line : List ℕ) (earlier last : ℤ) → earlier ≤ℤ last → LineEndsBy line earlier → LineEndsBy line last
ends_later line earlier last le e = record {
  times = λ local is s. through local earlier last (e.times local is s) le;
  rules = λ is. let r = e.rules is in (r.0, r.1, rule_later r.0 earlier last le r.2);
  no_days = e.no_days;
}

pub event_later : (lines : List (List ℕ)) (earlier last : ℤ) → earlier ≤ℤ last → EventEndsBy lines earlier → EventEndsBy lines last
event_later lines earlier last le e = record {
  times = λ line local there is s. through local earlier last (e.times line local there is s) le;
  rules = λ line there. let r = e.rules line there in (r.0, r.1, rule_later r.0 earlier last le r.2);
  no_days = e.no_days;
}

pub all_end : (lines : List (List ℕ)) (last : ℤ) → ((line : List ℕ) → Contains lines line → LineEndsBy line last) → EventEndsBy lines last
all_end lines last each = record {
  times = λ line local there is s. (each line there).times local is s;
  rules = λ line there. let f = of_filtered (is_of (codes "RRULE")) lines line there in (each line f.0).rules f.1;
  no_days = λ line length there lasts. let f = of_filtered (is_of (codes "DURATION")) lines line there in (each line f.0).no_days length f.1 lasts;
}
