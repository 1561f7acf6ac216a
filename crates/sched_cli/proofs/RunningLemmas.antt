-- Why no box was run.
use Rattle.std.proofs.Common.{◌≡◌, ◌⊎◌, ◌∙◌, true, ℕ, Bool, List, ◌++◌, Option, Some, None, Result, Ok, Err, take, inl, inr, refl, sym, ap, subst, arith}
use Rattle.std.proofs.lemmas.Bool.Decides.{nat_tests}
use Rattle.ical_lines.specs.Fault.{RefusesOnly}
use Rattle.ical_lines.specs.declared.fault.Fault.{Fault}
use Rattle.ical_lines.specs.declared.fault.Fault.TheVariants.{Refused, Memory}
use Rattle.ical_values.specs.Refused.{IfRefused}
use Rattle.profile.specs.faults.Faults.{is_preamble_fault}
use Rattle.profile.specs.streams.Streams.{Config, IsConfiguration}
use Rattle.sched_cli.specs.Commands.{SaysLine, read_status, read_text, refused_text, write_status, write_text}
use Rattle.sched_box.specs.declared.folders.BoxFault.{BoxFault}
use Rattle.sched_box.specs.declared.folders.BoxFault.TheVariants as box
use Rattle.sched_box.specs.declared.folders.BoxReport.{BoxReport}
use Rattle.sched_devices.specs.declared.output.WriteFault.{WriteFault}
use Rattle.sched_devices.specs.declared.output.WriteFault.TheVariants as write
use Rattle.std.specs.Io.KnownBytes.{Appends, Keeps}
use Rattle.sched_cli.specs.Running.{EndsLogged, RunsLogged, RunsNone, RunsWith, SaysLogged, SaysRun, box_status, box_text, run_status}

-- a fault of a preamble has this number alone
preamble_number : (n : ℕ) → is_preamble_fault n ≡ true → n ≡ 90
preamble_number n test = grind (arith, nat_tests)

-- where the configuration can't be read
pub runs_none : (status : ℕ) (config : List ℕ) (fault : Fault) (a b : Option (List ℕ)) (lost : Bool) → status ≡ read_status fault → SaysLine (read_text fault) a b lost
    → RefusesOnly is_preamble_fault fault → IfRefused ((closed : Bool) (hosts : Config) → IsConfiguration closed config hosts → ⊥) fault → RunsNone status config a b lost
runs_none status config (Refused r) a b lost is says number none =
    let P : ℕ → Type 0 = λ n. SaysLine (refused_text n) a b lost in
    inl (is, none, subst P (preamble_number r.number number) says)
runs_none status config Memory a b lost is says number none = inr (is, says)

-- ---- with a report

pub read_fails : (fault : Fault) → read_status fault ≡ 0 → ⊥
read_fails (Refused r) e = absurd (omega arith)
read_fails Memory e = absurd (omega arith)

pub box_fails : (fault : BoxFault) → box_status fault ≡ 0 → ⊥
box_fails box.Device e = absurd (omega arith)
box_fails (box.Differs name) e = absurd (omega arith)
box_fails box.Memory e = absurd (omega arith)

write_fails : (fault : WriteFault) → write_status fault ≡ 0 → ⊥
write_fails write.Failed e = absurd (omega arith)
write_fails write.Memory e = absurd (omega arith)

appends_behind : (a b c : Option (List ℕ)) (line : List ℕ) → Keeps a b → Appends b c line → Appends a c line
appends_behind None b c line kept added = tt
appends_behind (Some xs) None c line kept added = absurd kept
appends_behind (Some xs) (Some ys) None line kept added = added
appends_behind (Some xs) (Some ys) (Some zs) line kept added = added ∙ ap (λ l. l ++ line) kept

says_behind : (a b c : Option (List ℕ)) (line : List ℕ) (lost : Bool) → Keeps a b → SaysLine line b c lost → SaysLine line a c lost
says_behind a b c line lost kept (inl said) = inl (appends_behind a b c line kept said)
says_behind a b c line lost kept (inr (l, begun)) = inr (l, (begun.0, appends_behind a b c (take begun.0 line) kept begun.1))

-- what was said at the end of a run, and then of its report
said_logged : (fault : Option WriteFault) (ended : Result BoxReport BoxFault) (before status : ℕ) (a b c : Option (List ℕ)) (lost_before lost : Bool) → before ≡ run_status ended → SaysRun ended a b lost_before
    → EndsLogged fault before status b c lost_before lost → SaysLogged fault ended status a c lost
said_logged None ended before status a b c lost_before lost is says (same, kept, marked) =
    let P : Bool → Type 0 = λ l. SaysRun ended a b l in
    let Q : Option (List ℕ) → Type 0 = λ o. SaysRun ended a o lost in
    (same ∙ is, subst Q (sym kept) (subst P (sym marked) says))
said_logged (Some fault) (Ok report) before status a b c lost_before lost is says (inl (not_done, same, kept, marked)) = absurd (not_done is)
said_logged (Some fault) (Ok report) before status a b c lost_before lost is says (inr (done, status_is, said)) = (status_is, says_behind a b c (write_text fault) lost says said)
said_logged (Some fault) (Err ending) before status a b c lost_before lost is says (inl (not_done, same, kept, marked)) =
    let P : Bool → Type 0 = λ l. SaysLine (box_text ending) a b l in
    let Q : Option (List ℕ) → Type 0 = λ o. SaysLine (box_text ending) a o lost in
    (same ∙ is, subst Q (sym kept) (subst P (sym marked) says))
said_logged (Some fault) (Err ending) before status a b c lost_before lost is says (inr (done, status_is, said)) = absurd (box_fails ending (sym is ∙ done))

pub runs_logged : (fault : Option WriteFault) (before status : ℕ) (config : List ℕ) (MayEnd : Config → Result BoxReport BoxFault → Type 0) (a b c : Option (List ℕ)) (lost_before lost : Bool) (In Out : Type 0)
    → (RunsNone before config a b lost_before × In × Out) ⊎ RunsWith before config MayEnd a b lost_before → EndsLogged fault before status b c lost_before lost
    → (RunsNone status config a c lost × In × Out) ⊎ RunsLogged fault status config MayEnd a c lost
runs_logged fault before status config MayEnd a b c lost_before lost In Out (inl (none, same_in, same_out)) ends = inl (none_logged fault none ends, same_in, same_out)
  where
    some : RunsNone before config a b lost_before → before ≡ 0 → ⊥
    some (inl (is, no_box, said)) e = absurd (omega arith)
    some (inr (is, said)) e = absurd (omega arith)

    as_it_was : status ≡ before → c ≡ b → lost ≡ lost_before → RunsNone before config a b lost_before → RunsNone status config a c lost
    as_it_was is kept marked none =
        let P : ℕ → Type 0 = λ s. RunsNone s config a c lost in
        let Q : Option (List ℕ) → Type 0 = λ o. RunsNone before config a o lost in
        let R : Bool → Type 0 = λ l. RunsNone before config a b l in
        subst P (sym is) (subst Q (sym kept) (subst R (sym marked) none))

    none_logged : (f : Option WriteFault) → RunsNone before config a b lost_before → EndsLogged f before status b c lost_before lost → RunsNone status config a c lost
    none_logged None none (is, kept, marked) = as_it_was is kept marked none
    none_logged (Some f) none (inl (not_done, is, kept, marked)) = as_it_was is kept marked none
    none_logged (Some f) none (inr (done, is, said)) = absurd (some none done)
runs_logged fault before status config MayEnd a b c lost_before lost In Out (inr with') ends = inr (record {
  closed = with'.closed;
  hosts = with'.hosts;
  spells = with'.spells;
  ended = with'.ended;
  runs = with'.runs;
  said = said_logged fault with'.ended before status a b c lost_before lost with'.status_is with'.said ends;
})

-- where the status is 0 the run's was, and no line is missing
pub done_logged : (fault : Option WriteFault) (before status : ℕ) (a b : Option (List ℕ)) (lost_before lost : Bool) → EndsLogged fault before status a b lost_before lost → status ≡ 0 → (fault ≡ None) × (before ≡ 0)
done_logged None before status a b lost_before lost (is, kept, marked) done = (refl, sym is ∙ done)
done_logged (Some fault) before status a b lost_before lost (inl (not_done, is, kept, marked)) done = absurd (not_done (sym is ∙ done))
done_logged (Some fault) before status a b lost_before lost (inr (was, is, said)) done = absurd (write_fails fault (sym is ∙ done))

-- where it is 4 the run's was, or a writer of lines has failed
device_logged : (fault : Option WriteFault) (before status : ℕ) (a b : Option (List ℕ)) (lost_before lost : Bool) → EndsLogged fault before status a b lost_before lost → status ≡ 4 → (before ≡ 4) ⊎ (fault ≡ Some write.Failed)
device_logged None before status a b lost_before lost (is, kept, marked) four = inl (sym is ∙ four)
device_logged (Some fault) before status a b lost_before lost (inl (not_done, is, kept, marked)) four = inl (sym is ∙ four)
device_logged (Some write.Failed) before status a b lost_before lost (inr (was, is, said)) four = inr refl
device_logged (Some write.Memory) before status a b lost_before lost (inr (was, is, said)) four = absurd (omega arith)

pub device_of : (A B : Type 0) (fault : Option WriteFault) (before status : ℕ) (a b : Option (List ℕ)) (lost_before lost : Bool) → EndsLogged fault before status a b lost_before lost → (before ≡ 4 → A ⊎ B)
    → status ≡ 4 → A ⊎ (B ⊎ (fault ≡ Some write.Failed))
device_of A B fault before status a b lost_before lost ends cause four = at (device_logged fault before status a b lost_before lost ends four)
  where
    of_run : A ⊎ B → A ⊎ (B ⊎ (fault ≡ Some write.Failed))
    of_run (inl x) = inl x
    of_run (inr y) = inr (inl y)

    at : (before ≡ 4) ⊎ (fault ≡ Some write.Failed) → A ⊎ (B ⊎ (fault ≡ Some write.Failed))
    at (inl was) = of_run (cause was)
    at (inr failed) = inr (inr failed)

-- where it isn't, the run's wasn't
pub no_device_logged : (fault : Option WriteFault) (before status : ℕ) (a b : Option (List ℕ)) (lost_before lost : Bool) → EndsLogged fault before status a b lost_before lost → (status ≡ 4 → ⊥) → before ≡ 4 → ⊥
no_device_logged None before status a b lost_before lost (is, kept, marked) other four = other (is ∙ four)
no_device_logged (Some fault) before status a b lost_before lost (inl (not_done, is, kept, marked)) other four = other (is ∙ four)
no_device_logged (Some fault) before status a b lost_before lost (inr (was, is, said)) other four = absurd (omega arith)

pub status_logged : (fault : Option WriteFault) (before status : ℕ) (a b : Option (List ℕ)) (lost_before lost : Bool) → EndsLogged fault before status a b lost_before lost
    → (before ≡ 0) ⊎ (before ≡ 3) ⊎ (before ≡ 4) ⊎ (before ≡ 5) → (status ≡ 0) ⊎ (status ≡ 3) ⊎ (status ≡ 4) ⊎ (status ≡ 5)
status_logged None before status a b lost_before lost (is, kept, marked) one = let P : ℕ → Type 0 = λ s. (s ≡ 0) ⊎ (s ≡ 3) ⊎ (s ≡ 4) ⊎ (s ≡ 5) in subst P (sym is) one
status_logged (Some fault) before status a b lost_before lost (inl (not_done, is, kept, marked)) one = let P : ℕ → Type 0 = λ s. (s ≡ 0) ⊎ (s ≡ 3) ⊎ (s ≡ 4) ⊎ (s ≡ 5) in subst P (sym is) one
status_logged (Some write.Failed) before status a b lost_before lost (inr (was, is, said)) one = inr (inr (inl is))
status_logged (Some write.Memory) before status a b lost_before lost (inr (was, is, said)) one = inr (inr (inr is))
