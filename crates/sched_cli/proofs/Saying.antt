-- What was said, piece by piece, and what was written where a device failed.
use Rattle.std.proofs.Common.{◌≡◌, inl, inr, ℕ, Bool, true, List, [], ◌++◌, length, take, drop, Option, Some, None, Result, Ok, Err, OnOk, OnErr, IfErr, sym, ap, subst, ◌∙◌, arith, append_assoc, append-nil, take-append-drop}
use lib.Seq.{take-append_seam}
use Rattle.std.specs.Io.KnownBytes.{Appends, Keeps}
use Rattle.std.proofs.KnownBytes.{Appends-trans}
use Rattle.sched_devices.specs.Output.{StopsWriting}
use Rattle.sched_devices.specs.declared.output.WriteFault.{WriteFault}
use Rattle.sched_devices.specs.declared.output.WriteFault.TheVariants as write
use Rattle.ical_lines.specs.Fault.{RefusesBy}
use Rattle.ical_lines.specs.declared.fault.Fault.{Fault}
use Rattle.ical_lines.specs.declared.fault.Fault.TheVariants as lines
use Rattle.sched_cli.specs.Commands.{SaysLine, IsStatusSaid, read_status, read_text, refused_text, write_text, write_status}
use Rattle.sched_cli.specs.Running.{Writes}

-- a beginning of these octets was written
abbrev pub IsCut : Option (List ℕ) → Option (List ℕ) → List ℕ → Type 0
IsCut a b octets = (n : ℕ) × Appends a b (take n octets)

-- of a line of which a piece was cut, behind what was said whole
cut_more : (a b c : Option (List ℕ)) (line done piece rest : List ℕ) → line ≡ done ++ (piece ++ rest) → Appends a b done → IsCut b c piece → IsCut a c line
cut_more a b c line done piece rest is before (n, begun) =
    let split : line ≡ (done ++ take n piece) ++ (drop n piece ++ rest) =
    is ∙ ap (λ (l : List ℕ). done ++ (l ++ rest)) (sym (take-append-drop n piece)) ∙ ap (λ (l : List ℕ). done ++ l) (append_assoc (take n piece) (drop n piece) rest) ∙ sym (append_assoc done (take n piece) (drop n piece ++ rest)) in
    let front : take (length (done ++ take n piece)) line ≡ done ++ take n piece = ap (take (length (done ++ take n piece))) split ∙ take-append_seam (done ++ take n piece) (drop n piece ++ rest) in
    (length (done ++ take n piece), subst (Appends a c) (sym front) (Appends-trans a b c done (take n piece) before begun))

kept_cut : (a b : Option (List ℕ)) (line : List ℕ) → Keeps a b → IsCut a b line
kept_cut None b line k = (0, tt)
kept_cut (Some xs) None line k = absurd k
kept_cut (Some xs) (Some ys) line k = (0, k ∙ sym (append-nil xs))

stopped_cut : (a b : Option (List ℕ)) (failed : Bool) (line : List ℕ) (fault : WriteFault) → StopsWriting a b failed line fault → IsCut a b line
stopped_cut a b failed line write.Failed (f, begun) = begun
stopped_cut a b failed line write.Memory kept = kept_cut a b line kept

-- what was said where a piece of the line couldn't be written
pub stopped_says : (a b c : Option (List ℕ)) (failed lost : Bool) (line done piece rest : List ℕ) (fault : WriteFault) → line ≡ done ++ (piece ++ rest) → Appends a b done
    → StopsWriting b c failed piece fault → lost ≡ true → SaysLine line a c lost
stopped_says a b c failed lost line done piece rest fault is before stops l =
    let (n, begun) = cut_more a b c line done piece rest is before (stopped_cut b c failed piece fault stops) in
    inr (l, (n, begun))

-- and where that piece is the last
pub put_says : {X : Type 0} (a b c : Option (List ℕ)) (failed lost : Bool) (line done piece : List ℕ) (r : Result X WriteFault) → line ≡ done ++ piece → Appends a b done
    → OnOk r (Appends b c piece) → IfErr r (StopsWriting b c failed piece) → OnErr r (lost ≡ true) → SaysLine line a c lost
put_says a b c failed lost line done piece (Ok x) is before more stops l = inl (subst (Appends a c) (sym is) (Appends-trans a b c done piece before more))
put_says a b c failed lost line done piece (Err fault) is before more stops l =
    stopped_says a b c failed lost line done piece [] fault (is ∙ ap (λ (p : List ℕ). done ++ p) (sym (append-nil piece))) before stops l

-- the same of a text of which it is told whether it was written whole
pub stopped_writes : {X : Type 0} (a b c : Option (List ℕ)) (failed lost : Bool) (line done piece rest : List ℕ) (fault e : WriteFault) (r : Result X WriteFault) → r ≡ Err e → line ≡ done ++ (piece ++ rest) → Appends a b done
    → StopsWriting b c failed piece fault → lost ≡ true → Writes line r a c lost
stopped_writes {X} a b c failed lost line done piece rest fault e r ended is before stops l =
    let P : Result X WriteFault → Type 0 = λ z. Writes line z a c lost in
    subst P (sym ended) (l, cut_more a b c line done piece rest is before (stopped_cut b c failed piece fault stops))

pub put_writes : {X : Type 0} (a b c : Option (List ℕ)) (failed lost : Bool) (line done piece : List ℕ) (r : Result X WriteFault) → line ≡ done ++ piece → Appends a b done
    → OnOk r (Appends b c piece) → IfErr r (StopsWriting b c failed piece) → OnErr r (lost ≡ true) → Writes line r a c lost
put_writes a b c failed lost line done piece (Ok x) is before more stops l = subst (Appends a c) (sym is) (Appends-trans a b c done piece before more)
put_writes a b c failed lost line done piece (Err fault) is before more stops l =
    (l, cut_more a b c line done piece [] (is ∙ ap (λ (p : List ℕ). done ++ p) (sym (append-nil piece))) before (stopped_cut b c failed piece fault stops))

pub written_says : {X E : Type 0} (line : List ℕ) (r : Result X E) (a b : Option (List ℕ)) (lost : Bool) → Writes line r a b lost → SaysLine line a b lost
written_says line (Ok x) a b lost w = inl w
written_says line (Err e) a b lost w = inr w

-- of a line of several texts one was cut, behind what was said whole
pub cut_says : (a b c : Option (List ℕ)) (lost : Bool) (line done part rest : List ℕ) → line ≡ done ++ (part ++ rest) → Appends a b done → (lost ≡ true) × ((n : ℕ) × Appends b c (take n part)) → SaysLine line a c lost
cut_says a b c lost line done part rest is before (l, cut) = inr (l, cut_more a b c line done part rest is before cut)

-- what is said of a fault, and its status
pub said_write : (status : ℕ) (fault : WriteFault) (a b : Option (List ℕ)) (lost : Bool) → status ≡ write_status fault → SaysLine (write_text fault) a b lost → IsStatusSaid status a b lost
said_write status write.Failed a b lost is says = record { quiet = λ l. absurd (omega (arith, is, l)); device = λ e. says; memory = λ e. absurd (omega (arith, is, e)) }
said_write status write.Memory a b lost is says = record { quiet = λ l. absurd (omega (arith, is, l)); device = λ e. absurd (omega (arith, is, e)); memory = λ e. says }

-- what can't be read
pub said_read : (status : ℕ) (fault : Fault) (a b : Option (List ℕ)) (lost : Bool) → status ≡ read_status fault → SaysLine (read_text fault) a b lost → IsStatusSaid status a b lost
said_read status (lines.Refused refusal) a b lost is says = record { quiet = λ l. absurd (omega (arith, is, l)); device = λ e. absurd (omega (arith, is, e)); memory = λ e. absurd (omega (arith, is, e)) }
said_read status lines.Memory a b lost is says = record { quiet = λ l. absurd (omega (arith, is, l)); device = λ e. absurd (omega (arith, is, e)); memory = λ e. says }

pub refused_at_3 : (P : ℕ → Type 0) (status : ℕ) (fault : Fault) (a b : Option (List ℕ)) (lost : Bool) → status ≡ read_status fault → RefusesBy P fault → SaysLine (read_text fault) a b lost
    → status ≡ 3 → (n : ℕ) × P n × SaysLine (refused_text n) a b lost
refused_at_3 P status (lines.Refused refusal) a b lost is is_fault says e = (refusal.number, is_fault, says)
refused_at_3 P status lines.Memory a b lost is is_fault says e = absurd (omega (arith, is, e))
