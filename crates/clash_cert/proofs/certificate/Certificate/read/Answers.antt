use Rattle.std.proofs.Common.{map, subst}
use Rattle.clash_cert.specs.Texts.{groups_said, pair_said}
use Rattle.clash_cert.specs.Reading.{version_text}
use Rattle.clash_cert.specs.Stops.{StopsAt}
use Rattle.clash_cert.specs.Walked.{IsBroken}
use Rattle.clash_cert.proofs.WrongLines.{wrong_here, stops_first, stops_second, stops_third, headed}
use Rattle.clash_cert.proofs.BreakingOff.{claims_read, certificate_read, wrong_line}
use Rattle.clash_cert.proofs.certificate.Certificate.read.Goals as goal

pub returns-in_default-clause-fault : goal.returns-in_default-clause-fault
returns-in_default-clause-fault c = wrong_here c.args.bytes.now _ c.args.bytes.now (stops_first c.args.bytes.now c.in_default.ensures)

pub returns-in_default-after_count-clause-fault : goal.returns-in_default-after_count-clause-fault
returns-in_default-after_count-clause-fault c =
    wrong_here c.args.bytes.now _ c.in-Some.rest.now (stops_second c.args.bytes.now c.in-Some.rest.now c.in-Some.version c.in-Some.ensures c.in_default-after_count.ensures)

pub returns-in_default-after_count-2-clause-fault :
    goal.returns-in_default-after_count-2-clause-fault
returns-in_default-after_count-2-clause-fault c =
    wrong_here c.args.bytes.now _ c.in-Some-after_count.rest.now
    (stops_third c.args.bytes.now c.in-Some.rest.now c.in-Some-after_count.rest.now c.in-Some.version c.in-Some-after_count.singles c.in-Some.ensures c.in-Some-after_count.ensures
    c.in_default-after_count-2.ensures)

pub invariant_of-result : goal.invariant_of-result
invariant_of-result c =
    let law = c.one_stamp.ensures in
    let rest = c.in-Some-after_count-2.rest.now in
    let head = headed c.args.bytes.now c.in-Some.rest.now c.in-Some-after_count.rest.now rest c.in-Some.version c.in-Some-after_count.singles c.in-Some-after_count-2.series c.in-Some.ensures
    c.in-Some-after_count.ensures c.in-Some-after_count-2.ensures in
    claims_read (λ text a b x y. law.reading text a b (law.written text a x) (law.written text b y)) law.form c.args.bytes.now rest c.in-Some.version c.in-Some-after_count.singles
    c.in-Some-after_count-2.series head (groups_said c.in-Ok.groups) (map pair_said c.in-Ok.pairs.items) c.in-Ok.ensures

pub returns-in-Ok-clause-found : goal.returns-in-Ok-clause-found
returns-in-Ok-clause-found c =
    let law = c.one_stamp.ensures in
    let rest = c.in-Some-after_count-2.rest.now in
    let head = headed c.args.bytes.now c.in-Some.rest.now c.in-Some-after_count.rest.now rest c.in-Some.version c.in-Some-after_count.singles c.in-Some-after_count-2.series c.in-Some.ensures
    c.in-Some-after_count.ensures c.in-Some-after_count-2.ensures in
    certificate_read (λ text a b x y. law.reading text a b (law.written text a x) (law.written text b y)) law.form c.args.bytes.now rest c.in-Some.version c.in-Some-after_count.singles
    c.in-Some-after_count-2.series head (groups_said c.in-Ok.groups) (map pair_said c.in-Ok.pairs.items) c.in-Ok.ensures

pub returns-in-Ok-clause-only : goal.returns-in-Ok-clause-only
returns-in-Ok-clause-only c =
    let law = c.one_stamp.ensures in
    let rest = c.in-Some-after_count-2.rest.now in
    let head = headed c.args.bytes.now c.in-Some.rest.now c.in-Some-after_count.rest.now rest c.in-Some.version c.in-Some-after_count.singles c.in-Some-after_count-2.series c.in-Some.ensures
    c.in-Some-after_count.ensures c.in-Some-after_count-2.ensures in
    let found = certificate_read (λ text a b x y. law.reading text a b (law.written text a x) (law.written text b y)) law.form c.args.bytes.now rest c.in-Some.version c.in-Some-after_count.singles
    c.in-Some-after_count-2.series head (groups_said c.in-Ok.groups) (map pair_said c.in-Ok.pairs.items) c.in-Ok.ensures in
    λ d s. c.one_certificate.ensures.reading c.args.bytes.now _ d found s

pub returns-in-Err-At-clause-fault : goal.returns-in-Err-At-clause-fault
returns-in-Err-At-clause-fault c =
    let law = c.one_stamp.ensures in
    let rest = c.in-Some-after_count-2.rest.now in
    let n = c.in-Some-after_count-2.series in
    let head = headed c.args.bytes.now c.in-Some.rest.now c.in-Some-after_count.rest.now rest c.in-Some.version c.in-Some-after_count.singles n c.in-Some.ensures c.in-Some-after_count.ensures
    c.in-Some-after_count-2.ensures in
    wrong_line (λ text a b x y. law.reading text a b (law.written text a x) (law.written text b y)) law.form c.args.bytes.now rest c.in-Some.version c.in-Some-after_count.singles n head
    c.in-Err-At.rest.now c.line_of.result (subst (StopsAt (IsBroken c.in-Some.version n rest)) c.in-Err-At.field-0-is c.in-Err-At.ensures) c.line_of.ensures
