use Rattle.std.proofs.Common.{inl}
use Rattle.std.specs.Prelude.{Contains}
use Rattle.cal_events.specs.Calendar.{instance_of}
use Rattle.clash_cert.proofs.MakingLemmas.{named_by, names_of, held, own_key, shares}
use Rattle.clash_cert.proofs.making.of_singles.Goals as goal

pub returns-clause-clash : goal.returns-clause-clash
returns-clause-clash c =
    let all = c.args.calendar.now in
    let o = c.args.overlap in
    let r = c.requires in
    let i = c.unwrap-a.result in
    let j = c.unwrap-b.result in
    let of_a = own_key all.singles o.first c.single.result i c.in_ok-key.field-0 c.unwrap-of_a.result c.single.ensures c.unwrap-a.ensures c.in_ok-key.ensures c.unwrap-of_a.ensures in
    let of_b = own_key all.singles o.second c.single-2.result j c.in_ok-key-2.field-0 c.unwrap-of_b.result c.single-2.ensures c.unwrap-b.ensures c.in_ok-key-2.ensures c.unwrap-of_b.ensures in
    named_by all r.a r.b (instance_of i) (instance_of j) c.clash_of.result
    (held instance_of all.singles o.first c.single.result i r.a c.single.ensures c.unwrap-a.ensures r.first_in r.first)
    (held instance_of all.singles o.second c.single-2.result j r.b c.single-2.ensures c.unwrap-b.ensures r.second_in r.second)
    (inl (o.first, r.first_in, r.first)) (inl (o.second, r.second_in, r.second)) r.clash.differ (shares r.a r.b o.instant r.clash) (c.clash_of.ensures of_a of_b)

pub returns-clause-of : goal.returns-clause-of
returns-clause-of c =
    let all = c.args.calendar.now in
    let o = c.args.overlap in
    let r = c.requires in
    let i = c.unwrap-a.result in
    let j = c.unwrap-b.result in
    let of_a = own_key all.singles o.first c.single.result i c.in_ok-key.field-0 c.unwrap-of_a.result c.single.ensures c.unwrap-a.ensures c.in_ok-key.ensures c.unwrap-of_a.ensures in
    let of_b = own_key all.singles o.second c.single-2.result j c.in_ok-key-2.field-0 c.unwrap-of_b.result c.single-2.ensures c.unwrap-b.ensures c.in_ok-key-2.ensures c.unwrap-of_b.ensures in
    names_of (Contains all.singles) (Contains all.singles) r.a r.b (instance_of i) (instance_of j) c.clash_of.result
    (held instance_of all.singles o.first c.single.result i r.a c.single.ensures c.unwrap-a.ensures r.first_in r.first)
    (held instance_of all.singles o.second c.single-2.result j r.b c.single-2.ensures c.unwrap-b.ensures r.second_in r.second)
    (o.first, r.first_in, r.first) (o.second, r.second_in, r.second) (c.clash_of.ensures of_a of_b)
