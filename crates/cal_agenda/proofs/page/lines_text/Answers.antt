use Rattle.std.proofs.Common.{◌≡◌, [], refl, map, drop, get_or, pos, to_z, of_z, w64, to_z-of_z, rules, FitsSigned}
use Rattle.std.proofs.lemmas.List.{drop_all}
use Rattle.cal_zones.specs.Kinds.{zone_of}
use Rattle.cal_events.specs.Calendar.{instance_of}
use Rattle.cal_events.specs.declared.instance.Instance.{Instance}
use Rattle.cal_agenda.specs.Blocks.{woven}
use Rattle.cal_agenda.specs.PageDays.{day_said}
use Rattle.cal_agenda.specs.Pages.{IsBlockLine}
use Rattle.cal_agenda.proofs.PageLemmas.{AreLinesSofar, next_lines, last_lines}
use Rattle.cal_agenda.proofs.page.lines_text.Goals as goal

-- what is read of a list behind its end
abbrev no_instance : Instance
no_instance = record { key = record { organiser = record { ref_ptr = (0, 0); now = [] }; uid = record { ref_ptr = (0, 0); now = [] }; slot = pos 0 }; start = pos 0; end = pos 0 }

pub loop-instance-init : goal.loop-instance-init
loop-instance-init c =
    let day = c.args.day.now in
    let fits : FitsSigned w64 day.start = search rules in
    let cast : to_z w64 (of_z w64 day.start) ≡ day.start = to_z-of_z fits in
    rw cast (record { done = []; each = c.new-lines.ensures.items; split = refl })

pub loop-instance-preserved : goal.loop-instance-preserved
loop-instance-preserved c =
    let day = c.args.day.now in
    let IsLine = IsBlockLine (zone_of c.args.zone.now) (day_said day) in
    let items = c.args.instances.now in
    let all = woven day.start day.end (map instance_of items) in
    let sofar : AreLinesSofar IsLine c.loop-instance.left day.end (map instance_of (drop c.loop-instance.instance-index items)) all c.loop-instance.lines.items = rw c.loop-instance.left-is at c.loop-instance.invariant in
    let k = c.loop-instance.instance-index in
    let i = get_or items k no_instance in
    let start_fits : FitsSigned w64 i.start = search rules in
    let start : to_z w64 (of_z w64 i.start) ≡ i.start = to_z-of_z start_fits in
    let end_fits : FitsSigned w64 i.end = search rules in
    let end : to_z w64 (of_z w64 i.end) ≡ i.end = to_z-of_z end_fits in
    let left_fits : FitsSigned w64 c.max-left.result = search rules in
    let left : to_z w64 (of_z w64 c.max-left.result) ≡ c.max-left.result = to_z-of_z left_fits in
    let (free, its, e) = c.in_ok-add_free.ensures in
    let (line, is, f) = c.in_ok-add_taken.ensures in
    rw left (next_lines IsLine day.end all instance_of items k no_instance c.loop-instance.left c.max-left.result c.loop-instance.lines.items c.add_free.new.lines.items c.add_taken.new.lines.items free line
    c.loop-instance-test.true sofar (rw (c.loop-instance.left-is, start) at its) e is f (rw (c.loop-instance.left-is, end) at c.max-left.ensures.value))

pub returns : goal.returns
returns c =
    let day = c.args.day.now in
    let IsLine = IsBlockLine (zone_of c.args.zone.now) (day_said day) in
    let items = c.args.instances.now in
    let all = woven day.start day.end (map instance_of items) in
    let fits : FitsSigned w64 day.end = search rules in
    let cast : to_z w64 (of_z w64 day.end) ≡ day.end = to_z-of_z fits in
    let sofar : AreLinesSofar IsLine c.loop-instance.left day.end (map instance_of (drop c.loop-instance.instance-index items)) all c.loop-instance.lines.items = rw c.loop-instance.left-is at c.loop-instance.invariant in
    let none : AreLinesSofar IsLine c.loop-instance.left day.end [] all c.loop-instance.lines.items = rw (drop_all c.loop-instance.instance-index items c.loop-instance-test.false) at sofar in
    let (free, its, e) = c.in_ok-add_free-2.ensures in
    last_lines IsLine day.end all c.loop-instance.left c.loop-instance.lines.items c.add_free-2.new.lines.items free none (rw (c.loop-instance.left-is, cast) at its) e
