use Rattle.std.proofs.Common.{List, refl, rules, sym, subst, ◌∙◌, ap}
use Rattle.room_books.specs.Gone.{Sheds}
use Rattle.cal_events.specs.declared.instance.Single.{Single}
use Rattle.itip_order.specs.Parts.{part_of}
use Rattle.room_books.specs.Taking.{is_hidden_by, left_beside}
use Rattle.room_books.proofs.shared_lemmas.Losses.{hidden_by_slot, left_says}
use Rattle.room_books.proofs.change.Views.left.Goals as goal

pub returns-clause-left : goal.returns-clause-left
returns-clause-left c = record {
  slot = refl;
  moment = refl;
  outcome = search rules;
  singles = λ history s. c.in_ok-singles.ensures.left history s ∙ ap (left_beside c.args.self.now.slots.now history (part_of c.args.part.now)) c.deref.ensures.value;
  series = λ history s. c.in_ok-series.ensures.left history s;
}

pub returns-clause-sheds : goal.returns-clause-sheds
returns-clause-sheds c =
    subst (λ (g : List Single). Sheds c.args.given.now.singles.items c.in_ok-singles.singles.items c.args.gone.now.singles.items g) (sym (ap (λ v. v.items) c.lose.ensures.singles))
    (subst (λ (l : List Single). Sheds l c.in_ok-singles.singles.items c.args.gone.now.singles.items c.left_beside.new.gone.items) c.deref.ensures.value c.in_ok-singles.ensures.sheds)

pub returns-clause-loses : goal.returns-clause-loses
returns-clause-loses c = λ history s.
    let hides = is_hidden_by c.args.self.now.slots.now history (part_of c.args.part.now) in
    record {
      loses = c.hides_start.result;
      says = left_says hides (hidden_by_slot c.args.self.now.slots.now history (part_of c.args.part.now)) c.hides_start.result c.args.given.now.series c.in_ok-series.series
          (c.in_ok-series.ensures.left history s) (λ f. c.hides_start.ensures.none f history s) (λ t. c.hides_start.ensures.one t history s);
      is = c.lose.ensures.recurs;
    }
