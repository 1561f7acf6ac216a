use Rattle.std.proofs.Common.{◌∙◌, ◌==◌, ◌++◌, ◌∷◌, [], ℕ, List, sym, ap, subst, refl, inl, inr, append-nil, arith}
use Rattle.std.specs.Prelude.{Contains}
use Rattle.std.proofs.lemmas.List.Elements.{Contains-append_left, Contains-push}
use Rattle.std.specs.List.{slice_split}
use Rattle.ical_lines.specs.Fault.{RefusesBy, RefusesWhere}
use Rattle.ical_lines.specs.Text.{line_text, numbered}
use Rattle.profile.specs.events.Occurrences.{ListedTime, entries_of, EntriesFault}
use Rattle.cal_rules.proofs.Cuts.{all_left, cut_more, cut_done}
use Rattle.ical_values.proofs.Exits.{err_exit}
use Rattle.cal_events.specs.Blame.{zones_of}
use Rattle.cal_events.proofs.shared_lemmas.ZonedLemmas.{weaker_where}
use Rattle.cal_events.specs.Zones.{object_of}
use Rattle.cal_events.specs.Occurrences.{name_of, AreListed, ListedBlame}
use Rattle.cal_events.proofs.occurrences_lemmas.OccurrenceLemmas.{IsBlamedText, texts, on_line, text_next, texts_end, still_refused}
use Rattle.cal_events.proofs.occurrences.SaidInstants.add_line.Goals as goal

pub loop-text-init : goal.loop-text-init
loop-text-init c =
    let text = c.value.result.now in
    let s = c.split-text-items.ensures in (
      slice_split (λ x. x == 44) text,
      all_left 44 text _ _ (omega arith) s.text s.has_more s.pattern c.into_iter-text-iterator.ensures.into_iter_gives,
      [],
      ap (slice_split (λ x. x == 44)) (sym c.value.ensures),
      λ done a. subst (λ (es : List ListedTime). AreListed (object_of c.args.zones.now) (name_of c.args.listing) es c.args.self.now) (sym (append-nil done)) a,
      inl refl,
    )

pub loop-text-preserved : goal.loop-text-preserved
loop-text-preserved c =
    let i = c.loop-text.invariant in
    let line = line_text c.args.line in
    let text = c.in-Some.text.now in
    let more = cut_more c.loop-text.text-iterator c.next.new.self c.in-Some.text i.0 i.1 c.in-Some.ensures.steps in (
      more.0,
      more.2,
      i.2 ++ text ∷ [],
      (text_next line text i.2 i.0 more.0 [] i.3 more.1).0,
      λ done a. subst (λ (es : List ListedTime). AreListed (object_of c.args.zones.now) (name_of c.args.listing) es c.add.new.self) (sym (text_next line text i.2 i.0 more.0 done i.3 more.1).1)
          (c.in_ok-add.ensures.adds (done ++ on_line line i.2) (i.4 done a)),
      elim c.in_ok-add.ensures.outside [ inl same ↦ elim i.5 [ inl e ↦ inl (same ∙ e) | inr e ↦ inr (same ∙ e) ] | inr now ↦ inr now ],
    )

pub returns-in_err-add-clause-fault : goal.returns-in_err-add-clause-fault
returns-in_err-add-clause-fault c done a =
    let i = c.loop-text.invariant in
    let object = object_of c.args.zones.now in
    let name = name_of c.args.listing in
    let line = line_text c.args.line in
    let text = c.in-Some.text.now in
    let more = cut_more c.loop-text.text-iterator c.next.new.self c.in-Some.text i.0 i.1 c.in-Some.ensures.steps in
    err_exit _ (RefusesBy (EntriesFault object name (done ++ entries_of line))) _ c.from_residual.ensures.1
    (still_refused object name ((done ++ on_line line i.2) ++ (line, text) ∷ []) (on_line line more.0) (done ++ entries_of line) _
    (text_next line text i.2 i.0 more.0 done i.3 more.1).2 (c.in_err-add.ensures.fault (done ++ on_line line i.2) (i.4 done a)))

pub returns-in_err-add-clause-at : goal.returns-in_err-add-clause-at
returns-in_err-add-clause-at c =
    let i = c.loop-text.invariant in
    let line = numbered c.args.line in
    let zones = zones_of c.args.zones.now in
    let name = name_of c.args.listing in
    let text = c.in-Some.text.now in
    let more = cut_more c.loop-text.text-iterator c.next.new.self c.in-Some.text i.0 i.1 c.in-Some.ensures.steps in
    let all = (text_next line.1 text i.2 i.0 more.0 [] i.3 more.1).0 in
    let there : Contains (texts line.1) text = subst (λ (ts : List (List ℕ)). Contains ts text) (sym all) (Contains-append_left (i.2 ++ text ∷ []) more.0 text (Contains-push i.2 text)) in
    err_exit _ (RefusesWhere (IsBlamedText zones name line)) _ c.from_residual.ensures.1
    (weaker_where _ (ListedBlame zones name line text) (IsBlamedText zones name line) (λ n at h. (text, there, h)) c.in_err-add.ensures.at)

pub returns-clause-outside : goal.returns-clause-outside
returns-clause-outside c = c.loop-text.invariant.5

pub returns-clause-adds : goal.returns-clause-adds
returns-clause-adds c done a =
    let i = c.loop-text.invariant in
    let line = line_text c.args.line in
    let none = cut_done c.loop-text.text-iterator c.next.new.self i.0 i.1 c.in-None.ensures.steps in
    subst (λ (es : List ListedTime). AreListed (object_of c.args.zones.now) (name_of c.args.listing) (done ++ es) c.loop-text.self) (texts_end line i.2 i.0 i.3 none) (i.4 done a)
