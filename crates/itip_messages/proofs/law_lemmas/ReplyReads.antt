-- A reply that was written reads back as one object, with its VEVENTs in it.
-- Cited by replies_read_back.
use Rattle.std.proofs.Common.{◌≡◌, ◌∙◌, ◌++◌, ◌∷◌, [], ℕ, false, List, codes, Some, refl, sym, ap, subst}
use Rattle.std.specs.List.{flat_map, Contains, AllZip}
use Rattle.profile.specs.text.Lines.{logical_lines, reads_as_lines, written}
use Rattle.profile.specs.text.Objects.{IsObject}
use Rattle.profile.specs.text.Trees.{tree_own}
use Rattle.profile.specs.events.Properties.{lines_named}
use Rattle.profile.specs.rooms.Messages.{object_lines}
use Rattle.itip_messages.specs.Law.{IsTextAddress, IsAnswer, IsVevent, ReadsAs}
use Rattle.itip_messages.proofs.shared_lemmas.ObjectTree.{Lines, vevent_lines, calendar_tree, calendar_vevents, object_spelled}
use Rattle.itip_messages.proofs.shared_lemmas.ContentLines.{LinesBack, ReadsLines, IsMethod, object_content, reply_method}
use Rattle.itip_messages.proofs.shared_lemmas.ReplyLines.{AllRead, all_read}

-- an object of a METHOD around some VEVENTs
pub object_reads : LinesBack → ReadsLines → (word : List ℕ) (events : List Lines) (octets : List ℕ) → IsMethod (Some word) → AllRead events
    → lines_named (codes "METHOD") (tree_own (calendar_tree (Some word) [])) ≡ (codes "METHOD:" ++ word) ∷ []
    → octets ≡ written (object_lines (Some word) (flat_map (λ lines. lines) events)) → ReadsAs word octets events
object_reads back reads word events octets fine all named is =
    let method = Some word in
    let lines = object_lines method (flat_map vevent_lines all.owns) in
    let content = object_content method all.owns fine all.content in
    let whole : octets ≡ written lines = is ∙ ap (λ l. written (object_lines method l)) all.are in
    let logical : logical_lines octets ≡ lines = ap logical_lines whole ∙ back lines content in
    let P : Lines → Type 0 = IsObject false (calendar_tree method all.owns) in
    record {
      reads = ap (reads_as_lines false) whole ∙ reads lines content;
      lines = logical ∙ ap (object_lines method) (sym all.are);
      tree = calendar_tree method all.owns;
      object = subst P (sym logical) (object_spelled method all.owns all.properties);
      method = named;
      each = subst (λ (owns : List Lines). AllZip IsVevent owns events) (sym (calendar_vevents method all.owns)) all.each;
    }

pub reply_reads : LinesBack → ReadsLines → (room : List ℕ) (events : List Lines) (octets : List ℕ) → IsTextAddress room → ((lines : Lines) → Contains events lines → IsAnswer room lines)
    → octets ≡ written (object_lines (Some (codes "REPLY")) (flat_map (λ lines. lines) events)) → ReadsAs (codes "REPLY") octets events
reply_reads back reads room events octets r f is = object_reads back reads (codes "REPLY") events octets reply_method (all_read room events r f) refl is
