-- The definitions on worked examples. In `codes` a text represents its octets; 13 is CR, 10 LF.
use Rattle.std.proofs.Common.{◌≡◌, false, [], ◌∷◌, ◌++◌, replicate, codes, refl}
use lib.Utf8.{encode}
use Rattle.std.specs.Str.{chars}
use Rattle.std.specs.List.{flat_map}
use Rattle.profile.specs.text.Lines.{logical_lines, line_name, line_value, is_content, fold_from, folded}
use Rattle.profile.specs.text.Objects.{after_object}

-- a continuation is joined without its blank
joined : logical_lines (codes "A:x" ++ 13 ∷ 10 ∷ codes " y" ++ 13 ∷ 10 ∷ []) ≡ codes "A:xy" ∷ []
joined = refl

parts : (line_name (codes "A;B=:;:v") ≡ codes "A") × (line_value (codes "A;B=:;:v") ≡ codes ";:v")
parts = (refl, refl)

-- 75 octets, a line break, one space and three letters
three_left : fold_from 0 (replicate 78 97) ≡ replicate 75 97 ++ 13 ∷ 10 ∷ 32 ∷ replicate 3 97
unfolding encode
three_left = refl

-- a character of two octets isn't split: 74 octets, then the character
not_split : fold_from 0 (replicate 74 97 ++ 0xE4 ∷ []) ≡ replicate 74 97 ++ 13 ∷ 10 ∷ 32 ∷ 0xC3 ∷ 0xA4 ∷ []
unfolding encode
not_split = refl

two_read_back : logical_lines (flat_map folded (codes "A:x" ∷ codes "B;C=d: y" ∷ [])) ≡ codes "A:x" ∷ codes "B;C=d: y" ∷ []
unfolding chars encode
two_read_back = refl

-- an empty line isn't a content line, nor is one that a blank begins
no_content : (is_content [] ≡ false) × (is_content (codes " A:x") ≡ false)
no_content = (refl, refl)

continued : after_object (codes "END:VCALENDAR" ++ 10 ∷ codes " X" ++ 10 ∷ codes "Y") ≡ []
continued = refl

-- in the middle of a line, after a bare CR, or at the end of the input nothing ends before it
no_end : (after_object (codes "X:END:VCALENDAR" ++ 10 ∷ codes "Y") ≡ []) × ((after_object (codes "END:VCALENDAR" ++ 13 ∷ codes "X" ++ 10 ∷ codes "Y") ≡ []) × (after_object (codes "END:VCALENDAR") ≡ []))
no_end = (refl, (refl, refl))
