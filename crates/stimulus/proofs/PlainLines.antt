-- The first line of a text, where it is a change with one space behind the time and the pin.
use Rattle.std.proofs.Common.{◌≡◌, ℕ, ◌+◌, ◌-◌, ◌<◌, false, nat_le, if◌then◌else◌, List, [], ◌∷◌, ◌++◌, length, take, drop}
use Rattle.std.proofs.Common.{filter, get_or, Some, position, refl, sym, ap, subst, ◌==◌, ◌∙◌, arith, add-one, Bor, drop-cons}
use Rattle.std.proofs.Common.{append_assoc, length-append}
use Rattle.std.specs.Prelude.{All, Option, None, MatchOption, slice_index}
use Rattle.std.specs.List.{slice_split}
use Rattle.std.proofs.Math.Seq.{get_or-append_seam}
use Rattle.std.proofs.lemmas.Bool.Decides.{nat_tests}
use Rattle.std.proofs.lemmas.List.{take-append-drop, length-take-le, get_or-take}
use Rattle.std.proofs.lemmas.List.Elements.{All-cons, All-nil, All-append, All-get_or, All-from_get_or}
use Rattle.std.proofs.lemmas.List.Quantifiers.{position-Some}
use Rattle.std.proofs.lemmas.List.Splits.{slice_split_at, slice_split_none}
use Rattle.stimulus.specs.NextLine.{first_of, first_line_of, IsWordAhead, IsByteAhead, IsLineAhead}
use Rattle.stimulus.specs.Text.{is_blank, is_line_feed, is_word, without_return, ended, lines_of, words_of}
use Rattle.stimulus.specs.Written.{no_words, change_line, written_words, is_comment, written_in}
use Rattle.stimulus.proofs.Cuts.{ended_on}

pub first_line_is : (text line : List ℕ) (more : List (List ℕ)) → lines_of text ≡ line ∷ more → first_line_of text ≡ line
unfolding first_line_of
first_line_is text line more e = ap first_of e

no_blank : (byte : ℕ) → nat_le byte 32 ≡ false → is_blank byte ≡ false
no_blank byte h = grind (arith, nat_tests, h)

no_feed : (byte : ℕ) → nat_le byte 32 ≡ false → is_line_feed byte ≡ false
no_feed byte h = grind (arith, nat_tests, h)

no_return : (byte : ℕ) → nat_le byte 32 ≡ false → (byte == 13) ≡ false
no_return byte h = grind (arith, nat_tests, h)

-- the first line, of whatever is known of all lines
pub first_line_found : (text line : List ℕ) (more : Option (Bor (List ℕ)))
    → MatchOption more (lines_of text ≡ line ∷ []) (λ rest. lines_of text ≡ line ∷ lines_of rest.now) → first_line_of text ≡ line
first_line_found text line None e = first_line_is text line [] e
first_line_found text line (Some rest) e = first_line_is text line (lines_of rest.now) e

pub each : (P Q : ℕ → Type 0) → ((byte : ℕ) → P byte → Q byte) → (xs : List ℕ) → All P xs → All Q xs
each P Q f xs all = All-from_get_or Q xs 0 (λ i h. f (get_or xs i 0) (All-get_or P xs i 0 h all))

-- a line that ends with a byte other than a carriage return
stays : (front : List ℕ) (byte : ℕ) → (byte == 13) ≡ false → without_return (front ++ byte ∷ []) ≡ front ++ byte ∷ []
stays front byte e =
    let line : List ℕ = front ++ byte ∷ [] in
    let n : length line - 1 ≡ length front = omega (arith, length-append front (byte ∷ [])) in
    let last : slice_index line (length line - 1) ≡ byte = ap (slice_index line) n ∙ get_or-append_seam front byte [] 0 in
    λ i. if ((ap (λ b. b == 13) last ∙ e) i) then take (length line - 1) line else line

glued : (time pin back tail : List ℕ) → (time ++ (32 ∷ (pin ++ back))) ++ tail ≡ time ++ (32 ∷ (pin ++ (back ++ tail)))
glued time pin back tail = append_assoc time (32 ∷ (pin ++ back)) tail ∙ ap (λ t. time ++ (32 ∷ t)) (append_assoc pin back tail)

kept_word : (word : List ℕ) (words : List (List ℕ)) → 0 < length word
    → filter is_word (word ∷ words) ≡ word ∷ filter is_word words
kept_word [] words h = absurd (omega (arith, h))
kept_word (x ∷ xs) words h = refl

comment_by_word : (word one other : List ℕ) → 0 < length word → is_comment (word ++ one) ≡ is_comment (word ++ other)
comment_by_word [] one other h = absurd (omega (arith, h))
comment_by_word (x ∷ xs) one other h = refl

three_words : (time pin : List ℕ) (byte : ℕ) → All (λ (b : ℕ). nat_le b 32 ≡ false) time
    → All (λ (b : ℕ). nat_le b 32 ≡ false) pin → nat_le byte 32 ≡ false → 0 < length time → 0 < length pin
    → words_of (time ++ (32 ∷ (pin ++ (32 ∷ byte ∷ [])))) ≡ time ∷ pin ∷ (byte ∷ []) ∷ []
three_words time pin byte t p b lt lp =
    let P : ℕ → Type 0 = λ b. nat_le b 32 ≡ false in
    let Q : ℕ → Type 0 = λ b. is_blank b ≡ false in
    let last : slice_split is_blank (byte ∷ []) ≡ (byte ∷ []) ∷ [] =
    slice_split_none is_blank (byte ∷ []) (All-cons Q byte [] (no_blank byte b) (All-nil Q)) in
    let two : slice_split is_blank (pin ++ (32 ∷ byte ∷ [])) ≡ pin ∷ (byte ∷ []) ∷ [] =
    slice_split_at is_blank pin 32 (byte ∷ []) (each P Q no_blank pin p) refl ∙ ap (λ parts. pin ∷ parts) last in
    let all : slice_split is_blank (time ++ (32 ∷ (pin ++ (32 ∷ byte ∷ [])))) ≡ time ∷ pin ∷ (byte ∷ []) ∷ [] =
    slice_split_at is_blank time 32 (pin ++ (32 ∷ byte ∷ [])) (each P Q no_blank time t) refl ∙ ap (λ parts. time ∷ parts) two
    in
    ap (filter is_word) all ∙ kept_word time (pin ∷ (byte ∷ []) ∷ []) lt
    ∙ ap (λ words. time ∷ words) (kept_word pin ((byte ∷ []) ∷ []) lp)

pub plain_found : (text time rest1 pin rest2 value rest : List ℕ) → is_comment text ≡ false → IsWordAhead text time rest1
    → IsWordAhead rest1 pin rest2 → IsByteAhead rest2 value rest → IsLineAhead text (change_line time pin value) rest
plain_found text time rest1 pin rest2 value rest c t p v =
    let byte : ℕ = v.byte in
    let P : ℕ → Type 0 = λ b. nat_le b 32 ≡ false in
    let Q : ℕ → Type 0 = λ b. is_line_feed b ≡ false in
    let back : List ℕ = 32 ∷ byte ∷ [] in
    let line : List ℕ = time ++ (32 ∷ (pin ++ back)) in
    let whole : text ≡ line ++ 10 ∷ rest = t.whole ∙ ap (λ r. time ++ 32 ∷ r) (p.whole ∙ ap (λ r. pin ++ 32 ∷ r) v.whole)
    ∙ sym (glued time pin back (10 ∷ rest)) in
    let inside : All Q line = All-append Q time (32 ∷ (pin ++ back)) (each P Q no_feed time t.solid)
    (All-cons Q 32 (pin ++ back) refl
    (All-append Q pin back (each P Q no_feed pin p.solid)
    (All-cons Q 32 (byte ∷ []) refl (All-cons Q byte [] (no_feed byte v.solid) (All-nil Q))))) in
    let cut : slice_split is_line_feed (line ++ 10 ∷ rest) ≡ line ∷ slice_split is_line_feed rest =
    slice_split_at is_line_feed line 10 rest inside refl in
    let joined : (time ++ (32 ∷ (pin ++ (32 ∷ [])))) ++ byte ∷ [] ≡ line = glued time pin (32 ∷ []) (byte ∷ []) in
    let same : without_return line ≡ line =
    subst (λ l. without_return l ≡ l) joined (stays (time ++ (32 ∷ (pin ++ (32 ∷ [])))) byte (no_return byte v.solid)) in
    let lines : lines_of text ≡ line ∷ lines_of rest = ap lines_of whole ∙ ap ended cut ∙ ended_on line rest
    ∙ ap (λ l. l ∷ lines_of rest) same in
    let first : first_line_of text ≡ line = first_line_is text line (lines_of rest) lines in
    let comment : is_comment line ≡ false = comment_by_word time (32 ∷ (pin ++ back)) (32 ∷ rest1) t.some
    ∙ sym (ap is_comment t.whole) ∙ c in
    let words : words_of line ≡ time ∷ pin ∷ (byte ∷ []) ∷ [] = three_words time pin byte t.solid p.solid v.solid t.some p.some in
    let written : written_in line ≡ change_line time pin (byte ∷ []) = λ i. if comment i then no_words
    else written_words (words i) in
    record {
      lines = lines ∙ ap (λ l. l ∷ lines_of rest) (sym first);
      written = ap written_in first ∙ written ∙ ap (change_line time pin) (sym v.one);
      shorter = omega (arith, ap length whole, length-append line (10 ∷ rest));
    }

-- a word that ends at a space
pub word_ends : (text : List ℕ) (end : ℕ) → end < length text → 0 < end → All (λ (byte : ℕ). nat_le byte 32 ≡ false) (take end text)
    → get_or text end 0 ≡ 32 → IsWordAhead text (take end text) (drop (end + 1) text)
word_ends text end inside some solid space =
    let long : length (take end text) ≡ end = length-take-le end text (omega (arith, inside)) in
    let at : drop end text ≡ get_or text end 0 ∷ drop (end + 1) text = rw (add-one) (drop-cons text end 0 inside) in
    record {
      solid = solid;
      some = omega (arith, long);
      whole = sym (take-append-drop end text) ∙ ap (λ r. take end text ++ r) (at ∙ ap (λ b. b ∷ drop (end + 1) text) space);
    }

-- a word up to the first byte that is not above the space
pub word_is : (text : List ℕ) (end : ℕ) → position (λ byte. nat_le byte 32) text ≡ Some end → 0 < end → get_or text end 0 ≡ 32
    → IsWordAhead text (take end text) (drop (end + 1) text)
word_is text end e some space =
    let (below, here, before) = position-Some (λ byte. nat_le byte 32) text end 0 e in
    let long : length (take end text) ≡ end = length-take-le end text (omega (arith, below)) in
    word_ends text end below some
    (All-from_get_or (λ (byte : ℕ). nat_le byte 32 ≡ false) (take end text) 0
    (λ i h. let lt : i < end = omega (arith, long, h) in ap (λ b. nat_le b 32) (get_or-take end text i 0 lt) ∙ before i lt))
    space
