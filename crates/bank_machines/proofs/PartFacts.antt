-- What the parts of a text are: names, and what has no name in it.
use Rattle.std.proofs.Common.{◌≡◌, ℕ, zero, suc, ◌+◌, ◌-◌, ◌*◌, ◌<◌, ◌≤◌, Bool, true, false, cond, not, ◌&&◌, ◌==◌, List, [], ◌∷◌}
use Rattle.std.proofs.Common.{◌++◌, length, take, drop, map, Option, None, Some, if◌then◌else◌, refl, sym, ap, subst, ◌∙◌, arith}
use Rattle.std.proofs.Common.{eqb-true}
use Rattle.std.specs.Prelude.{unwrap_or, nat_lt, min, slice_index}
use Rattle.std.specs.List.{list_any, list_all, prefix_len, AllByRecursion}
use Rattle.std.specs.Char.{is_ascii_digit}
use Rattle.std.proofs.lemmas.Bool.{and_parts, and_from, or_right, ltb-true}
use Rattle.std.proofs.lemmas.List.{length-drop}
use Rattle.std.proofs.lemmas.List.Folds.{list_any-append}
use Rattle.bool_functions.specs.declared.symbol.Symbol.{Symbol}
use Rattle.bool_functions.specs.declared.symbol.Symbol.TheVariants as symbol
use Rattle.bool_functions.specs.Laws.{renamed_symbol, ends_in_word}
use Rattle.bool_functions.specs.NameList.{number_of}
use Rattle.bool_functions.specs.declared.tokens.Span.{Span}
use Rattle.bool_functions.specs.Token.{span, bytes_at, is_blank, is_word_byte, digit_of, mark_of, symbol_of, symbols}
use Rattle.bool_functions.proofs.JoinedTexts.{symbols_append, symbols_word}
use Rattle.bus_texts.specs.Numbers.{digits_behind, digits_number}
use Rattle.bus_texts.specs.Parts.{Part, begins_name, is_identifier, name_with, closed_digits, digits_in_front, first_part}
use Rattle.bus_texts.specs.Parts.{parts_of}
use Rattle.bus_texts.proofs.PartLemmas.{first_some, parts_step, digits_first}
use Rattle.bus_texts.proofs.RewrittenTexts.{and_right}
use Rattle.bus_texts.proofs.RunningTexts.{is_stray}

-- A part with no name in it: its symbols are the same over all names.
abbrev pub IsNameless : List ℕ → Type 0
IsNameless written = (names : List (List ℕ)) (to : List ℕ) → map (renamed_symbol to) (symbols names written) ≡ symbols [] written

-- A name alone, and a name with a bit behind it: a bracket is nothing of a function text.
abbrev pub IsWritten : List ℕ → List ℕ → Option ℕ → Type 0
IsWritten written name None = written ≡ name
IsWritten written name (Some bit) = (names : List (List ℕ)) → list_any is_stray (symbols names written) ≡ true

pub record IsPart (part : Part) : Type 0 where
  pub nameless : part.name ≡ [] → IsNameless part.written
  pub named : (part.name ≡ [] → ⊥) → is_identifier part.name ≡ true
  pub written : (part.name ≡ [] → ⊥) → IsWritten part.written part.name part.bit

-- runs of bytes that pass a test
taken_pass : (p q : ℕ → Bool) → ((b : ℕ) → p b ≡ true → q b ≡ true) → (t : List ℕ) → list_all q (take (prefix_len p t) t) ≡ true
taken_pass p q f [] = refl
taken_pass p q f (b ∷ s) = by (p b) refl (taken_pass p q f s)
  where
    by : (here : Bool) → p b ≡ here → list_all q (take (prefix_len p s) s) ≡ true
        → list_all q (take (prefix_len p (b ∷ s)) (b ∷ s)) ≡ true
    by true e h =
        let n : ℕ = prefix_len p s in
        let more : 1 + n ≡ suc n = omega arith in
        ap (λ b'. list_all q (take (cond b' (1 + n) 0) (b ∷ s))) e
        ∙ (ap (λ m. list_all q (take m (b ∷ s))) more ∙ and_from (q b) (list_all q (take n s)) (f b e) h)
    by false e h = ap (λ b'. list_all q (take (cond b' (1 + prefix_len p s) 0) (b ∷ s))) e

first_taken : (p : ℕ → Bool) (b : ℕ) (s : List ℕ) → p b ≡ true → take (prefix_len p (b ∷ s)) (b ∷ s) ≡ b ∷ take (prefix_len p s) s
first_taken p b s e =
    let n : ℕ = prefix_len p s in
    let more : 1 + n ≡ suc n = omega arith in
    ap (λ b'. take (cond b' (1 + n) 0) (b ∷ s)) e ∙ ap (λ m. take m (b ∷ s)) more

digit_word : (b : ℕ) → is_ascii_digit b ≡ true → is_word_byte b ≡ true
digit_word b h = rw h refl

-- what has no name in it
digit_fixed : (to : List ℕ) (b : ℕ) (s : List ℕ) → renamed_symbol to (digit_of b s) ≡ digit_of b s
digit_fixed to b [] = by (b == 48) (b == 49)
  where
    by : (zero_ one_ : Bool) → renamed_symbol to (if zero_ then symbol.Zero else (if one_ then symbol.One else symbol.Stray))
        ≡ (if zero_ then symbol.Zero else (if one_ then symbol.One else symbol.Stray))
    by true one_ = refl
    by false true = refl
    by false false = refl
digit_fixed to b (c ∷ s) = refl

abbrev mark_by : (a b c d e f g : Bool) → Symbol
mark_by a b c d e f g =
    if a then symbol.Bang else (if b then symbol.Quote else (if c then symbol.Caret else
    (if d then symbol.Times else (if e then symbol.Plus else
    (if f then symbol.Open else (if g then symbol.Close else symbol.Stray))))))

mark_by_fixed : (to : List ℕ) (a b c d e f g : Bool) → renamed_symbol to (mark_by a b c d e f g) ≡ mark_by a b c d e f g
mark_by_fixed to true b c d e f g = refl
mark_by_fixed to false true c d e f g = refl
mark_by_fixed to false false true d e f g = refl
mark_by_fixed to false false false true e f g = refl
mark_by_fixed to false false false false true f g = refl
mark_by_fixed to false false false false false true g = refl
mark_by_fixed to false false false false false false true = refl
mark_by_fixed to false false false false false false false = refl

mark_fixed : (to : List ℕ) (b : ℕ) → renamed_symbol to (mark_of b) ≡ mark_of b
mark_fixed to b = mark_by_fixed to _ _ _ _ _ _ _

digits_nameless : (b : ℕ) (s : List ℕ) → is_ascii_digit b ≡ true → IsNameless (take (prefix_len is_ascii_digit (b ∷ s)) (b ∷ s))
digits_nameless b s d names to =
    let rest : List ℕ = take (prefix_len is_ascii_digit s) s in
    let front : take (prefix_len is_ascii_digit (b ∷ s)) (b ∷ s) ≡ b ∷ rest = first_taken is_ascii_digit b s d in
    let word : list_all is_word_byte (b ∷ rest) ≡ true =
    and_from (is_word_byte b) (list_all is_word_byte rest) (digit_word b d) (taken_pass is_ascii_digit is_word_byte digit_word s)
    in
    let one : (ns : List (List ℕ)) → symbols ns (b ∷ rest) ≡ digit_of b rest ∷ [] =
    λ ns. symbols_word ns (b ∷ rest) word (omega arith) ∙ rw d refl in
    ap (λ w. map (renamed_symbol to) (symbols names w)) front
    ∙ (ap (map (renamed_symbol to)) (one names)
    ∙ (ap (λ x. x ∷ []) (digit_fixed to b rest)
    ∙ (sym (one []) ∙ sym (ap (symbols []) front))))

abbrev single_by : List (List ℕ) → ℕ → (word blank : Bool) → List Symbol
single_by names b word blank = if word then symbol_of names (b ∷ []) ∷ []
    else (if blank then [] else symbol_of names (b ∷ []) ∷ [])

abbrev spans_by : (word blank : Bool) → List Span
spans_by word blank = if word then span 0 1 ∷ [] else (if blank then [] else span 0 1 ∷ [])

single_each : (names : List (List ℕ)) (b : ℕ) (word blank : Bool)
    → map (λ t. symbol_of names (bytes_at (b ∷ []) t)) (spans_by word blank) ≡ single_by names b word blank
single_each names b true blank = refl
single_each names b false true = refl
single_each names b false false = refl

single_symbols : (names : List (List ℕ)) (b : ℕ) → symbols names (b ∷ []) ≡ single_by names b (is_word_byte b) (is_blank b)
single_symbols names b = single_each names b (is_word_byte b) (is_blank b)

other_symbol : (names : List (List ℕ)) (b : ℕ) → is_ascii_digit b ≡ false → is_word_byte b ≡ false
    → symbol_of names (b ∷ []) ≡ mark_of b
other_symbol names b d w =
    ap
    (λ digit. if digit then digit_of b []
    else (if is_word_byte b then symbol.Name (unwrap_or (number_of names (b ∷ [])) (length names)) else mark_of b))
    d
    ∙ ap (λ word. if word then symbol.Name (unwrap_or (number_of names (b ∷ [])) (length names)) else mark_of b) w

other_nameless : (b : ℕ) → is_ascii_digit b ≡ false → is_word_byte b ≡ false → IsNameless (b ∷ [])
other_nameless b d w names to =
    let one : (ns : List (List ℕ)) → symbols ns (b ∷ []) ≡ (if is_blank b then [] else mark_of b ∷ []) =
    λ ns.
    single_symbols ns b
    ∙ (ap (λ word. single_by ns b word (is_blank b)) w ∙ ap (λ x. if is_blank b then [] else x ∷ []) (other_symbol ns b d w)) in
    ap (map (renamed_symbol to)) (one names) ∙ (by (is_blank b) ∙ sym (one []))
  where
    by : (blank : Bool) → map (renamed_symbol to) (if blank then [] else mark_of b ∷ []) ≡ (if blank then [] else mark_of b ∷ [])
    by true = refl
    by false = ap (λ x. x ∷ []) (mark_fixed to b)

-- a name with a bit behind it
bracket_stray : (names : List (List ℕ)) (a rest : List ℕ) → list_any is_stray (symbols names (a ++ 91 ∷ rest)) ≡ true
bracket_stray names a rest =
    let front : symbols names (91 ∷ rest) ≡ symbol.Stray ∷ symbols names rest = symbols_append names (91 ∷ []) rest refl in
    ap (list_any is_stray) (symbols_append names a (91 ∷ rest) (and_right (ends_in_word a)))
    ∙ (list_any-append is_stray (symbols names a) (symbols names (91 ∷ rest))
    ∙ or_right (list_any is_stray (symbols names a)) (list_any is_stray (symbols names (91 ∷ rest)))
    (ap (list_any is_stray) front))

none_taken : (k : ℕ) → take {A = ℕ} k [] ≡ []
none_taken zero = refl
none_taken (suc k) = refl

take_sum : (n m : ℕ) (t : List ℕ) → take (n + m) t ≡ take n t ++ take m (drop n t)
take_sum zero m t = let e : zero + m ≡ m = omega arith in ap (λ k. take k t) e
take_sum (suc n) m [] = let e : suc n + m ≡ suc (n + m) = omega arith in ap (λ k. take {A = ℕ} k []) e ∙ sym (none_taken m)
take_sum (suc n) m (b ∷ t) =
    let e : suc n + m ≡ suc (n + m) = omega arith in ap (λ k. take k (b ∷ t)) e ∙ ap (λ u. b ∷ u) (take_sum n m t)

record Opens (t digits : List ℕ) : Type 0 where
  pub inner : List ℕ
  pub is : t ≡ 91 ∷ inner
  pub taken : digits ≡ take (prefix_len is_ascii_digit inner) inner
  pub some : 0 < prefix_len is_ascii_digit inner

opens_by : (b : ℕ) (s : List ℕ) (digits : List ℕ) → b ≡ 91 → closed_digits s (prefix_len is_ascii_digit s) ≡ Some digits
    → Opens (b ∷ s) digits
opens_by b s digits same e =
    by (nat_lt 0 (prefix_len is_ascii_digit s))
    (nat_lt (prefix_len is_ascii_digit s) (length s) && (slice_index s (prefix_len is_ascii_digit s) == 93)) refl e
  where
    by : (some closes : Bool) → nat_lt 0 (prefix_len is_ascii_digit s) ≡ some
        → (if some && closes then Some (take (prefix_len is_ascii_digit s) s) else None) ≡ Some digits → Opens (b ∷ s) digits
    by true true p e =
        let taken : take (prefix_len is_ascii_digit s) s ≡ digits = cc in
        record { inner = s; is = ap (λ c. c ∷ s) same; taken = sym taken; some = ltb-true 0 (prefix_len is_ascii_digit s) p }
    by true false p e = absurd cc
    by false closes p e = absurd cc

opens : (t digits : List ℕ) → digits_in_front t ≡ Some digits → Opens t digits
opens [] digits e = absurd cc
opens (b ∷ s) digits e = by (b == 91) refl e
  where
    by : (here : Bool) → (b == 91) ≡ here → (if here then closed_digits s (prefix_len is_ascii_digit s) else None) ≡ Some digits
        → Opens (b ∷ s) digits
    by true p e = opens_by b s digits (eqb-true b 91 p) e
    by false p e = absurd cc

-- the digits of a bit have a number
some_behind : (n : ℕ) (ds : List ℕ) → list_all is_ascii_digit ds ≡ true → digits_behind n ds ≡ None → ⊥
some_behind n [] h e = cc
some_behind n (d ∷ ds) h e =
    let parts = and_parts (is_ascii_digit d) (list_all is_ascii_digit ds) h in
    let next : digits_behind (min (n * 10 + (d - 48)) 1000) ds ≡ None =
    sym (ap (λ digit. if digit then digits_behind (min (n * 10 + (d - 48)) 1000) ds else None) parts.0) ∙ e in
    some_behind (min (n * 10 + (d - 48)) 1000) ds parts.1 next

some_taken : (s : List ℕ) → 0 < prefix_len is_ascii_digit s → 0 < length (take (prefix_len is_ascii_digit s) s)
some_taken [] h = absurd (omega (arith, h))
some_taken (b ∷ s) h = by (is_ascii_digit b) refl
  where
    by : (digit : Bool) → is_ascii_digit b ≡ digit → 0 < length (take (prefix_len is_ascii_digit (b ∷ s)) (b ∷ s))
    by true e = subst (λ w. 0 < length w) (sym (first_taken is_ascii_digit b s e)) (omega arith)
    by false e =
        let none : prefix_len is_ascii_digit (b ∷ s) ≡ 0 = ap (λ digit. cond digit (1 + prefix_len is_ascii_digit s) 0) e in
        absurd (omega (arith, h, none))

has_number : (t digits : List ℕ) → digits_in_front t ≡ Some digits → digits_number digits ≡ None → ⊥
has_number t digits e h =
    let front : Opens t digits = opens t digits e in
    let all : list_all is_ascii_digit digits ≡ true =
    ap (list_all is_ascii_digit) front.taken ∙ taken_pass is_ascii_digit is_ascii_digit (λ b d. d) front.inner in
    let some : 0 < length digits = subst (λ w. 0 < length w) (sym front.taken) (some_taken front.inner front.some) in
    by (length digits == 0) refl all some h
  where
    by : (empty : Bool) → (length digits == 0) ≡ empty → list_all is_ascii_digit digits ≡ true → 0 < length digits
        → (if empty then None else digits_behind 0 digits) ≡ None → ⊥
    by true q all some e = let none : length digits ≡ 0 = eqb-true (length digits) 0 q in omega (arith, some, none)
    by false q all some e = some_behind 0 digits all e

bit_stray : (t digits : List ℕ) (n : ℕ) → digits_in_front (drop n t) ≡ Some digits → (names : List (List ℕ))
    → list_any is_stray (symbols names (take (n + length digits + 2) t)) ≡ true
bit_stray t digits n e names =
    let open_ : Opens (drop n t) digits = opens (drop n t) digits e in
    let sum : n + length digits + 2 ≡ n + suc (length digits + 1) = omega arith in
    let split : take (n + length digits + 2) t ≡ take n t ++ 91 ∷ take (length digits + 1) open_.inner =
    ap (λ k. take k t) sum ∙ (take_sum n (suc (length digits + 1)) t
    ∙ ap (λ u. take n t ++ take (suc (length digits + 1)) u) open_.is) in
    ap (λ w. list_any is_stray (symbols names w)) split ∙ bracket_stray names (take n t) (take (length digits + 1) open_.inner)

word_of_name : (b : ℕ) → begins_name b ≡ true → is_word_byte b ≡ true
word_of_name b h = (and_parts (is_word_byte b) (not (is_ascii_digit b)) h).0

no_word : (word digit : Bool) → (word && not digit) ≡ false → digit ≡ false → word ≡ false
no_word true true h e = absurd cc
no_word true false h e = absurd cc
no_word false digit h e = refl

-- the first part of a text
name_identifier : (b : ℕ) (s : List ℕ) → begins_name b ≡ true
    → is_identifier (take (prefix_len is_word_byte (b ∷ s)) (b ∷ s)) ≡ true
name_identifier b s h =
    ap is_identifier (first_taken is_word_byte b s (word_of_name b h))
    ∙ and_from (begins_name b) (list_all is_word_byte (take (prefix_len is_word_byte s) s)) h
    (taken_pass is_word_byte is_word_byte (λ c e. e) s)

no_identifier : (name : List ℕ) → is_identifier name ≡ true → name ≡ [] → ⊥
no_identifier [] h e = cc
no_identifier (b ∷ s) h e = cc

module _ (b : ℕ) (s : List ℕ) where
  abbrev whole : List ℕ
  whole = b ∷ s

  abbrev count : ℕ
  count = prefix_len is_word_byte whole

  name_is_part : begins_name b ≡ true → (digits : Option (List ℕ)) → digits_in_front (drop count whole) ≡ digits
      → IsPart (name_with whole count digits)
  name_is_part h None e = record {
    nameless = λ none. absurd (no_identifier (take count whole) (name_identifier b s h) none);
    named = λ _. name_identifier b s h;
    written = λ _. refl;
  }
  name_is_part h (Some digits) e = record {
    nameless = λ none. absurd (no_identifier (take count whole) (name_identifier b s h) none);
    named = λ _. name_identifier b s h;
    written = λ _. by (digits_number digits) refl;
  }
    where
      by : (bit : Option ℕ) → digits_number digits ≡ bit
          → IsWritten (take (count + length digits + 2) whole) (take count whole) bit
      by None q = absurd (has_number (drop count whole) digits e q)
      by (Some bit) q = bit_stray whole digits count e

  first_is_part : IsPart (first_part whole)
  first_is_part = by (begins_name b) (is_ascii_digit b) refl refl
    where
      plain : (written : List ℕ) (followed : Bool) → IsNameless written
          → IsPart (record { written = written; name = []; bit = None; followed = followed })
      plain written followed h = record {
        nameless = λ _. h;
        named = λ some. absurd (some refl);
        written =
            λ some. absurd (some refl);
      }

      by : (named digit : Bool) → begins_name b ≡ named → is_ascii_digit b ≡ digit → IsPart (first_part whole)
      by true digit n d = rw n (name_is_part n (digits_in_front (drop count whole)) refl)
      by false true n d =
          subst IsPart (sym (digits_first b s n d))
          (plain (take (prefix_len is_ascii_digit whole) whole) _ (digits_nameless b s d))
      by false false n d =
          let word : is_word_byte b ≡ false = no_word (is_word_byte b) (is_ascii_digit b) n d in
          rw (n, d) (plain (b ∷ []) _ (other_nameless b d word))

all_are_parts : (n : ℕ) (text : List ℕ) → length text ≤ n → AllByRecursion IsPart (parts_of text)
all_are_parts n [] h = tt
all_are_parts zero (b ∷ s) h = absurd (omega (arith, h))
all_are_parts (suc n) (b ∷ s) h =
    let part : Part = first_part (b ∷ s) in
    let others : List ℕ = drop (length part.written) (b ∷ s) in
    let step : parts_of (b ∷ s) ≡ part ∷ parts_of others = parts_step (b ∷ s) (omega arith) in
    let some : 0 < length part.written = first_some (b ∷ s) (omega arith) in
    let left : length others ≡ length (b ∷ s) - length part.written = length-drop (length part.written) (b ∷ s) in
    subst (λ ps. AllByRecursion IsPart ps) (sym step) (first_is_part b s, all_are_parts n others (omega (arith, h, some, left)))

pub are_parts : (text : List ℕ) → AllByRecursion IsPart (parts_of text)
are_parts text = all_are_parts (length text) text (omega arith)
