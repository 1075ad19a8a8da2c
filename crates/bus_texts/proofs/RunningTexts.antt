-- A text in which a number runs into a name is no function text, whatever its names become.
use Rattle.std.proofs.Common.{◌≡◌, ℕ, zero, suc, ◌+◌, ◌-◌, ◌<◌, ◌≤◌, Bool, true, false, cond, not, ◌&&◌, ◌||◌, ◌==◌, nat_lt, List}
use Rattle.std.proofs.Common.{[], ◌∷◌, ◌++◌, length, take, drop, map, slice_index, Option, None, Some, Ok, if◌then◌else◌, refl}
use Rattle.std.proofs.Common.{sym, ap, subst, ◌∙◌, arith, inl, inr, eqb-true}
use Rattle.std.specs.Prelude.{flat_map}
use Rattle.std.specs.List.{list_any, list_all, prefix_len}
use Rattle.std.specs.Char.{is_ascii_digit}
use Rattle.std.proofs.lemmas.Bool.{cases_Bool, and_parts, or_right, ltb-true}
use Rattle.std.proofs.lemmas.List.{length-drop, length-take-le, get_or-drop}
use Rattle.std.proofs.lemmas.List.Folds.{list_any-append}
use Rattle.std.proofs.Math.Bool.{and-false as and_right}
use Rattle.bool_functions.specs.declared.tokens.Span.{Span}
use Rattle.bool_functions.specs.declared.symbol.Symbol.{Symbol}
use Rattle.bool_functions.specs.declared.symbol.Symbol.TheVariants as symbol
use Rattle.bool_functions.specs.declared.tree.Node.{Node}
use Rattle.bool_functions.specs.Grammar.{IsText}
use Rattle.bool_functions.specs.Machine.{State, step, next, run, start}
use Rattle.bool_functions.specs.Token.{is_blank, is_word_byte, begins_word, span, grown, spans_from, bytes_at, symbol_of, symbols}
use Rattle.bool_functions.specs.Laws.{ends_in_word}
use Rattle.bool_functions.proofs.Complete.{text_read}
use Rattle.bool_functions.proofs.JoinedTexts.{symbols_append}
use Rattle.bus_texts.specs.declared.vectors.Vector.{Vector}
use Rattle.bus_texts.specs.Parts.{Part, begins_name, is_identifier, plain_part, name_with, closed_digits, digits_in_front}
use Rattle.bus_texts.specs.Parts.{first_part, parts_of}
use Rattle.bus_texts.specs.Texts.{Replacement, Stays, Becomes, Missing, replacement_for, spelled, rewritten_part, rewritten}
use Rattle.bus_texts.specs.Vectors.{vector_named}
use Rattle.bus_texts.specs.Laws.{runs_into_name, runs_together}
use Rattle.bus_texts.proofs.PartLemmas.{first_some, parts_step, digits_first}
use Rattle.bus_texts.proofs.RewrittenTexts.{Named, named_by, first_behind, spelled_quiet, begins_taken, begins_same}

-- symbols of which one is nothing of the grammar are no text
abbrev pub is_stray : Symbol → Bool
is_stray symbol.Stray = true
is_stray _ = false

step_stray : (st : State) → step st symbol.Stray ≡ None
step_stray (ps, None) = refl
step_stray (ps, Some f) = refl

unread_after :
    (o : Option State) (x : Symbol) (s : List Symbol) (f : Node) → ((st : State) → run st s ≡ Ok f → ⊥)
    → next o (x ∷ s) (λ after. run after s) ≡ Ok f → ⊥
unread_after None x s f h e = absurd cc
unread_after (Some st) x s f h e = h st e

pub stray_unread : (s : List Symbol) (f : Node) → list_any is_stray s ≡ true → (st : State) → run st s ≡ Ok f → ⊥
stray_unread [] f h st e = absurd cc
stray_unread (symbol.Stray ∷ s) f h st e =
    let none = sym (ap (λ o. next o (symbol.Stray ∷ s) (λ after. run after s)) (step_stray st)) ∙ e in absurd cc
stray_unread (x ∷ s) f h st e = unread_after (step st x) x s f (stray_unread s f h) e

-- a run that begins with a digit and goes on
abbrev first_end : List Span → ℕ
first_end [] = 0
first_end (t ∷ ts) = t.end

grown_end : (at : ℕ) (ts : List Span) → first_end (grown at ts) ≡ first_end ts
grown_end at [] = refl
grown_end at (t ∷ ts) = refl

-- the tokens of a text that begins with a byte, by what that byte and the one behind it are
abbrev first_by : (word more blank : Bool) → ℕ → List Span → List Span
first_by word more blank at ts =
    if word then (if more then grown at ts else span at (at + 1) ∷ ts) else (if blank then ts else span at (at + 1) ∷ ts)

end_by : (more blank : Bool) (at : ℕ) (ts : List Span) → (more ≡ true → at + 1 < first_end ts)
    → at < first_end (first_by true more blank at ts)
end_by true blank at ts h = let e = grown_end at ts in let k : at + 1 < first_end ts = h refl in omega arith
end_by false blank at ts h = omega arith

run_end : (at c : ℕ) (s : List ℕ) → is_word_byte c ≡ true → at < first_end (spans_from at (c ∷ s))
run_end at c [] w =
    subst (λ word. at < first_end (first_by word false (is_blank c) at [])) (sym w)
    (end_by false (is_blank c) at [] (λ e. absurd cc))
run_end at c (b ∷ s) w =
    subst (λ word. at < first_end (first_by word (is_word_byte b) (is_blank c) at (spans_from (at + 1) (b ∷ s)))) (sym w)
    (end_by (is_word_byte b) (is_blank c) at (spans_from (at + 1) (b ∷ s)) (λ e. run_end (at + 1) b s e))

module _ (names : List (List ℕ)) (d c : ℕ) (s : List ℕ) (digit : is_ascii_digit d ≡ true) where
  taken_stray : (n : ℕ) → 1 < n → symbol_of names (take n (d ∷ c ∷ s)) ≡ symbol.Stray
  taken_stray zero h = absurd (omega (arith, h))
  taken_stray (suc zero) h = absurd (omega (arith, h))
  taken_stray (suc (suc k)) h = rw digit refl

  abbrev symbol_at : Span → Symbol
  symbol_at t = symbol_of names (bytes_at (d ∷ c ∷ s) t)

  grown_stray : (ts : List Span) → 1 < first_end ts → list_any is_stray (map symbol_at (grown 0 ts)) ≡ true
  grown_stray [] h = absurd (omega (arith, h))
  grown_stray (t ∷ ts) h =
      ap (λ x. is_stray x || list_any is_stray (map symbol_at ts)) (taken_stray (t.end - 0) (omega (arith, h)))

  digit_word : is_word_byte d ≡ true
  digit_word = rw digit refl

  stray_run : is_word_byte c ≡ true → list_any is_stray (symbols names (d ∷ c ∷ s)) ≡ true
  stray_run w =
      let ts : List Span = spans_from 1 (c ∷ s) in
      ap (λ word. list_any is_stray (map symbol_at (first_by word (is_word_byte c) (is_blank d) 0 ts))) digit_word
      ∙ (ap (λ more. list_any is_stray (map symbol_at (first_by true more (is_blank d) 0 ts))) w
      ∙ grown_stray ts (run_end 1 c s w))

stray_head : (names : List (List ℕ)) (d : ℕ) (s : List ℕ) → is_ascii_digit d ≡ true → begins_word s ≡ true
    → list_any is_stray (symbols names (d ∷ s)) ≡ true
stray_head names d [] digit w = absurd cc
stray_head names d (c ∷ s) digit w = stray_run names d c s digit w

-- no name runs into what stands behind it
prefix_by :
    (b : ℕ) (s : List ℕ) (word : Bool) → is_word_byte b ≡ word → begins_word (drop (prefix_len is_word_byte s) s) ≡ false
    → begins_word (drop (prefix_len is_word_byte (b ∷ s)) (b ∷ s)) ≡ false
prefix_by b s true e h =
    let n : ℕ = prefix_len is_word_byte s in
    let more : 1 + n ≡ suc n = omega arith in
    ap (λ word. begins_word (drop (cond word (1 + n) 0) (b ∷ s))) e ∙ (ap (λ m. begins_word (drop m (b ∷ s))) more ∙ h)
prefix_by b s false e h = ap (λ word. begins_word (drop (cond word (1 + prefix_len is_word_byte s) 0) (b ∷ s))) e ∙ e

after_prefix : (t : List ℕ) → begins_word (drop (prefix_len is_word_byte t) t) ≡ false
after_prefix [] = refl
after_prefix (b ∷ s) = prefix_by b s (is_word_byte b) refl (after_prefix s)

last_ends : (m : ℕ) (t : List ℕ) → m < length t → ends_in_word (take (suc m) t) ≡ is_word_byte (slice_index t m)
last_ends m [] h = absurd (omega (arith, h))
last_ends zero (b ∷ s) h = refl
last_ends (suc m) (b ∷ []) h = absurd (omega (arith, h))
last_ends (suc m) (b ∷ c ∷ s) h = last_ends m (c ∷ s) (omega (arith, h))

-- the bracket behind the digits of a bit
record IsClosed (t digits : List ℕ) : Type 0 where
  pub within : length digits + 1 < length t
  pub closes : slice_index t (length digits + 1) ≡ 93

closed_by : (b : ℕ) (s : List ℕ) (count : ℕ) (digits : List ℕ) → closed_digits s count ≡ Some digits → IsClosed (b ∷ s) digits
closed_by b s count digits e = by (nat_lt 0 count) (nat_lt count (length s)) (slice_index s count == 93) refl refl refl e
  where
    by :
        (some within closes : Bool) → nat_lt 0 count ≡ some → nat_lt count (length s) ≡ within
        → (slice_index s count == 93) ≡ closes
        → (if some && (within && closes) then Some (take count s) else None) ≡ Some digits → IsClosed (b ∷ s) digits
    by true true true p q r e =
        let below : count < length s = ltb-true count (length s) q in
        let same : take count s ≡ digits = cc in
        let long : length digits ≡ count = sym (ap length same) ∙ length-take-le count s (omega arith) in
        let place : length digits + 1 ≡ suc count = omega arith in
        record {
          within = omega (arith, below, long);
          closes = ap (λ n. slice_index (b ∷ s) n) place
              ∙ eqb-true (slice_index s count) 93 r;
        }
    by true true false p q r e = absurd cc
    by true false closes p q r e = absurd cc
    by false within closes p q r e = absurd cc

closed : (t digits : List ℕ) → digits_in_front t ≡ Some digits → IsClosed t digits
closed [] digits e = absurd cc
closed (b ∷ s) digits e = by (b == 91) refl e
  where
    by : (opens : Bool) → (b == 91) ≡ opens
        → (if opens then closed_digits s (prefix_len is_ascii_digit s) else None) ≡ Some digits → IsClosed (b ∷ s) digits
    by true p e = closed_by b s (prefix_len is_ascii_digit s) digits e
    by false p e = absurd cc

bit_ends : (t digits : List ℕ) (n : ℕ) → IsClosed (drop n t) digits → ends_in_word (take (n + length digits + 2) t) ≡ false
bit_ends t digits n c =
    let left : length (drop n t) ≡ length t - n = length-drop n t in
    let inside : length digits + 1 < length (drop n t) = c.within in
    let within : n + (length digits + 1) < length t = omega (arith, left, inside) in
    let place : n + length digits + 2 ≡ suc (n + (length digits + 1)) = omega arith in
    ap (λ m. ends_in_word (take m t)) place
    ∙ (last_ends (n + (length digits + 1)) t within
    ∙ ap is_word_byte (sym (get_or-drop n t (length digits + 1) 0) ∙ c.closes))

named_apart : (t : List ℕ) (digits : Option (List ℕ)) → digits_in_front (drop (prefix_len is_word_byte t) t) ≡ digits
    → runs_into_name (name_with t (prefix_len is_word_byte t) digits) ≡ false
named_apart t None e = ap (λ begins. begins && ends_in_word (take (prefix_len is_word_byte t) t)) (after_prefix t)
named_apart t (Some digits) e =
    let n : ℕ = prefix_len is_word_byte t in
    ap (λ ends. begins_word (drop (n + length digits + 2) t) && ends) (bit_ends t digits n (closed (drop n t) digits e))
    ∙ and_right (begins_word (drop (n + length digits + 2) t))

no_word : (word digit : Bool) → (word && not digit) ≡ false → digit ≡ false → word ≡ false
no_word true true h e = absurd cc
no_word true false h e = absurd cc
no_word false digit h e = refl

-- what a text begins with when its names are replaced
record IsTaken (text : List ℕ) (part : Part) : Type 0 where
  pub count : ℕ
  pub taken : part.written ≡ take count text

name_taken : (text : List ℕ) (n : ℕ) (digits : Option (List ℕ)) → IsTaken text (name_with text n digits)
name_taken text n None = record { count = n; taken = refl }
name_taken text n (Some digits) = record { count = n + length digits + 2; taken = refl }

first_taken : (b : ℕ) (s : List ℕ) → IsTaken (b ∷ s) (first_part (b ∷ s))
first_taken b s = by (begins_name b) (is_ascii_digit b) refl refl
  where
    by : (named digit : Bool) → begins_name b ≡ named → is_ascii_digit b ≡ digit → IsTaken (b ∷ s) (first_part (b ∷ s))
    by true digit e d = rw e (name_taken (b ∷ s) (prefix_len is_word_byte (b ∷ s))
        (digits_in_front (drop (prefix_len is_word_byte (b ∷ s)) (b ∷ s))))
    by false true e d =
        subst (IsTaken (b ∷ s)) (sym (digits_first b s e d)) (record { count = prefix_len is_ascii_digit (b ∷ s); taken = refl })
    by false false e d = rw (e, d) (record { count = 1; taken = refl })

member_begins : (member rest : List ℕ) (followed : Bool) → is_identifier member ≡ true
    → begins_word ((if followed then member ++ 32 ∷ [] else member) ++ rest) ≡ true
member_begins [] rest followed h = absurd cc
member_begins (c ∷ m) rest true h = (and_parts (is_word_byte c) _ (and_parts (begins_name c) (list_all is_word_byte m) h).0).0
member_begins (c ∷ m) rest false h = (and_parts (is_word_byte c) _ (and_parts (begins_name c) (list_all is_word_byte m) h).0).0

begins_spelled : (part : Part) (replacement : Replacement) (rest : List ℕ) → Named replacement
    → begins_word (part.written ++ rest) ≡ true → begins_word (spelled part replacement ++ rest) ≡ true
begins_spelled part Stays rest n h = h
begins_spelled part (Becomes member) rest n h = member_begins member rest part.followed n
begins_spelled part Missing rest n h = h

module _ (names : List (List ℕ)) (vectors : List Vector) (at : ℕ) where
  begins_kept : (text : List ℕ) → begins_word text ≡ true → begins_word (rewritten vectors at text) ≡ true
  begins_kept [] h = absurd cc
  begins_kept (b ∷ s) h =
      let part : Part = first_part (b ∷ s) in
      let rest : List ℕ = rewritten vectors at (drop (length part.written) (b ∷ s)) in
      let front : IsTaken (b ∷ s) part = first_taken b s in
      let some : 0 < length (take front.count (b ∷ s)) = subst (λ w. 0 < length w) front.taken (first_some (b ∷ s) (omega arith))
      in
      let written : begins_word (part.written ++ rest) ≡ true =
      ap (λ w. begins_word (w ++ rest)) front.taken ∙ (begins_taken front.count b s rest some ∙ h) in
      ap (λ ps. begins_word (flat_map (rewritten_part vectors at) ps)) (parts_step (b ∷ s) (omega arith))
      ∙ begins_spelled part (replacement_for vectors at part) rest (named_by at part.bit (vector_named vectors part.name)) written

  digits_then : (s rest : List ℕ) → begins_word rest ≡ true → begins_word (take (prefix_len is_ascii_digit s) s ++ rest) ≡ true
  digits_then [] rest h = h
  digits_then (c ∷ s) rest h = by (is_ascii_digit c) refl
    where
      by : (digit : Bool) → is_ascii_digit c ≡ digit
          → begins_word (take (prefix_len is_ascii_digit (c ∷ s)) (c ∷ s) ++ rest) ≡ true
      by true e =
          let n : ℕ = prefix_len is_ascii_digit s in
          let more : 1 + n ≡ suc n = omega arith in
          let word : is_word_byte c ≡ true = rw e refl in
          ap (λ digit. begins_word (take (cond digit (1 + n) 0) (c ∷ s) ++ rest)) e
          ∙ (ap (λ m. begins_word (take m (c ∷ s) ++ rest)) more ∙ word)
      by false e = ap (λ digit. begins_word (take (cond digit (1 + prefix_len is_ascii_digit s) 0) (c ∷ s) ++ rest)) e ∙ h

  -- a number that runs into a name
  number_stray : (b : ℕ) (s rest : List ℕ) → is_ascii_digit b ≡ true → begins_word rest ≡ true
      → list_any is_stray (symbols names (take (prefix_len is_ascii_digit (b ∷ s)) (b ∷ s) ++ rest)) ≡ true
  number_stray b s rest d h =
      let n : ℕ = prefix_len is_ascii_digit s in
      let more : 1 + n ≡ suc n = omega arith in
      ap (λ digit. list_any is_stray (symbols names (take (cond digit (1 + n) 0) (b ∷ s) ++ rest))) d
      ∙ (ap (λ m. list_any is_stray (symbols names (take m (b ∷ s) ++ rest))) more
      ∙ stray_head names b (take n s ++ rest) d (digits_then s rest h))

  first_stray : (b : ℕ) (s : List ℕ) → runs_into_name (first_part (b ∷ s)) ≡ true
      → list_any is_stray (symbols names (rewritten vectors at (b ∷ s))) ≡ true
  first_stray b s h = by (begins_name b) (is_ascii_digit b) refl refl
    where
      by : (named digit : Bool) → begins_name b ≡ named → is_ascii_digit b ≡ digit
          → list_any is_stray (symbols names (rewritten vectors at (b ∷ s))) ≡ true
      by true digit e d =
          let apart : runs_into_name (first_part (b ∷ s)) ≡ false =
          rw e (named_apart (b ∷ s) (digits_in_front (drop (prefix_len is_word_byte (b ∷ s)) (b ∷ s))) refl) in
          absurd cc
      by false true e d =
          let part : Part = plain_part (b ∷ s) (prefix_len is_ascii_digit (b ∷ s)) in
          let same : first_part (b ∷ s) ≡ part = digits_first b s e d in
          let others : List ℕ = drop (length part.written) (b ∷ s) in
          let runs : runs_into_name part ≡ true = sym (ap runs_into_name same) ∙ h in
          let followed : part.followed ≡ true = (and_parts part.followed (ends_in_word part.written) runs).0 in
          let behind : part.followed ≡ begins_word others =
          subst (λ (p : Part). p.followed ≡ begins_word (drop (length p.written) (b ∷ s))) same (first_behind b s) in
          ap (λ ps. list_any is_stray (symbols names (flat_map (rewritten_part vectors at) ps)))
          (parts_step (b ∷ s) (omega arith))
          ∙ (ap (λ (p : Part). list_any is_stray
          (symbols names (rewritten_part vectors at p ++ rewritten vectors at (drop (length p.written) (b ∷ s))))) same
          ∙ number_stray b s (rewritten vectors at others) d (begins_kept others (sym behind ∙ followed)))
      by false false e d =
          let word : is_word_byte b ≡ false = no_word (is_word_byte b) (is_ascii_digit b) e d in
          let ends : runs_into_name (plain_part (b ∷ s) 1) ≡ false =
          ap (λ w. begins_word (drop 1 (b ∷ s)) && w) word ∙ and_right (begins_word (drop 1 (b ∷ s))) in
          let apart : runs_into_name (first_part (b ∷ s)) ≡ false = rw (e, d) ends in
          absurd cc

  pub runs_stray : (n : ℕ) (text : List ℕ) → length text ≤ n → runs_together text ≡ true
      → list_any is_stray (symbols names (rewritten vectors at text)) ≡ true
  runs_stray n [] le h = absurd cc
  runs_stray zero (b ∷ s) le h = absurd (omega (arith, le))
  runs_stray (suc n) (b ∷ s) le h =
      let part : Part = first_part (b ∷ s) in
      let others : List ℕ = drop (length part.written) (b ∷ s) in
      let step : parts_of (b ∷ s) ≡ part ∷ parts_of others = parts_step (b ∷ s) (omega arith) in
      let some : 0 < length part.written = first_some (b ∷ s) (omega arith) in
      let left : length others ≡ length (b ∷ s) - length part.written = length-drop (length part.written) (b ∷ s) in
      let front : List ℕ = rewritten_part vectors at part in
      let rest : List ℕ = rewritten vectors at others in
      let runs : (runs_into_name part || runs_together others) ≡ true = sym (ap (λ ps. list_any runs_into_name ps) step) ∙ h in
      let quiet = λ (e : part.followed ≡ false). begins_same names vectors at others (sym (first_behind b s) ∙ e) in
      elim (cases_Bool (runs_into_name part)) [
        | inl here ↦ first_stray b s here
        | inr apart ↦
            let later : runs_together others ≡ true = sym (ap (λ here. here || runs_together others) apart) ∙ runs in
            let behind : list_any is_stray (symbols names rest) ≡ true = runs_stray n others (omega (arith, le, some, left)) later
            in
            ap (λ ps. list_any is_stray (symbols names (flat_map (rewritten_part vectors at) ps))) step
            ∙ (ap (list_any is_stray) (symbols_append names front rest
            (spelled_quiet part (replacement_for vectors at part) rest apart quiet))
            ∙ (list_any-append is_stray (symbols names front) (symbols names rest)
            ∙ or_right (list_any is_stray (symbols names front)) (list_any is_stray (symbols names rest)) behind))
      ]

  pub running_unread : (text : List ℕ) (f : Node) → runs_together text ≡ true
      → IsText (symbols names (rewritten vectors at text)) f → ⊥
  running_unread text f h is =
      stray_unread (symbols names (rewritten vectors at text)) f (runs_stray (length text) text (omega arith) h) start
      (text_read (symbols names (rewritten vectors at text)) f is)
