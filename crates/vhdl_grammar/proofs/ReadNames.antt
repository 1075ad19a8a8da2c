-- The tokens and the names that are read.
use Rattle.std.proofs.Common.{◌≡◌, ℕ, Bool, true, false, not, ◌||◌, ◌==◌, nat_eq, if◌then◌else◌, IsTrue, List, [], ◌∷◌, ◌++◌}
use Rattle.std.proofs.Common.{Option, Some, None, refl, sym, ap, subst, ◌∙◌}
use Rattle.std.specs.Char.{is_ascii_alphabetic}
use Rattle.std.specs.Str.{bytes_eq, str_eq_ignore_ascii_case, str_to_ascii_lowercase}
use Rattle.std.specs.Cmp.{IsEquivalence}
use Rattle.std.specs.Cmp.Lexicographic.{on_texts_equal}
use Rattle.std.specs.Option.{option_map_or}
use Rattle.std.specs.List.{list_any}
use Rattle.std.proofs.lemmas.Bool.{and_parts, eqb-true, true≢false}
use Rattle.std.proofs.lemmas.Map.Keys.{IsDistinct-push}
use Rattle.grammar_rules.specs.Rule.{Fits}
use Rattle.grammar_rules.proofs.Promises.{Promises, token, weaker}
use Rattle.grammar_reader.specs.declared.refusal.Refusal.{Refusal}
use Rattle.grammar_reader.specs.declared.refusal.Refusal.TheVariants.{Syntax}
use Rattle.grammar_reader.proofs.WordPromises as promised
pub use Rattle.grammar_reader.proofs.WordPromises.{values, goes_on, behind, surely}
pub use Rattle.grammar_reader.proofs.Passing.{fits_if, fits_unless, fits_where, some_if, fits_allowed, IsFound}
use Rattle.vhdl_tokens.specs.Words.{is_vhdl_word}
use Rattle.vhdl_tokens.specs.Tokens.{is_name}
use Rattle.vhdl_tokens.specs.Numbers.{number_of}
use Rattle.lexer.proofs.DigitLemmas.{number_below}
use Rattle.vhdl_tokens.specs.Spelling.{is_same}
use Rattle.vhdl_grammar.specs.VhdlRules.{expect_where, is_among, known, a_number, is_number_token, this_number}
use Rattle.vhdl_grammar.specs.WellFormed.{is_spelled_as_name, IsEntityName, AreApart, IsNumber}

-- a token that begins as a name is one whole identifier
abbrev pub IsSpelled : List ℕ → Type 0
IsSpelled x = IsTrue (is_name x) → IsTrue (is_spelled_as_name x)

pub a_name : (x : List ℕ) → IsSpelled x → IsTrue (is_name x) → IsEntityName x
a_name [] h e = absurd cc
a_name (b ∷ bs) h e = record { identifier = h e; no_word = (and_parts (is_ascii_alphabetic b) (not (is_vhdl_word (b ∷ bs))) e).1 }

-- Names that are apart.

pub same_equivalence : IsEquivalence str_eq_ignore_ascii_case
same_equivalence = on_texts_equal str_to_ascii_lowercase

-- a name is no character literal
pub same_name : (x y : List ℕ) → IsTrue (is_name x) → is_same x y ≡ str_eq_ignore_ascii_case x y
same_name [] y e = absurd cc
same_name (b ∷ bs) y e = by (b == 39) refl
  where
    letter : is_ascii_alphabetic b ≡ true
    letter = (and_parts (is_ascii_alphabetic b) (not (is_vhdl_word (b ∷ bs))) e).0

    by : (q : Bool) → (b == 39) ≡ q → (if q then bytes_eq (b ∷ bs) y
        else str_eq_ignore_ascii_case (b ∷ bs) y) ≡ str_eq_ignore_ascii_case (b ∷ bs) y
    by true h = absurd (true≢false (sym (subst (λ (c : ℕ). is_ascii_alphabetic c ≡ true) (eqb-true b 39 h) letter)))
    by false h = refl

among_same : (names : List (List ℕ)) (x : List ℕ) → IsTrue (is_name x)
    → is_among names x ≡ list_any (str_eq_ignore_ascii_case x) names
among_same [] x e = refl
among_same (y ∷ names) x e = ap (λ b. b || is_among names x) (same_name x y e)
    ∙ ap (λ b. str_eq_ignore_ascii_case x y || b) (among_same names x e)

pub push_apart : (names : List (List ℕ)) (x : List ℕ) → AreApart names → IsTrue (is_name x) → is_among names x ≡ false
    → AreApart (names ++ x ∷ [])
push_apart names x h e new = IsDistinct-push same_equivalence names x h (sym (among_same names x e) ∙ new)

-- What the words of the grammar promise.

pub known_values : {A : Type 0} (find : List ℕ → Option A) → Promises IsSpelled (known find) (IsFound find)
known_values find = promised.known_values is_name find

pub where_holds : (b : Bool) (k : Refusal) (text : List ℕ) → Promises IsSpelled (expect_where b k text) (λ _. b ≡ true)
where_holds b k text = promised.where_holds is_same b k text

-- Numbers.

number_fits : (x : List ℕ) (n : ℕ) → number_of x ≡ Some n → IsNumber n
number_fits = number_below

pub numbers : Promises IsSpelled a_number IsNumber
unfolding a_number
numbers = weaker (values number_of) (λ n f. number_fits f.0 n f.1)

number_token : (n : ℕ) (x : List ℕ) (o : Option ℕ) → number_of x ≡ o → option_map_or (nat_eq n) o false ≡ true → IsNumber n
number_token n x None e h = absurd cc
number_token n x (Some m) e h = subst IsNumber (sym (eqb-true n m h)) (number_fits x m e)

pub these_numbers : (n : ℕ) → Promises IsSpelled (this_number n) (λ _. IsNumber n)
these_numbers n = token (λ x a p e. number_token n x (number_of x) refl (fits_if (is_number_token n x) (Fits tt) Syntax a e).0)
