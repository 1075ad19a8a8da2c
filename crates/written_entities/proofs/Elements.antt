-- The elements of a list of names in a call: their tokens and their reading.
use Rattle.std.proofs.Common.{◌≡◌, ℕ, suc, ◌≤◌, Bool, false, nat_eq, List, [], ◌∷◌, ◌++◌, length, None, refl, arith, codes}
use Rattle.std.proofs.lemmas.Bool.Decides.{nat_tests}
use Rattle.grammar_reader.specs.Words.{Grammar, begins_by}
use Rattle.vhdl_tokens.specs.Numbers.{number_of}
use Rattle.vhdl_grammar.specs.VhdlRules.{is_number_token, elements, only_element, several_elements, more_elements}
use Rattle.vhdl_writer.specs.Joined.{numbered_texts, apart_text}
use Rattle.vhdl_writer.specs.Names.{list_start}
use Rattle.grammar_reader.proofs.Fronts.{Front, Anything}
use Rattle.grammar_reader.proofs.Derivations.{Reads, in_turn, chosen, passed, no_turn, turn, turns}
use Rattle.grammar_reader.proofs.Spelling.{literal, joins, behind}
use Rattle.written_entities.proofs.Names.{IsNamed}
use Rattle.written_entities.proofs.Spelling.{Spells}
use Rattle.written_entities.proofs.Words.{Ends, name}
use Rattle.written_entities.proofs.Counting.{counted, apart_spelled, over}
use Rattle.written_entities.proofs.NameReading.{expected}

-- the tokens of the names, behind the parenthesis: the index before the only one, and commas between several
abbrev pub names_front : {X : Type 0} → (X → List ℕ) → List X → Front
names_front f [] s = s
names_front f (x ∷ []) s = codes "0" ∷ codes "=>" ∷ f x ∷ s
names_front f (x ∷ y ∷ xs) s = f x ∷ codes "," ∷ f y ∷ counted (λ n z q. codes "," ∷ f z ∷ q) 3 xs s

pub comma : {t : Bool} → Spells Anything t (codes ", ") (λ s. codes "," ∷ s) false
comma = literal (λ r. refl) refl

pub closed : {t : Bool} → Spells Anything t (codes ")") (λ s. codes ")" ∷ s) false
closed = literal (λ r. refl) refl

pub call_end : {t : Bool} → Spells Anything t (codes ");\n") (λ s. codes ")" ∷ codes ";" ∷ s) false
call_end = literal (λ r. refl) refl

pub line_end : {t : Bool} → Spells Anything t (codes ";\n") (λ s. codes ";" ∷ s) false
line_end = literal (λ r. refl) refl

pub indented : Spells Anything false (codes "    ") (λ s. s) false
indented = literal (λ r. refl) refl

pub only_start : {t : Bool} → Spells Anything t (codes "(0 => ") (λ s. codes "(" ∷ codes "0" ∷ codes "=>" ∷ s) false
only_start = literal (λ r. refl) refl

pub several_start : {t : Bool} → Spells Anything t (codes "(") (λ s. codes "(" ∷ s) false
several_start = literal (λ r. refl) refl

pub is_several : (count : ℕ) → nat_eq (suc (suc count)) 1 ≡ false
is_several count = grind (arith, nat_tests)

-- names that are written one behind the other
pub names_spelled : {X : Type 0} {t : Bool} (text : ℕ → X → List ℕ) (item : X → List ℕ) (xs : List X)
    → ((n : ℕ) (x : X) → text n x ≡ apart_text (codes ", ") n ++ item x) → 1 ≤ length xs
    → ((before : List X) (x : X) (after : List X) → before ++ x ∷ after ≡ xs → IsNamed (item x))
    → Spells Anything t (list_start (length xs) ++ (numbered_texts text 1 xs ++ codes ")"))
    (λ s. codes "(" ∷ names_front item xs (codes ")" ∷ s)) false
names_spelled text item [] e some named = absurd (omega (arith, some))
names_spelled text item (x ∷ []) e some named =
    behind only_start (joins (apart_spelled (codes ", ") (λ s. codes "," ∷ s) text (λ n y. item y) (λ n y q. item y ∷ q) e comma
    (λ r. refl) x []
    (λ before y after same. name (item y) (named before y after same))) (λ r q. refl) closed)
names_spelled text item (x ∷ y ∷ xs) e some named =
    rw (is_several (length xs)) (behind several_start
    (joins (apart_spelled {P = Ends} (codes ", ") (λ s. codes "," ∷ s) text (λ n z. item z) (λ n z q. item z ∷ q) e comma
    (λ r. refl) x (y ∷ xs)
    (λ before z after same. name (item z) (named before z after same))) (λ r q. refl) closed))

pub unmarked : (x : List ℕ) → number_of x ≡ None → begins_by (is_number_token 0) x ≡ None
unmarked x e = rw e refl

-- elements are read, each from what there is of those before it
pub elements_read : {X S : Type 0} (state : List X → S) (element : S → Grammar S) (item : X → List ℕ) (all : List X)
    → 1 ≤ length all
    → ((before : List X) (x : X) (after : List X) → before ++ x ∷ after ≡ all → number_of (item x) ≡ None)
    → ((before : List X) (x : X) (after : List X) (s : List (List ℕ)) → before ++ x ∷ after ≡ all
    → Reads (element (state before)) (item x ∷ s) (state (before ++ x ∷ [])) s)
    → (s : List (List ℕ)) → Reads (elements element (state [])) (names_front item all (codes ")" ∷ s)) (state all) (codes ")" ∷ s)
unfolding elements only_element several_elements more_elements
elements_read state element item [] some none h s = absurd (omega (arith, some))
elements_read state element item (x ∷ []) some none h s = chosen refl (in_turn expected (h [] x [] (codes ")" ∷ s) refl))
elements_read {X = X} state element item (x ∷ y ∷ xs) some none h s =
    let more : Front = counted (λ n z q. codes "," ∷ item z ∷ q) 3 xs in
    let tail : List (List ℕ) = more (codes ")" ∷ s) in
    passed (unmarked (item x) (none [] x (y ∷ xs) refl))
    (in_turn (h [] x (y ∷ xs) (codes "," ∷ item y ∷ tail) refl)
    (in_turn expected (in_turn (h (x ∷ []) y xs tail refl)
    (over state (λ n z q. codes "," ∷ item z ∷ q) (x ∷ y ∷ []) xs
    (λ before z after q e rest. turns (turn refl (h before z after q e)) rest) (codes ")" ∷ s) (no_turn refl)))))
