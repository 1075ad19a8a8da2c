-- The tokens of written statements are read as those statements.
use Rattle.std.proofs.Common.{◌≡◌, ℕ, suc, ◌+◌, ◌-◌, ◌==◌, Bool, true, false, List, [], ◌∷◌, ◌++◌, length, map, Some, Ok, refl}
use Rattle.std.proofs.Common.{sym, ap, ◌∙◌, arith, append_assoc, length-append}
use Rattle.std.proofs.lemmas.List.{append-nil}
use Rattle.std.proofs.lemmas.Bool.Decides.{nat_tests}
use Rattle.std.specs.List.{list_all}
use Rattle.std.proofs.lemmas.Bool.{and_parts as and_splits}
use Rattle.liberty_text.specs.declared.token.TokenKind.TheVariants.{Text, Brace, Colon, Semicolon, Comma}
use Rattle.liberty_text.specs.Scanner.{token}
use Rattle.liberty_text.specs.TextValue.{quoted, value_of}
use Rattle.liberty_text.proofs.Quoting.{quotes_read_back}
use Rattle.grammar_rules.specs.Rule.{Rule, Verdict, Fits, Stops}
use Rattle.grammar_rules.specs.Rule as r
use Rattle.grammar_rules.specs.Reading.{read}
use Rattle.grammar_rules.proofs.Steps.{ok_pair, and_then_at}
use Rattle.grammar_rules.proofs.Exact.{parts_shrink}
use Rattle.grammar_rules.proofs.Turns.{turn, ends}
use Rattle.liberty_groups.specs.declared.fault.Expected.TheVariants as expected
use Rattle.liberty_groups.specs.declared.fault.Refusal.{Refusal}
use Rattle.liberty_groups.specs.declared.fault.Refusal.TheVariants.{Syntax}
use Rattle.liberty_groups.specs.declared.reader.Mark.TheVariants as mark
use Rattle.liberty_groups.specs.declared.reader.Place.{Place}
use Rattle.liberty_groups.specs.declared.reader.Place.TheVariants as place
use Rattle.liberty_groups.specs.declared.tree.Value.{Value}
use Rattle.liberty_groups.specs.declared.tree.Item.{Item}
use Rattle.liberty_groups.specs.declared.tree.Item.TheVariants as item
use Rattle.liberty_groups.specs.Lexeme.{Lexeme}
use Rattle.liberty_groups.specs.Grammar.{◌>>=◌, between_quotes, part_of, part_at, parts, expect, arguments, value_end, more_value}
use Rattle.liberty_groups.specs.Grammar.{no_value, value, simple, some_statements, statements, group_of, complex_or_group}
use Rattle.liberty_groups.specs.Grammar.{bracketed, body, statement, goes_on}
use Rattle.liberty_groups.specs.Writing.{value_text, is_quotable, as_quoted}
use Rattle.liberty_groups.proofs.Cuts.{word_slice}
use Rattle.liberty_groups.proofs.Spelling.{mark_at, text_at, values_at, quotable}

inner_quotes : (v : Value) → between_quotes (value_text v) ≡ quoted v.bytes
inner_quotes v =
    let q = quoted v.bytes in
    let long = length-append q (34 ∷ []) in
    word_slice (value_text v) (34 ∷ []) q (34 ∷ []) 1 (length (value_text v) - 1) refl refl (omega arith)

value_back : (v : Value) → is_quotable v ≡ true → value_of (between_quotes (value_text v)) ≡ v.bytes
value_back v h = ap value_of (inner_quotes v) ∙ ((quotes_read_back v.bytes).0 (quotable v h)).same

part_back : (v : Value) (n : ℕ) (l : Bool) → is_quotable v ≡ true → part_of (text_at n l v) ≡ as_quoted v ∷ []
part_back v n l h = ap (λ (b : List ℕ). record { bytes = b; quoted = true } ∷ []) (value_back v h)

-- texts and commas go on at this place
abbrev Takes_values : Place → Type 0
Takes_values p = ((n e : ℕ) → goes_on p (token Text n e false) ≡ true) × ((n e : ℕ) → goes_on p (token Comma n e false) ≡ true)

text_turn : (p : Place) (v : Value) (n : ℕ) (found : List Value) (rest : List Lexeme) → Takes_values p → is_quotable v ≡ true →
    read (parts p found) (text_at n false v ∷ rest) ≡ read (parts p (found ++ as_quoted v ∷ [])) rest
text_turn p v n found rest ok h =
    turn (λ _. part_at p) (λ w a m. read (r.Gives {K = Refusal} (w ++ a)) m) (parts_shrink (λ w a. r.Gives (w ++ a))) found
    (text_at n false v) (as_quoted v ∷ []) rest (found ++ as_quoted v ∷ []) rest
    (rw (ok.0 n (n + length (value_text v))) (ap (λ (a : List Value). Some (Fits a)) (part_back v n false h))) refl

comma_turn : (p : Place) (n : ℕ) (found : List Value) (rest : List Lexeme) → Takes_values p →
    read (parts p found) (mark_at Comma 44 n false ∷ rest) ≡ read (parts p found) rest
comma_turn p n found rest ok =
    turn (λ _. part_at p) (λ w a m. read (r.Gives {K = Refusal} (w ++ a)) m) (parts_shrink (λ w a. r.Gives (w ++ a))) found
    (mark_at Comma 44 n false) [] rest (found ++ []) rest
    (rw (ok.1 n (n + 1)) refl) refl
    ∙ ap (λ (f : List Value). read (parts p f) rest) (append-nil found)

back_parts : (p : Place) (first : Bool) (vs : List Value) (n : ℕ) (found : List Value) (more : List Lexeme) → Takes_values p
    → list_all is_quotable vs ≡ true →
    Stops (part_at p) more → read (parts p found) (values_at first vs n ++ more) ≡ Ok (found ++ map as_quoted vs, more)
back_parts p true [] n found more ok h s =
    ends (λ _. part_at p) (λ w a m. read (r.Gives {K = Refusal} (w ++ a)) m) (parts_shrink (λ w a. r.Gives (w ++ a))) found more s
    ∙ ok_pair (sym (append-nil found)) refl
back_parts p false [] n found more ok h s =
    ends (λ _. part_at p) (λ w a m. read (r.Gives {K = Refusal} (w ++ a)) m) (parts_shrink (λ w a. r.Gives (w ++ a))) found more s
    ∙ ok_pair (sym (append-nil found)) refl
back_parts p true (v ∷ vs) n found more ok h s =
    let i = and_splits (is_quotable v) (list_all is_quotable vs) h in
    text_turn p v n found (values_at false vs (n + length (value_text v)) ++ more) ok i.0
    ∙ back_parts p false vs (n + length (value_text v)) (found ++ as_quoted v ∷ []) more ok i.1 s
    ∙ ok_pair (append_assoc found (as_quoted v ∷ []) (map as_quoted vs)) refl
back_parts p false (v ∷ vs) n found more ok h s =
    let i = and_splits (is_quotable v) (list_all is_quotable vs) h in
    let m = n + length ((44 ∷ 32 ∷ []) ++ value_text v) in
    comma_turn p n found (text_at (n + 2) false v ∷ (values_at false vs m ++ more)) ok
    ∙ text_turn p v (n + 2) found (values_at false vs m ++ more) ok i.0
    ∙ back_parts p false vs m (found ++ as_quoted v ∷ []) more ok i.1 s
    ∙ ok_pair (append_assoc found (as_quoted v ∷ []) (map as_quoted vs)) refl

pub back_arguments : (vs : List Value) (n m : ℕ) (l : Bool) (more : List Lexeme) → list_all is_quotable vs ≡ true →
    read arguments (values_at true vs n ++ (mark_at (Brace 41) 41 m l ∷ more)) ≡ Ok (map as_quoted vs, more)
unfolding arguments
back_arguments vs n m l more h =
    and_then_at (read (parts place.Arguments []) (values_at true vs n ++ (mark_at (Brace 41) 41 m l ∷ more)))
    (λ found t. read (expect mark.Close (Syntax expected.Argument) >>= λ _. r.Gives found) t) (map as_quoted vs)
    (mark_at (Brace 41) 41 m l ∷ more)
    (back_parts place.Arguments true vs n [] (mark_at (Brace 41) 41 m l ∷ more) (λ n e. refl, λ n e. refl) h refl)

pub back_value : (vs : List Value) (n m : ℕ) (l : Bool) (more : List Lexeme) → list_all is_quotable vs ≡ true →
    read value (values_at true vs n ++ (mark_at Semicolon 59 m l ∷ more)) ≡ Ok (map as_quoted vs, mark_at Semicolon 59 m l ∷ more)
unfolding value more_value no_value
back_value [] n m l more h = refl
back_value (v ∷ vs) n m l more h =
    let i = and_splits (is_quotable v) (list_all is_quotable vs) h in
    let rest = values_at false vs (n + length (value_text v)) ++ (mark_at Semicolon 59 m l ∷ more) in
    ap (λ (part : List Value). read (more_value part) rest) (part_back v n false i.0)
    ∙ and_then_at (read (parts place.Value (as_quoted v ∷ [])) rest)
    (λ found t. read (value_end place.Value >>= λ _. r.Gives found) t) (as_quoted v ∷ map as_quoted vs)
    (mark_at Semicolon 59 m l ∷ more)
    (back_parts place.Value false vs (n + length (value_text v)) (as_quoted v ∷ []) (mark_at Semicolon 59 m l ∷ more)
    (λ n e. refl, λ n e. refl) i.1 refl)

pub back_simple : (levels : ℕ) (name : List ℕ) (at : ℕ) (vs : List Value) (c n m : ℕ) (k l : Bool) (more : List Lexeme)
    → list_all is_quotable vs ≡ true →
    read (statement levels name at) (mark_at Colon 58 c k ∷ (values_at true vs n ++ (mark_at Semicolon 59 m l ∷ more)))
    ≡ Ok (item.Simple name (map as_quoted vs) at, mark_at Semicolon 59 m l ∷ more)
unfolding simple
back_simple levels name at vs c n m k l more h =
    and_then_at (read value (values_at true vs n ++ (mark_at Semicolon 59 m l ∷ more)))
    (λ found t. read (r.Gives {K = Refusal} (item.Simple name found at)) t) (map as_quoted vs)
    (mark_at Semicolon 59 m l ∷ more)
    (back_value vs n m l more h)

-- what follows the arguments decides
back_bracketed : (levels : ℕ) (name : List ℕ) (at : ℕ) (vs : List Value) (c n m : ℕ) (k l : Bool) (more : List Lexeme)
    → list_all is_quotable vs ≡ true →
    read (statement levels name at) (mark_at (Brace 40) 40 c k ∷ (values_at true vs n ++ (mark_at (Brace 41) 41 m l ∷ more)))
    ≡ read (complex_or_group levels (body levels) name (map as_quoted vs) at) more
unfolding bracketed
back_bracketed levels name at vs c n m k l more h =
    and_then_at (read arguments (values_at true vs n ++ (mark_at (Brace 41) 41 m l ∷ more)))
    (λ found t. read (complex_or_group levels (body levels) name found at) t) (map as_quoted vs) more
    (back_arguments vs n m l more h)

pub back_complex : (levels : ℕ) (name : List ℕ) (at : ℕ) (vs : List Value) (c n m e : ℕ) (k l j : Bool) (more : List Lexeme)
    → list_all is_quotable vs ≡ true →
    read (statement levels name at) (mark_at
    (Brace 40) 40 c k ∷ (values_at true vs n ++ (mark_at (Brace 41) 41 m l ∷ mark_at Semicolon 59 e j ∷ more)))
    ≡ Ok (item.Complex name (map as_quoted vs) at, mark_at Semicolon 59 e j ∷ more)
unfolding complex_or_group
back_complex levels name at vs c n m e k l j more h =
    back_bracketed levels name at vs c n m k l (mark_at Semicolon 59 e j ∷ more) h

some_level : (n : ℕ) → (suc n == 0) ≡ false
some_level n = grind (arith, nat_tests)

-- a group, where its statements are read as these
pub back_group : (levels : ℕ) (name : List ℕ) (at : ℕ) (vs : List Value) (c n m e : ℕ) (k l j : Bool) (B : List Lexeme)
    (found : List Item) (f : ℕ) (i : Bool) (more : List Lexeme) → list_all is_quotable vs ≡ true →
    read (some_statements (statement levels) []) (B ++ (mark_at (Brace 125) 125 f i ∷ more)) ≡ Ok
    (found, mark_at (Brace 125) 125 f i ∷ more) →
    read (statement (suc levels) name at)
    (mark_at (Brace 40) 40 c k ∷ (values_at true vs n
    ++ (mark_at (Brace 41) 41 m l ∷ mark_at (Brace 123) 123 e j ∷ (B ++ (mark_at (Brace 125) 125 f i ∷ more)))))
    ≡ Ok (group_of name (map as_quoted vs) found at, more)
unfolding complex_or_group body
back_group levels name at vs c n m e k l j B found f i more h items =
    let rest = B ++ (mark_at (Brace 125) 125 f i ∷ more) in
    let inside : read (statements (statement levels)) rest ≡ Ok (found, more) =
    and_then_at (read (some_statements (statement levels) []) rest)
    (λ items t. read (expect mark.End (Syntax expected.Statement) >>= λ _. r.Gives items) t) found
    (mark_at (Brace 125) 125 f i ∷ more) items in
    back_bracketed (suc levels) name at vs c n m k l (mark_at (Brace 123) 123 e j ∷ rest) h
    ∙ rw (some_level levels)
    (and_then_at (read (statements (statement levels)) rest)
    (λ items t. read (r.Gives {K = Refusal} (group_of name (map as_quoted vs) items at)) t) found more inside)
