-- The words with which the grammar of VHDL text is written: words and names are compared whatever the case of their letters.
-- Which forms of IEEE 1076-1993 and IEEE 1076.4-2000 are read, and which name stands at which place, is this project's subset.
use Rattle.std.specs.Prelude.{ℕ, zero, suc, Bool, true, false, if◌then◌else◌, nat_eq, List, [], ◌∷◌, ◌++◌, Option, Some, None}
use Rattle.std.specs.Prelude.{codes, decimal}
use Rattle.std.specs.Option.{option_map_or}
use Rattle.grammar_rules.specs.Rule.{Verdict, Fits, Misfit}
use Rattle.grammar_rules.specs.Rule as r
use Rattle.grammar_reader.specs.declared.refusal.Refusal.{Refusal}
use Rattle.grammar_reader.specs.declared.refusal.Refusal.TheVariants.{Syntax, Undefined}
use Rattle.grammar_reader.specs.Words.{Grammar, ◌>>=◌}
use Rattle.grammar_reader.specs.Words as words
use Rattle.vhdl_tokens.specs.Tokens.{is_name}
use Rattle.vhdl_tokens.specs.Numbers.{number_of}
use Rattle.vhdl_tokens.specs.Spelling.{is_same}

-- a token that must stand here
abbrev pub expect : List ℕ → Grammar (Unit {0})
expect text = words.expect is_same text

-- tokens that must stand here, one behind the other
abbrev pub expect_all : List (List ℕ) → Grammar (Unit {0})
expect_all [] = r.Gives tt
expect_all (text ∷ texts) = expect text >>= λ _. expect_all texts

-- a token that must stand here, and breaks a strict rule of this kind unless the condition holds
abbrev pub expect_where : Bool → Refusal → List ℕ → Grammar (Unit {0})
expect_where holds k text = words.expect_where is_same holds k text

-- a part that begins with this token
abbrev pub begins : List ℕ → List ℕ → Option (Verdict (Unit {0}) Refusal)
begins text = words.begins is_same text

-- the place of a name, which has this to say of a name
abbrev pub named : {A : Type 0} → (List ℕ → Verdict A Refusal) → Grammar A
named judge = words.named is_name judge

-- the name is one of these
abbrev pub is_among : List (List ℕ) → List ℕ → Bool
is_among names x = words.is_among is_same names x

-- a name that is declared here, and was none of these before
abbrev pub new_name : List (List ℕ) → Grammar (List ℕ)
new_name names = words.new_name is_name is_same names

-- a name that stands for a value at its place
abbrev pub known : {A : Type 0} → (List ℕ → Option A) → Grammar A
known find = words.known is_name find

-- This name. Where there is none, no name is allowed.
abbrev pub this_name : Option (List ℕ) → Grammar (Unit {0})
this_name name = words.this_name is_name is_same name

-- A place that is reached only where the condition holds. Else no text goes on here, also not with a name.
abbrev pub go_on_unnamed : Bool → Grammar (Unit {0})
go_on_unnamed true = r.Gives tt
go_on_unnamed false = named (λ _. Misfit Undefined)

-- a name of the parts that are numbered from 1: a word, and the number
abbrev pub numbered : List ℕ → ℕ → List ℕ
numbered word n = word ++ decimal n

-- the name with this number, where it is the next one
abbrev pub numbered_where : Bool → List ℕ → ℕ → Option (List ℕ)
numbered_where holds word n = if holds then Some (numbered word n) else None

-- which, from 0, of the names of a word with the numbers from 1 up to this one a token is
abbrev pub place_among : List ℕ → ℕ → List ℕ → Option ℕ
place_among word zero x = None
place_among word (suc n) x = if is_same x (numbered word (suc n)) then Some n else place_among word n x

-- the token is this number, by its value
abbrev pub is_number_token : ℕ → List ℕ → Bool
is_number_token n x = option_map_or (nat_eq n) (number_of x) false

-- this number
abbrev pub this_number : ℕ → Grammar (Unit {0})
this_number n = r.Token (λ x. if is_number_token n x then Fits tt else Misfit Syntax) Syntax

-- any number (IEEE 1076-1993, 13.4.1)
unfoldable pub a_number : Grammar ℕ
a_number = words.valued number_of

-- NUM "ps": a time in picoseconds
unfoldable pub a_time : Grammar ℕ
a_time = do
  n ← a_number
  _ ← expect (codes "ps")
  r.Gives n

-- "=>" ELEMENT behind the index of the only element of an aggregate
unfoldable pub only_element : {S : Type 0} → (S → Grammar S) → S → Grammar S
only_element element start = do
  _ ← expect (codes "=>")
  element start

-- "," ELEMENT { "," ELEMENT } behind the first element of an aggregate
unfoldable pub more_elements : {S : Type 0} → (S → Grammar S) → S → Grammar S
more_elements element first = do
  _ ← expect (codes ",")
  second ← element first
  r.Many (λ _. begins (codes ",")) (λ found _. element found) second

-- ELEMENT "," ELEMENT { "," ELEMENT }
unfoldable pub several_elements : {S : Type 0} → (S → Grammar S) → S → Grammar S
several_elements element start = do
  first ← element start
  more_elements element first

-- The elements of an aggregate behind "(", each from what there is so far. One that stands alone has its index before it, which
-- is 0 (IEEE 1076-1993, 7.3.2: an aggregate of one element is written by a named association).
unfoldable pub elements : {S : Type 0} → (S → Grammar S) → S → Grammar S
elements element start = r.Choice (words.begins_by (is_number_token 0)) (λ _. only_element element start)
    (several_elements element start)
