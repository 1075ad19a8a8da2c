-- Function texts over lists of names. That a text has at most 4,096 bytes, the order of its faults and their places are
-- this project's rules.
use Rattle.std.specs.Prelude.{◌≡◌, ℕ, ◌-◌, ◌<◌, ◌≤◌, not, ◌&&◌, nat_lt, List, [], ◌∷◌, length, drop, filter, bytes_eq, Option}
use Rattle.std.specs.Prelude.{None, Some, is_none, Result, Ok, Err, if◌then◌else◌}
use Rattle.bool_functions.specs.declared.tokens.Span.{Span}
use Rattle.bool_functions.specs.declared.symbol.Symbol.{Symbol}
use Rattle.bool_functions.specs.declared.tree.Node.{Node}
use Rattle.bool_functions.specs.declared.faults.FunctionFault.{FunctionFault}
use Rattle.bool_functions.specs.declared.faults.FunctionFault.TheVariants.{TooLong, Malformed, UnknownName, Memory}
use Rattle.bool_functions.specs.declared.texts.TheConstants.{MAX_LEN}
use Rattle.bool_functions.specs.NameList.{number_of}
use Rattle.bool_functions.specs.Token.{spans, bytes_at, is_name, words, symbols, offset_of}
use Rattle.bool_functions.specs.Grammar.{IsText, IsFault}
use Rattle.bool_functions.specs.Machine.{run, start}

-- the offset of the first of these tokens that is a name and not in the list
abbrev pub first_unknown : List (List ℕ) → List ℕ → List Span → Option ℕ
first_unknown names text [] = None
first_unknown names text (t ∷ ts) =
    if is_name (bytes_at text t) && is_none (number_of names (bytes_at text t)) then Some t.start else first_unknown names text ts

-- the offset of a text's first name that is not in the list
abbrev pub unknown_in : List (List ℕ) → List ℕ → Option ℕ
unknown_in names text = first_unknown names text (spans text)

-- The text is a function text with this tree, and its names are in the list, by which the tree numbers them.
pub record FunctionText (names : List (List ℕ)) (text : List ℕ) (f : Node) : Type 0 where
  pub fits : length text ≤ MAX_LEN
  pub tree : IsText (symbols names text) f
  pub known : unknown_in names text ≡ None

-- The first token with which no function text goes on begins at this offset, or the text ends there too early. The
-- numbers of the names play no part, so they are taken over no list.
abbrev pub MalformedAt : List ℕ → ℕ → Type 0
MalformedAt text at = (n : ℕ) × IsFault (symbols [] text) n × (offset_of text n ≡ at)

-- the text is a function text, whatever its names are
abbrev pub IsFunction : List ℕ → Type 0
IsFunction text = (f : Node) × IsText (symbols [] text) f

-- What is wrong with a text over a list of names. A text that is too long has no other fault, and a malformed one no
-- unknown names.
abbrev pub HasFault : List (List ℕ) → List ℕ → FunctionFault → Type 0
HasFault names text TooLong = MAX_LEN < length text
HasFault names text (Malformed at) = (length text ≤ MAX_LEN) × MalformedAt text at
HasFault names text (UnknownName at) = (length text ≤ MAX_LEN) × IsFunction text × (unknown_in names text ≡ Some at)
HasFault names text Memory = ⊥

-- the names in the order of their first appearances
abbrev pub first_appearances : List (List ℕ) → List (List ℕ)
first_appearances [] = []
first_appearances (w ∷ ws) = w ∷ filter (λ v. not (bytes_eq v w)) (first_appearances ws)

-- the names of a text, numbered by their first appearances
abbrev pub free_names : List ℕ → List (List ℕ)
free_names text = first_appearances (words text)

-- what the reader of symbols gives, with the offset of a fault and the first unknown name
abbrev pub reading : List ℕ → Option ℕ → Result Node (List Symbol) → Result Node FunctionFault
reading text unknown (Err others) = Err (Malformed (offset_of text (length (spans text) - length others)))
reading text None (Ok f) = Ok f
reading text (Some at) (Ok f) = Err (UnknownName at)

-- the tree of a text over a list of names, or its fault
abbrev pub reading_of : List (List ℕ) → List ℕ → Result Node FunctionFault
reading_of names text =
    if nat_lt MAX_LEN (length text) then Err TooLong else reading text (unknown_in names text) (run start (symbols names text))

-- what the reader of a text's symbols answers
abbrev pub TreeOf : List (List ℕ) → List ℕ → Result Node ℕ → Type 0
TreeOf names text (Ok f) = run start (symbols names text) ≡ Ok f
TreeOf names text (Err at) =
    (n : ℕ) × (n ≤ length (symbols names text)) × (run start (symbols names text) ≡ Err (drop n (symbols names text)))
    × (offset_of text n ≡ at)

-- a tree that was read, or the offset of the token with this number
abbrev pub placed_in : List ℕ → Result Node ℕ → Result Node ℕ
placed_in text (Ok f) = Ok f
placed_in text (Err n) = Err (offset_of text n)

-- what was read, where the text has no name that is not in the list, or what is wrong
abbrev pub known : {A : Type 0} → Option ℕ → Result A ℕ → Result A FunctionFault
known unknown (Err at) = Err (Malformed at)
known None (Ok f) = Ok f
known (Some at) (Ok f) = Err (UnknownName at)

-- a value that was read stands beside the names, or the text is malformed where it was not read
abbrev pub StandsBeside : {A B E : Type 0} → Result (Result A ℕ) E → B → Result (A × B) FunctionFault → Type 0
StandsBeside (Ok (Ok a)) names (Ok both) = (both.0 ≡ a) × (both.1 ≡ names)
StandsBeside (Ok (Ok a)) names (Err fault) = ⊥
StandsBeside (Ok (Err at)) names made = made ≡ Err (Malformed at)
StandsBeside (Err e) names made = ⊥

-- an answer is what is wanted, or memory was
abbrev pub OrMemory : Result Node FunctionFault → Result Node FunctionFault → Type 0
OrMemory (Ok f) wanted = wanted ≡ Ok f
OrMemory (Err Memory) wanted = Unit {0}
OrMemory (Err TooLong) wanted = wanted ≡ Err TooLong
OrMemory (Err (Malformed at)) wanted = wanted ≡ Err (Malformed at)
OrMemory (Err (UnknownName at)) wanted = wanted ≡ Err (UnknownName at)

-- the same of a tree that comes with its names
abbrev pub OrMemoryFree : Result (Node × List (List ℕ)) FunctionFault → List ℕ → Type 0
OrMemoryFree (Ok r) text = (r.1 ≡ free_names text) × (reading_of (free_names text) text ≡ Ok r.0)
OrMemoryFree (Err Memory) text = Unit {0}
OrMemoryFree (Err TooLong) text = reading_of (free_names text) text ≡ Err TooLong
OrMemoryFree (Err (Malformed at)) text = reading_of (free_names text) text ≡ Err (Malformed at)
OrMemoryFree (Err (UnknownName at)) text = ⊥

-- a fault of the text, or memory was wanted
abbrev pub FaultOrMemory : List (List ℕ) → List ℕ → FunctionFault → Type 0
FaultOrMemory names text Memory = Unit {0}
FaultOrMemory names text e = HasFault names text e

-- the answer is this tree, or memory was wanted
abbrev pub Answers : Result Node FunctionFault → Node → Type 0
Answers (Ok g) f = g ≡ f
Answers (Err Memory) f = Unit {0}
Answers (Err e) f = ⊥

abbrev pub AnswersFree : Result (Node × List (List ℕ)) FunctionFault → Node → Type 0
AnswersFree (Ok r) f = r.0 ≡ f
AnswersFree (Err Memory) f = Unit {0}
AnswersFree (Err e) f = ⊥
