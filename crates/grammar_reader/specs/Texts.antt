-- Texts by a grammar, in any language: the value that bytes stand for, or their fault.
use Rattle.std.specs.Prelude.{◌≡◌, ◌<◌, ◌≤◌, ◌⊎◌, ◌↔◌, ℕ, List, [], ◌∷◌, length, Option, Some, None, Result, Ok, Err}
use Rattle.grammar_rules.specs.Rule.{Takes, Refuses}
use Rattle.grammar_rules.specs.Reading.{Outcome, read}
use Rattle.grammar_rules.specs.Loose.{loose, Fouls}
use Rattle.lexer.specs.Tokens.{Token, Lexis, scan_of, spellings}
use Rattle.lexer.specs.Places.{place_from}
use Rattle.grammar_reader.specs.declared.refusal.Refusal.{Refusal}
use Rattle.grammar_reader.specs.Words.{Grammar}

-- The faults of texts: that at an offset where no token begins, and that of a refusal at an offset; and of a fault its offset,
-- and the number of its kind, in the order in which kinds count at one offset.
pub record Faults (F : Type 0) : Type 0 where
  pub lexical : ℕ → F
  pub of_refusal : Refusal → ℕ → F
  pub place : F → ℕ
  pub rank : F → ℕ

-- A language whose texts stand for values: its tokens, its grammar and its faults.
pub record Texts (A F : Type 0) : Type 1 where
  pub lexis : Lexis
  pub file : Grammar A
  pub faults : Faults F

-- the tokens of a text before its lexical fault, by their spelling
abbrev pub text_tokens : Lexis → List ℕ → List (List ℕ)
text_tokens lexis bytes = spellings (scan_of lexis bytes).0

-- the offset of the lexical fault, if there is one
abbrev pub lexical_place : Lexis → List ℕ → Option ℕ
lexical_place lexis bytes = (scan_of lexis bytes).1

-- The bytes are the text of this value: they are tokens, without a lexical fault, that the grammar takes.
pub record IsText {A F : Type 0} (l : Texts A F) (bytes : List ℕ) (value : A) : Type 0 where
  pub lexes : lexical_place l.lexis bytes ≡ None
  pub takes : Takes l.file (text_tokens l.lexis bytes) value []

-- the offset of the first of the tokens that are left
abbrev pub token_place : Lexis → List ℕ → List (List ℕ) → ℕ
token_place lexis bytes left = place_from (length bytes) (scan_of lexis bytes).0 (length left)

-- A text meets a fault: a place where no token begins; a token that the loose subset takes, although it breaks a strict rule; the
-- first token with which the tokens so far are no front of the loose subset; or the end of the text where it is a front and no
-- text.
abbrev pub MeetsFault : {A F : Type 0} → Texts A F → List ℕ → F → Type 0
MeetsFault l bytes f =
    ((at : ℕ) × (lexical_place l.lexis bytes ≡ Some at) × (f ≡ l.faults.lexical at))
    ⊎ (((k : Refusal) × (m : List (List ℕ)) × Fouls l.file (text_tokens l.lexis bytes) k m
    × (f ≡ l.faults.of_refusal k (token_place l.lexis bytes m)))
    ⊎ (((k : Refusal) × (x : List ℕ) × (m : List (List ℕ)) × Refuses (loose l.file) (text_tokens l.lexis bytes) k (x ∷ m)
    × (f ≡ l.faults.of_refusal k (token_place l.lexis bytes (x ∷ m))))
    ⊎ ((lexical_place l.lexis bytes ≡ None) × (k : Refusal) × Refuses (loose l.file) (text_tokens l.lexis bytes) k []
    × (f ≡ l.faults.of_refusal k (length bytes)))))

-- the least offset counts, and at one offset the first kind
abbrev pub CountsBefore : {A F : Type 0} → Texts A F → F → F → Type 0
CountsBefore l f g = (l.faults.place f < l.faults.place g)
    ⊎ ((l.faults.place f ≡ l.faults.place g) × (l.faults.rank f ≤ l.faults.rank g))

-- This is the fault of a text: of those that it meets, the first.
pub record IsFault {A F : Type 0} (l : Texts A F) (bytes : List ℕ) (f : F) : Type 0 where
  pub met : MeetsFault l bytes f
  pub first : (g : F) → MeetsFault l bytes g → CountsBefore l f g

-- Below: the same as a function of the bytes.

abbrev pub end_fault : {F : Type 0} → Faults F → ℕ → Refusal → Option ℕ → F
end_fault faults len k None = faults.of_refusal k len
end_fault faults len k (Some at) = faults.lexical at

-- the fault of a refusal before these tokens, in a text of this length with these tokens and this lexical fault
abbrev pub refusal_fault : {F : Type 0} → Faults F → ℕ → List Token → Option ℕ → Refusal → List (List ℕ) → F
refusal_fault faults len tokens lexical k [] = end_fault faults len k lexical
refusal_fault faults len tokens lexical k (x ∷ m) = faults.of_refusal k (place_from len tokens (length (x ∷ m)))

abbrev pub unless_lexical : {A F : Type 0} → Texts A F → Option ℕ → A → Result A F
unless_lexical l None a = Ok a
unless_lexical l (Some at) a = Err (l.faults.lexical at)

abbrev pub answer_of : {A F : Type 0} → Texts A F → ℕ → List Token → Option ℕ → Outcome (List ℕ) Refusal A → Result A F
answer_of l len tokens lexical (Ok p) = unless_lexical l lexical p.0
answer_of l len tokens lexical (Err e) = Err (refusal_fault l.faults len tokens lexical e.0 e.1)

-- the value of a text, or its fault
abbrev pub text : {A F : Type 0} → Texts A F → List ℕ → Result A F
text l bytes = answer_of l (length bytes) (scan_of l.lexis bytes).0 (scan_of l.lexis bytes).1
    (read l.file (text_tokens l.lexis bytes))

-- A text has a value or a fault, and one of them.
pub record IsAnswer {A F : Type 0} (l : Texts A F) (bytes : List ℕ) : Type 0 where
  pub value : (a : A) → IsText l bytes a ↔ (text l bytes ≡ Ok a)
  pub fault : (f : F) → IsFault l bytes f ↔ (text l bytes ≡ Err f)

-- this of every text of a language
abbrev pub HaveOneAnswer : {A F : Type 0} → Texts A F → Type 0
HaveOneAnswer l = (bytes : List ℕ) → IsAnswer l bytes
