-- What holds of every text by a grammar, in any language, in terms of its tokens.
use Rattle.std.specs.Prelude.{◌≡◌, ◌↔◌, ℕ, List, [], ◌∷◌, ◌++◌}
use Rattle.grammar_rules.specs.Rule.{Refuses, Front}
use Rattle.grammar_rules.specs.Loose.{loose, Fouls}
use Rattle.grammar_reader.specs.declared.refusal.Refusal.{Refusal}
use Rattle.grammar_reader.specs.Texts.{Texts, IsText, text_tokens}

-- both texts have the same values
abbrev pub HaveSameValues : {A F : Type 0} → Texts A F → List ℕ → List ℕ → Type 0
HaveSameValues {A} l text other = (value : A) → IsText l text value ↔ IsText l other value

-- The token of a fault is the first with which the tokens so far are no front of a file, in the loose subset; a token that breaks
-- a strict rule is one with which they still are; and at the end of the text all tokens are a front.
pub record HasFaultAtFirstToken {A F : Type 0} (l : Texts A F) (text : List ℕ) : Type 0 where
  pub refused : (k : Refusal) (x : List ℕ) (behind : List (List ℕ))
      → Refuses (loose l.file) (text_tokens l.lexis text) k (x ∷ behind) →
      (front : List (List ℕ)) × (text_tokens l.lexis text ≡ front ++ x ∷ behind) × Front (loose l.file) front
      × (Front (loose l.file) (front ++ x ∷ []) → ⊥)
  pub broken : (k : Refusal) (left : List (List ℕ)) → Fouls l.file (text_tokens l.lexis text) k left →
      (front : List (List ℕ)) × (x : List ℕ) × (behind : List (List ℕ)) × (text_tokens l.lexis text ≡ front ++ x ∷ behind)
      × (left ≡ x ∷ behind)
      × Front (loose l.file) (front ++ x ∷ [])
  pub unfinished : (k : Refusal) → Refuses (loose l.file) (text_tokens l.lexis text) k []
      → Front (loose l.file) (text_tokens l.lexis text)
