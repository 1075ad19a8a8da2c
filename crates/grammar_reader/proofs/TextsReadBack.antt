-- Texts that read back, in any language.
use Rattle.std.proofs.Common.{◌≡◌, ℕ, Bool, false, List, [], Result, Ok, is_some, sym, ap, subst}
use Rattle.std.specs.Prelude.{◌↔◌}
use Rattle.grammar_rules.specs.Rule.{Takes}
use Rattle.grammar_reader.specs.Texts.{Texts, IsText, text_tokens, lexical_place}
use Rattle.grammar_reader.specs.ReadBack.{ReadsBack}
use Rattle.grammar_reader.proofs.Derivations.{Reads}
use Rattle.grammar_reader.proofs.ItemPlaces.{none_if}

-- bytes whose tokens, without a lexical fault, read as a value are its text
pub is_text : {A F : Type 0} (l : Texts A F) (bytes : List ℕ) (value : A) (s : List (List ℕ))
    → ◌≡◌ {A = List (List ℕ) × Bool} (text_tokens l.lexis bytes, is_some (lexical_place l.lexis bytes)) (s, false)
    → Reads l.file s value [] → IsText l bytes value
is_text l bytes value s e h = record {
  lexes = none_if (lexical_place l.lexis bytes) (ap (λ (p : List (List ℕ) × Bool). p.1) e);
  takes = subst (λ (t : List (List ℕ)). Takes l.file t value []) (sym (ap (λ (p : List (List ℕ) × Bool). p.0) e)) h.taken;
}

same_answer : {A F : Type 0} (r : Result A F) (a b : A) → r ≡ Ok a → r ≡ Ok b → b ≡ a
same_answer r a b e f = cc

-- a text that a language answers for reads back
pub reads_back : {A F : Type 0} (answer_to : List ℕ → Result A F) (IsTextOf : List ℕ → A → Type 0) (bytes : List ℕ) (value : A)
    → ((a : A) → IsTextOf bytes a ↔ (answer_to bytes ≡ Ok a)) → IsTextOf bytes value → ReadsBack answer_to IsTextOf bytes value
reads_back answer_to IsTextOf bytes value answers h = record {
  answer = (answers value).0 h;
  only = λ others t. same_answer (answer_to bytes) value others ((answers value).0 h) ((answers others).0 t);
}
