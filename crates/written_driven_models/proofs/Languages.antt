-- What must be known of a language of drivers for its texts to read back, and what the words of its grammar take.
use Rattle.std.proofs.Common.{◌≡◌, ℕ, Bool, true, false, List, [], ◌∷◌, ◌++◌, Option, Some, refl}
use Rattle.written_modules.specs.grammar_rules.Rule.{Fits}
use Rattle.written_modules.specs.grammar_reader.Words.{expect, begins, known, this_name}
use Rattle.grammar_reader.specs.Rests.{with_end}
use Rattle.driver_models.specs.Wires.{numbered}
use Rattle.written_modules.proofs.grammar_reader.Derivations.{Reads, gives, token, in_turn}

-- A token is the same as itself, the names of wires are names, and none to an enable is one to a buffer's input.
pub record IsDriverLanguage (is_name : List ℕ → Bool) (is_same : List ℕ → List ℕ → Bool) (value enable : List ℕ) : Type 0 where
  pub itself : (x : List ℕ) → is_same x x ≡ true
  pub turned : (x y : List ℕ) → is_name x ≡ true → is_name y ≡ true → is_same x y ≡ is_same y x
  pub value_is_name : (n : ℕ) → is_name (numbered value n) ≡ true
  pub enable_is_name : (n : ℕ) → is_name (numbered enable n) ≡ true
  pub apart : (n k : ℕ) → is_same (numbered enable n) (numbered value k) ≡ false

module _ (is_name : List ℕ → Bool) (is_same : List ℕ → List ℕ → Bool) (itself : (x : List ℕ) → is_same x x ≡ true) where
  pub word_read : (word : List ℕ) {s : List (List ℕ)} → Reads (expect is_same word) (word ∷ s) tt s
  word_read word = token (rw (itself word) refl)

  pub word_begins : (word : List ℕ) → begins is_same word word ≡ Some (Fits tt)
  word_begins word = rw (itself word) refl

  pub known_read : {A : Type 0} (find : List ℕ → Option A) (x : List ℕ) (a : A) {s : List (List ℕ)} → is_name x ≡ true
      → find x ≡ Some a →
      Reads (known is_name find) (x ∷ s) a s
  known_read find x a n e = token (rw (n, e) refl)

  pub this_read : (x : List ℕ) {s : List (List ℕ)} → is_name x ≡ true → Reads (this_name is_name is_same (Some x)) (x ∷ s) tt s
  this_read x n = token (rw (n, itself x) refl)

  -- the words at the end of a part
  pub end_read : {A : Type 0} (value : A) (words s : List (List ℕ)) → Reads (with_end is_same words value) (words ++ s) value s
  end_read value [] s = gives
  end_read value (word ∷ words) s = in_turn (word_read word) (end_read value words s)
