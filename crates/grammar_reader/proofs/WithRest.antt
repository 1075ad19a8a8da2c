-- What is read with the rest behind a part.
use Rattle.std.proofs.Common.{◌≡◌, ℕ, Bool, true, false, List, [], ◌∷◌, Result, Ok, Err, IfOk, refl}
use Rattle.grammar_rules.specs.Reading.{Outcome, read}
use Rattle.grammar_reader.specs.declared.refusal.Refusal.{Refusal}
use Rattle.grammar_reader.specs.declared.refusal.Refusal.TheVariants.{Syntax}
use Rattle.grammar_reader.specs.declared.refusal.Stop.{Stop}
use Rattle.grammar_reader.specs.declared.refusal.Stop.TheVariants.{Refused, Memory}
use Rattle.grammar_reader.specs.Reading.{Reads, ReadsAs}
use Rattle.grammar_reader.specs.Next.{is_next, rest}
use Rattle.grammar_reader.specs.Rests.{where_read, with_end}

-- a part is read where its rest was
pub reads_before : {A : Type 0} (o : Outcome (List ℕ) Refusal A) (value : A) (rest : Result (Unit {0}) Stop)
    (result : Result A Stop) (left : List (List ℕ)) →
    result ≡ where_read value rest → ReadsAs {B = Unit {0}} (λ _. value) o rest left → Reads o result left
reads_before o value (Ok done) result left e reads = rw e reads
reads_before o value (Err (Refused k)) result left e reads = rw e reads
reads_before o value (Err Memory) result left e reads = rw e tt

-- what holds of the part where the rest was read
pub kept_before : {A : Type 0} (P : A → Type 0) (value : A) (rest : Result (Unit {0}) Stop) (result : Result A Stop) →
    result ≡ where_read value rest → IfOk rest (λ done. P value) → IfOk result P
kept_before P value (Ok done) result e holds = rw e holds
kept_before P value (Err stop) result e holds = rw e tt

-- words at the end of a part, where the first of them is next, and where it is not
module _ {A : Type 0} (is_same : List ℕ → List ℕ → Bool) (word : List ℕ) (words : List (List ℕ)) (value : A) where
  pub word_next : (s : List (List ℕ)) → is_next is_same word s ≡ true
      → read (with_end is_same (word ∷ words) value) s ≡ read (with_end is_same words value) (rest s)
  word_next [] e = absurd cc
  word_next (x ∷ s) e = rw e refl

  pub word_other : (s : List (List ℕ)) → is_next is_same word s ≡ false
      → read (with_end is_same (word ∷ words) value) s ≡ Err (Syntax, s)
  word_other [] e = refl
  word_other (x ∷ s) e = rw e refl
