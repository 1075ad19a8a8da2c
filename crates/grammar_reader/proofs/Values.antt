-- Places where a token stands for a value, at the next token.
use Rattle.std.proofs.Common.{◌≡◌, ℕ, ◌==◌, Bool, true, false, List, [], ◌∷◌, Option, Some, None, Ok, Err, refl}
use Rattle.grammar_rules.specs.Rule.{Token}
use Rattle.grammar_rules.specs.Reading.{read, judge}
use Rattle.grammar_reader.specs.declared.refusal.Refusal.TheVariants.{Syntax, Undefined}
use Rattle.grammar_reader.specs.Words.{valued, known, allowed_by, equal_to}
use Rattle.grammar_reader.specs.Reading.{found_at, number_at}
use Rattle.grammar_reader.specs.Next.{next_bytes, is_next_name, rest}

-- a token that stands for this value
pub valued_some : {A : Type 0} (find : List ℕ → Option A) (s : List (List ℕ)) (a : A) → find (next_bytes s) ≡ Some a
    → find [] ≡ None → read (valued find) s ≡ Ok (a, rest s)
valued_some find [] a e f = absurd cc
valued_some find (x ∷ s) a e f = rw e refl

-- a token that stands for no value, or no token
pub valued_none : {A : Type 0} (find : List ℕ → Option A) (s : List (List ℕ)) → find (next_bytes s) ≡ None
    → read (valued find) s ≡ Err (Syntax, s)
valued_none find [] e = refl
valued_none find (x ∷ s) e = rw e refl

-- what is read at a token, by the value that it stands for
pub valued_found : {A : Type 0} (find : List ℕ → Option A) (s : List (List ℕ)) → find [] ≡ None
    → read (valued find) s ≡ found_at (find (next_bytes s)) s
valued_found find [] e = rw e refl
valued_found {A} find (x ∷ s) e = by (find x)
  where
    by : (o : Option A) → judge (allowed_by Syntax o) (λ a. Ok (a, s)) (λ k. Err (k, x ∷ s)) ≡ found_at o (x ∷ s)
    by None = refl
    by (Some a) = refl

-- what is read at a token that has to stand for the same number as before
pub number_found : (number_of : List ℕ → Option ℕ) (limit : ℕ) (s : List (List ℕ)) → number_of [] ≡ None →
    read (Token (λ x. equal_to limit (number_of x)) Syntax) s ≡ number_at limit (number_of (next_bytes s)) s
number_found number_of limit [] e = rw e refl
number_found number_of limit (x ∷ s) e = by (number_of x)
  where
    equal : (n : ℕ) (b : Bool) → (n == limit) ≡ b
        → judge (equal_to limit (Some n)) (λ a. Ok (a, s)) (λ k. Err (k, x ∷ s)) ≡ number_at limit (Some n) (x ∷ s)
    equal n true e = rw e refl
    equal n false e = rw e refl

    by : (o : Option ℕ) → judge (equal_to limit o) (λ a. Ok (a, s)) (λ k. Err (k, x ∷ s)) ≡ number_at limit o (x ∷ s)
    by None = refl
    by (Some n) = equal n (n == limit) refl

module _ {A : Type 0} (is_name : List ℕ → Bool) (find : List ℕ → Option A) (s : List (List ℕ)) where
  -- a name that stands for this value, for none, and no name
  pub next_known : (a : A) → is_next_name is_name s ≡ true → find (next_bytes s) ≡ Some a
      → read (known is_name find) s ≡ Ok (a, rest s)
  next_known a e f = by s e f
    where
      by : (m : List (List ℕ)) → is_next_name is_name m ≡ true → find (next_bytes m) ≡ Some a
          → read (known is_name find) m ≡ Ok (a, rest m)
      by [] g h = absurd cc
      by (x ∷ m) g h = rw (g, h) refl

  pub next_unknown : is_next_name is_name s ≡ true → find (next_bytes s) ≡ None → read (known is_name find) s ≡ Err (Undefined, s)
  next_unknown e f = by s e f
    where
      by : (m : List (List ℕ)) → is_next_name is_name m ≡ true → find (next_bytes m) ≡ None
          → read (known is_name find) m ≡ Err (Undefined, m)
      by [] g h = absurd cc
      by (x ∷ m) g h = rw (g, h) refl

  pub next_no_name : is_next_name is_name s ≡ false → read (known is_name find) s ≡ Err (Syntax, s)
  next_no_name e = by s e
    where
      by : (m : List (List ℕ)) → is_next_name is_name m ≡ false → read (known is_name find) m ≡ Err (Syntax, m)
      by [] g = refl
      by (x ∷ m) g = rw g refl

module _ {A : Type 0} (is_name : List ℕ → Bool) (nothing_is_none : is_name [] ≡ false) (find : List ℕ
    → Option A) (s : List (List ℕ)) where
  -- a name that stands for this value
  pub known_some : (a : A) → is_name (next_bytes s) ≡ true → find (next_bytes s) ≡ Some a
      → read (known is_name find) s ≡ Ok (a, rest s)
  known_some a e f = by s e f
    where
      by : (m : List (List ℕ)) → is_name (next_bytes m) ≡ true → find (next_bytes m) ≡ Some a
          → read (known is_name find) m ≡ Ok (a, rest m)
      by [] g h = absurd cc
      by (x ∷ m) g h = rw (g, h) refl

  -- a name that stands for no value
  pub known_none : is_name (next_bytes s) ≡ true → find (next_bytes s) ≡ None → read (known is_name find) s ≡ Err (Undefined, s)
  known_none e f = by s e f
    where
      by : (m : List (List ℕ)) → is_name (next_bytes m) ≡ true → find (next_bytes m) ≡ None
          → read (known is_name find) m ≡ Err (Undefined, m)
      by [] g h = absurd cc
      by (x ∷ m) g h = rw (g, h) refl

  -- a token that is no name, or no token
  pub known_other : is_name (next_bytes s) ≡ false → read (known is_name find) s ≡ Err (Syntax, s)
  known_other e = by s e
    where
      by : (m : List (List ℕ)) → is_name (next_bytes m) ≡ false → read (known is_name find) m ≡ Err (Syntax, m)
      by [] f = refl
      by (x ∷ m) f = rw f refl
