-- The next line of an output, by its first token.
use Rattle.std.proofs.Common.{◌≡◌, ℕ, Bool, true, false, List, [], ◌∷◌, length, Err, refl, codes}
use Rattle.grammar_rules.specs.Reading.{Outcome, choose}
use Rattle.grammar_reader.specs.declared.refusal.Refusal.{Refusal}
use Rattle.grammar_reader.specs.declared.refusal.Refusal.TheVariants.{Undefined}
use Rattle.grammar_reader.specs.Next.{is_next, next_bytes, rest}
use Rattle.vhdl_tokens.specs.Tokens.{is_name}
use Rattle.vhdl_tokens.specs.Spelling.{is_same}
use Rattle.vhdl_grammar.specs.declared.scope.Scope.{Scope}
use Rattle.vhdl_grammar.specs.VhdlOutputs.{Lines, begins_line, is_unpathed}

module _ {B : Type 0} (scope : Scope) (lines : Lines) (s : List (List ℕ)) (go : Bool → List (List ℕ) → Outcome (List ℕ) Refusal B)
    (other : Outcome (List ℕ) Refusal B) where
  -- a line that begins with the name of the procedure of path delays
  pub so_named : is_next is_same (codes "VitalPathDelay01") s ≡ true
      → choose (begins_line scope lines) s go other ≡ go true (rest s)
  so_named e = by s e
    where
      by : (m : List (List ℕ)) → is_next is_same (codes "VitalPathDelay01") m ≡ true
          → choose (begins_line scope lines) m go other ≡ go true (rest m)
      by [] f = absurd cc
      by (x ∷ m) f = rw f refl

  -- no name
  pub no_line : is_next is_same (codes "VitalPathDelay01") s ≡ false → is_name (next_bytes s) ≡ false
      → choose (begins_line scope lines) s go other ≡ other
  no_line e f = by s e f
    where
      by : (m : List (List ℕ)) → is_next is_same (codes "VitalPathDelay01") m ≡ false → is_name (next_bytes m) ≡ false
          → choose (begins_line scope lines) m go other ≡ other
      by [] g h = refl
      by (x ∷ m) g h = rw (g, h) refl

  -- a name, but not of the next output without paths
  pub other_line : is_next is_same (codes "VitalPathDelay01") s ≡ false → is_name (next_bytes s) ≡ true
      → is_unpathed scope (length lines.0) (next_bytes s) ≡ false →
      choose (begins_line scope lines) s go other ≡ Err (Undefined, s)
  other_line e f k = by s e f k
    where
      by : (m : List (List ℕ)) → is_next is_same (codes "VitalPathDelay01") m ≡ false → is_name (next_bytes m) ≡ true
          → is_unpathed scope (length lines.0) (next_bytes m) ≡ false →
          choose (begins_line scope lines) m go other ≡ Err (Undefined, m)
      by [] g h i = absurd cc
      by (x ∷ m) g h i = rw (g, h, i) refl

  -- the name of the next output, which has no paths
  pub this_line : is_next is_same (codes "VitalPathDelay01") s ≡ false → is_name (next_bytes s) ≡ true
      → is_unpathed scope (length lines.0) (next_bytes s) ≡ true →
      choose (begins_line scope lines) s go other ≡ go false (rest s)
  this_line e f k = by s e f k
    where
      by : (m : List (List ℕ)) → is_next is_same (codes "VitalPathDelay01") m ≡ false → is_name (next_bytes m) ≡ true
          → is_unpathed scope (length lines.0) (next_bytes m) ≡ true →
          choose (begins_line scope lines) m go other ≡ go false (rest m)
      by [] g h i = absurd cc
      by (x ∷ m) g h i = rw (g, h, i) refl
