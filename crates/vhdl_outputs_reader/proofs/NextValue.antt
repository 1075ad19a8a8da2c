-- The next value of an output, by the name of its variable.
use Rattle.std.proofs.Common.{◌≡◌, ℕ, ◌+◌, true, false, nat_lt, List, [], ◌∷◌, length, Err, refl, codes}
use Rattle.grammar_rules.specs.Reading.{Outcome, choose}
use Rattle.grammar_reader.specs.declared.refusal.Refusal.{Refusal}
use Rattle.grammar_reader.specs.declared.refusal.Refusal.TheVariants.{Undefined}
use Rattle.grammar_reader.specs.Next.{next_bytes, rest}
use Rattle.vhdl_tokens.specs.Tokens.{is_name}
use Rattle.vhdl_tokens.specs.Spelling.{is_same}
use Rattle.vhdl_grammar.specs.declared.scope.Assigned.{Assigned}
use Rattle.vhdl_grammar.specs.declared.scope.Scope.{Scope}
use Rattle.vhdl_grammar.specs.VhdlRules.{numbered}
use Rattle.vhdl_grammar.specs.VhdlDeclarations.{output_count}
use Rattle.vhdl_grammar.specs.VhdlOutputs.{begins_value}

module _ {B : Type 0} (scope : Scope) (values : List Assigned) (s : List (List ℕ)) (go : Unit {0} → List (List ℕ)
    → Outcome (List ℕ) Refusal B) (other : Outcome (List ℕ) Refusal B) where
  -- all values stand
  pub no_value : nat_lt (length values) (output_count scope.ports) ≡ false → choose (begins_value scope values) s go other ≡ other
  no_value e = by s
    where
      by : (m : List (List ℕ)) → choose (begins_value scope values) m go other ≡ other
      by [] = refl
      by (x ∷ m) = rw e refl

  pub no_name : nat_lt (length values) (output_count scope.ports) ≡ true → is_name (next_bytes s) ≡ false
      → choose (begins_value scope values) s go other ≡ other
  no_name e f = by s f
    where
      by : (m : List (List ℕ)) → is_name (next_bytes m) ≡ false → choose (begins_value scope values) m go other ≡ other
      by [] g = refl
      by (x ∷ m) g = rw (e, g) refl

  pub other_value : nat_lt (length values) (output_count scope.ports) ≡ true → is_name (next_bytes s) ≡ true →
      is_same (next_bytes s) (numbered (codes "z_") (length values + 1)) ≡ false
      → choose (begins_value scope values) s go other ≡ Err (Undefined, s)
  other_value e f g = by s f g
    where
      by : (m : List (List ℕ)) → is_name (next_bytes m) ≡ true
          → is_same (next_bytes m) (numbered (codes "z_") (length values + 1)) ≡ false →
          choose (begins_value scope values) m go other ≡ Err (Undefined, m)
      by [] h k = absurd cc
      by (x ∷ m) h k = rw (e, h, k) refl

  pub this_value : nat_lt (length values) (output_count scope.ports) ≡ true → is_name (next_bytes s) ≡ true →
      is_same (next_bytes s) (numbered (codes "z_") (length values + 1)) ≡ true
      → choose (begins_value scope values) s go other ≡ go tt (rest s)
  this_value e f g = by s f g
    where
      by : (m : List (List ℕ)) → is_name (next_bytes m) ≡ true
          → is_same (next_bytes m) (numbered (codes "z_") (length values + 1)) ≡ true →
          choose (begins_value scope values) m go other ≡ go tt (rest m)
      by [] h k = absurd cc
      by (x ∷ m) h k = rw (e, h, k) refl
