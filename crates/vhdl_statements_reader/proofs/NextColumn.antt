-- The next column of a state's table.
use Rattle.std.proofs.Common.{◌≡◌, ℕ, ◌+◌, Bool, ◌&&◌, if◌then◌else◌, true, false, nat_eq, nat_lt, length, List, [], ◌∷◌, Some}
use Rattle.std.proofs.Common.{None, Ok, Err, refl, codes, arith}
use Rattle.std.proofs.lemmas.Bool.{eqb-true}
use Rattle.std.specs.List.{list_any}
use Rattle.grammar_rules.specs.Rule.{Token}
use Rattle.grammar_rules.specs.Reading.{read}
use Rattle.grammar_reader.specs.declared.refusal.Refusal.TheVariants.{Syntax, Undefined, Twice}
use Rattle.grammar_reader.specs.Next.{is_next, next_bytes, rest}
use Rattle.vhdl_tokens.specs.Tokens.{is_name}
use Rattle.vhdl_tokens.specs.Spelling.{is_same}
use Rattle.vhdl_grammar.specs.declared.scope.Columns.{Columns}
use Rattle.vhdl_grammar.specs.declared.scope.Scope.{Scope}
use Rattle.vhdl_grammar.specs.VhdlNames.{input_of, column_count, takes_violation, violated_columns, with_input, column_by}

module _ (scope : Scope) (columns : Columns) where
  -- the violation does not stand here
  abbrev IsNoViolation : List (List ℕ) → Type 0
  IsNoViolation s = (takes_violation scope columns && is_next is_same (codes "viol") s) ≡ false

  pub violation : (s : List (List ℕ)) → takes_violation scope columns ≡ true → is_next is_same (codes "viol") s ≡ true →
      read (Token (column_by scope columns) Syntax) s ≡ Ok (violated_columns, rest s)
  violation [] e f = absurd cc
  violation (x ∷ s) e f = rw (e, f) refl

  pub other : (s : List (List ℕ)) → IsNoViolation s → is_name (next_bytes s) ≡ false
      → read (Token (column_by scope columns) Syntax) s ≡ Err (Syntax, s)
  other [] e f = refl
  other (x ∷ s) e f = rw (e, f) refl

  pub undefined : (s : List (List ℕ)) → IsNoViolation s → is_name (next_bytes s) ≡ true
      → input_of scope.ports (next_bytes s) ≡ None →
      read (Token (column_by scope columns) Syntax) s ≡ Err (Undefined, s)
  undefined [] e f g = absurd cc
  undefined (x ∷ s) e f g = rw (e, f, g) refl

  pub twice : (s : List (List ℕ)) (p : ℕ) → IsNoViolation s → is_name (next_bytes s) ≡ true
      → input_of scope.ports (next_bytes s) ≡ Some p →
      list_any (nat_eq p) columns.inputs ≡ true → read (Token (column_by scope columns) Syntax) s ≡ Err (Twice, s)
  twice [] p e f g h = absurd cc
  twice (x ∷ s) p e f g h = rw (e, f, g, h) refl

  pub fits : (s : List (List ℕ)) (p : ℕ) → IsNoViolation s → is_name (next_bytes s) ≡ true
      → input_of scope.ports (next_bytes s) ≡ Some p →
      list_any (nat_eq p) columns.inputs ≡ false
      → read (Token (column_by scope columns) Syntax) s ≡ Ok (with_input columns p, rest s)
  fits [] p e f g h = absurd cc
  fits (x ∷ s) p e f g h = rw (e, f, g, h) refl

  -- no column stands before the violation
  pub none_before : takes_violation scope columns ≡ true → columns.inputs ≡ []
  none_before e = by columns.violation columns.inputs
      (eqb-true (column_count columns) 0 (right (nat_lt 0 (length scope.variables.periods)) (nat_eq (column_count columns) 0) e))
    where
      right : (a b : Bool) → (a && b) ≡ true → b ≡ true
      right true b f = f
      right false b f = absurd cc

      by : (v : Bool) (inputs : List ℕ) → (if v then length inputs + 1 else length inputs) ≡ 0 → inputs ≡ []
      by v [] f = refl
      by true (p ∷ inputs) f = absurd (omega arith)
      by false (p ∷ inputs) f = absurd cc
