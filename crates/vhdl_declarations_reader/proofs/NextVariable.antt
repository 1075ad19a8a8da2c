-- The next variable, by its name.
use Rattle.std.proofs.Common.{◌≡◌, ℕ, Bool, true, false, not, ◌&&◌, List, [], ◌∷◌, ◌++◌, Some, None, Ok, Err, refl, sym, ap}
use Rattle.std.proofs.Common.{codes}
use Rattle.std.specs.Option.{option_map}
use Rattle.grammar_rules.specs.Rule.{Token}
use Rattle.grammar_rules.specs.Reading.{read}
use Rattle.grammar_reader.specs.declared.refusal.Refusal.TheVariants.{Syntax, Undefined}
use Rattle.grammar_reader.specs.Next.{is_next, next_bytes, rest}
use Rattle.udp_tables.specs.declared.models.VPort.{VPort}
use Rattle.vhdl_tokens.specs.Tokens.{is_name}
use Rattle.vhdl_tokens.specs.Spelling.{is_same}
use Rattle.vhdl_grammar.specs.declared.scope.Tables.{Tables}
use Rattle.vhdl_grammar.specs.declared.scope.Variables.{Variables}
use Rattle.vhdl_grammar.specs.VhdlDeclarations.{VariableOf, awaits_violation, variable_of, variable_by, last_true, is_last_false}
use Rattle.vhdl_grammar.specs.VhdlDeclarations as declarations
use Rattle.vhdl_declarations_reader.specs.declared.variable_names.VariableOf.{VariableOf as Kind}
use Rattle.vhdl_declarations_reader.specs.Kinds.{variable_kind}

module _ (ports : List VPort) (tables : Tables) (v : Variables) where
  pub violation : (s : List (List ℕ)) → awaits_violation v ≡ true → is_next is_same (codes "viol") s ≡ true →
      read (Token (variable_by ports tables v) Syntax) s ≡ Ok (declarations.Violation, rest s)
  violation [] e f = absurd cc
  violation (x ∷ s) e f = rw (e, f) refl

  -- the violation does not stand here
  abbrev IsNoViolation : List (List ℕ) → Type 0
  IsNoViolation s = (awaits_violation v && is_next is_same (codes "viol") s) ≡ false

  pub other : (s : List (List ℕ)) → IsNoViolation s → is_name (next_bytes s) ≡ false
      → read (Token (variable_by ports tables v) Syntax) s ≡ Err (Syntax, s)
  other [] e f = refl
  other (x ∷ s) e f = rw (e, f) refl

  pub some : (s : List (List ℕ)) (kind : Kind) → IsNoViolation s → is_name (next_bytes s) ≡ true →
      option_map variable_kind (Some kind) ≡ variable_of ports tables v (next_bytes s) →
      read (Token (variable_by ports tables v) Syntax) s ≡ Ok (variable_kind kind, rest s)
  some [] kind e f g = absurd cc
  some (x ∷ s) kind e f g = rw (e, f, sym g) refl

  pub none : (s : List (List ℕ)) → IsNoViolation s → is_name (next_bytes s) ≡ true
      → option_map variable_kind None ≡ variable_of ports tables v (next_bytes s) →
      read (Token (variable_by ports tables v) Syntax) s ≡ Err (Undefined, s)
  none [] e f g = absurd cc
  none (x ∷ s) e f g = rw (e, f, sym g) refl

pub last_true_append : (bs : List Bool) (b : Bool) → last_true (bs ++ b ∷ []) ≡ bs ++ true ∷ []
last_true_append [] b = refl
last_true_append (c ∷ []) b = refl
last_true_append (c ∷ d ∷ bs) b = ap (λ (x : List Bool). c ∷ x) (last_true_append (d ∷ bs) b)

pub is_last_false_append : (bs : List Bool) (b : Bool) → is_last_false (bs ++ b ∷ []) ≡ not b
is_last_false_append [] b = refl
is_last_false_append (c ∷ []) b = refl
is_last_false_append (c ∷ d ∷ bs) b = is_last_false_append (d ∷ bs) b
