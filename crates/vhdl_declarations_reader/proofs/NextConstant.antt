-- The kinds of constants, at the next token.
use Rattle.std.proofs.Common.{◌≡◌, ℕ, Bool, ◌&&◌, if◌then◌else◌, true, false, nat_eq, length, List, [], ◌∷◌, Option, Some, None}
use Rattle.std.proofs.Common.{Ok, Err, refl, sym, ap, codes}
use Rattle.std.specs.Option.{option_map}
use Rattle.grammar_rules.specs.Rule.{Verdict, Fits}
use Rattle.grammar_rules.specs.Reading.{Outcome, choose, judge_first, read}
use Rattle.grammar_reader.specs.declared.refusal.Refusal.{Refusal}
use Rattle.grammar_reader.specs.declared.refusal.Refusal.TheVariants.{Undefined}
use Rattle.grammar_reader.specs.Next.{is_next, next_bytes, rest}
use Rattle.grammar_reader.proofs.Values as values
use Rattle.vhdl_tokens.specs.Tokens.{is_name}
use Rattle.vhdl_tokens.specs.Spelling.{is_same}
use Rattle.vhdl_grammar.specs.declared.scope.Tables.{Tables}
use Rattle.vhdl_grammar.specs.VhdlRules.{known}
use Rattle.vhdl_grammar.specs.VhdlTables.{constant_of, begins_state_table, is_before_outputs}
use Rattle.vhdl_declarations_reader.specs.declared.constants.ConstantOf.{ConstantOf as Kind}
use Rattle.vhdl_declarations_reader.specs.Kinds.{constant_kind}

module _ (tables : Tables) (s : List (List ℕ)) (n : is_name (next_bytes s) ≡ true) where
  pub constant_some : (kind : Kind) → option_map constant_kind (Some kind) ≡ constant_of tables (next_bytes s) →
      read (known (constant_of tables)) s ≡ Ok (constant_kind kind, rest s)
  constant_some kind e = values.known_some is_name refl (constant_of tables) s (constant_kind kind) n (sym e)

  pub constant_none : option_map constant_kind None ≡ constant_of tables (next_bytes s)
      → read (known (constant_of tables)) s ≡ Err (Undefined, s)
  constant_none e = values.known_none is_name refl (constant_of tables) s n (sym e)

module _ {B : Type 0} (tables : Tables) (s : List (List ℕ)) (go : Unit {0} → List (List ℕ) → Outcome (List ℕ) Refusal B)
    (other : Outcome (List ℕ) Refusal B) where
  -- the table of a state begins
  pub state_begun : (is_before_outputs tables && nat_eq (length tables.conditions) 0) ≡ true
      → is_next is_same (codes "VitalStateTableType") s ≡ true →
      choose (begins_state_table tables) s go other ≡ go tt (rest s)
  state_begun e f = by s f
    where
      by : (m : List (List ℕ)) → is_next is_same (codes "VitalStateTableType") m ≡ true
          → choose (begins_state_table tables) m go other ≡ go tt (rest m)
      by [] g = absurd cc
      by (x ∷ m) g = rw (e, g) refl

  -- no such table begins
  pub no_state : ((is_before_outputs tables && nat_eq (length tables.conditions) 0)
      && is_next is_same (codes "VitalStateTableType") s) ≡ false →
      choose (begins_state_table tables) s go other ≡ other
  no_state e = by s e
    where
      neither : (b c : Bool) (v : Option (Verdict (Unit {0}) Refusal)) → (b && c) ≡ false
          → (if b then (if c then v else None) else None) ≡ None
      neither true c v f = rw f refl
      neither false c v f = refl

      by : (m : List (List ℕ)) → ((is_before_outputs tables && nat_eq (length tables.conditions) 0)
          && is_next is_same (codes "VitalStateTableType") m) ≡ false →
          choose (begins_state_table tables) m go other ≡ other
      by [] f = refl
      by (x ∷ m) f =
          ap (λ (o : Option (Verdict (Unit {0}) Refusal)). judge_first o (λ a. go a m) (λ k. Err (k, x ∷ m)) other)
          (neither (is_before_outputs tables && nat_eq (length tables.conditions) 0) (is_same x (codes "VitalStateTableType"))
          (Some (Fits tt)) f)
