-- The declarations that are read: ports, tables and variables.
use Rattle.std.proofs.Common.{◌≡◌, ℕ, ◌+◌, ◌<◌, Bool, true, false, not, ◌&&◌, ◌||◌, ◌==◌, nat_eq, if◌then◌else◌, IsTrue, List, []}
use Rattle.std.proofs.Common.{◌∷◌, ◌++◌, length, refl, sym, subst, ◌∙◌, arith}
use Rattle.std.specs.Prelude.{All}
use Rattle.std.specs.Char.{is_ascii_alphabetic, is_ascii_alphanumeric}
use Rattle.std.specs.List.{IsDistinct, list_any, list_all}
use Rattle.std.proofs.lemmas.Bool.{and_parts, and_from, eqb-true, eqb-false, or_parts as neither}
use Rattle.std.proofs.lemmas.Bool.Decides.{nat_tests}
use Rattle.std.proofs.lemmas.List.{map_push}
use Rattle.std.proofs.lemmas.List.Elements.{All-nil, All-push}
use Rattle.grammar_rules.specs.Rule.{Verdict, Fits, Foul, Misfit}
use Rattle.grammar_rules.proofs.Promises.{Promises, token, gives, in_turn, many, choice}
use Rattle.grammar_reader.specs.declared.refusal.Refusal.{Refusal}
use Rattle.grammar_reader.specs.declared.refusal.Refusal.TheVariants.{Syntax, Undefined, Twice}
use Rattle.udp_tables.specs.declared.models.VPort.{VPort}
use Rattle.vhdl_tokens.specs.Tokens.{is_name, is_name_byte}
use Rattle.vhdl_grammar.specs.declared.scope.Tables.{Tables}
use Rattle.vhdl_grammar.specs.declared.scope.Variables.{Variables}
use Rattle.vhdl_grammar.specs.declared.scope.Scope.{Scope}
use Rattle.vhdl_grammar.specs.VhdlRules.{is_among}
use Rattle.vhdl_grammar.specs.VhdlDeclarations.{name_of_port, port_names, has_underscore, port_by, next_port, port_list, ports_of}
use Rattle.vhdl_grammar.specs.VhdlDeclarations.{entity_header, VariableOf, Check, Violation, State, Output, Glitch}
use Rattle.vhdl_grammar.specs.VhdlDeclarations.{awaits_violation, output_count, check_variables, violation_variable, width_at}
use Rattle.vhdl_grammar.specs.VhdlDeclarations.{state_variables, output_variable, glitch_variable, variable_as, variable}
use Rattle.vhdl_grammar.specs.VhdlDeclarations.{are_declared, variables, scope_of}
use Rattle.vhdl_grammar.specs.WellFormed.{IsEntityName, IsPortName, AreApart, IsNumber}
use Rattle.vhdl_grammar.proofs.ReadNames.{IsSpelled, a_name, fits_if, fits_unless, push_apart, these_numbers, goes_on, behind}
use Rattle.vhdl_grammar.proofs.ReadTables.{AreTables, all_tables}

-- Ports.

fits_else : {A : Type 0} (b : Bool) (v : Verdict A Refusal) (k : Refusal) (a : A) → (if b then Misfit k else v) ≡ Fits a
    → (b ≡ false) × (v ≡ Fits a)
fits_else true v k a e = absurd cc
fits_else false v k a e = (refl, e)

either_left : (a b : Bool) → (a || b) ≡ true → b ≡ false → a ≡ true
either_left true b h e = refl
either_left false b h e = absurd cc

flipped : (b : ℕ) → (b == 95) ≡ nat_eq 95 b
flipped b = grind (arith, nat_tests)

plain_rest : (bs : List ℕ) → list_all is_name_byte bs ≡ true → list_any (nat_eq 95) bs ≡ false
    → list_all is_ascii_alphanumeric bs ≡ true
plain_rest [] h e = refl
plain_rest (b ∷ bs) h e =
    let parts = and_parts (is_name_byte b) (list_all is_name_byte bs) h in
    let others = neither (nat_eq 95 b) (list_any (nat_eq 95) bs) e in
    and_from (is_ascii_alphanumeric b) (list_all is_ascii_alphanumeric bs)
    (either_left (is_ascii_alphanumeric b) (b == 95) parts.0 (flipped b ∙ others.0)) (plain_rest bs parts.1 others.1)

port_name : (x : List ℕ) → IsEntityName x → has_underscore x ≡ false → IsPortName x
port_name [] h e = absurd (let i = h.identifier in cc)
port_name (b ∷ bs) h e =
    let parts = and_parts (is_ascii_alphabetic b) (list_all is_name_byte bs) h.identifier in
    record {
      plain = and_from (is_ascii_alphabetic b) (list_all is_ascii_alphanumeric bs) parts.0
          (plain_rest bs parts.1 (neither (nat_eq 95 b) (list_any (nat_eq 95) bs) e).1);
      no_word = h.no_word;
    }

pub record ArePorts (entity : List ℕ) (ports : List VPort) : Type 0 where
  pub names : All IsPortName (port_names ports)
  pub apart : AreApart (entity ∷ port_names ports)

record IsNewPort (entity : List ℕ) (ports : List VPort) (x : List ℕ) : Type 0 where
  name : IsPortName x
  token : IsTrue (is_name x)
  new : is_among (entity ∷ port_names ports) x ≡ false

new_port : (entity : List ℕ) (ports : List VPort) (x name : List ℕ) → IsSpelled x
    → (if is_name x then port_by entity ports x else Misfit Syntax) ≡ Fits name → IsNewPort entity ports name
new_port entity ports x name p e =
    let n = fits_if (is_name x) (port_by entity ports x) Syntax name e in
    let u = fits_else (has_underscore x) (if is_among (entity ∷ port_names ports) x then Foul Twice x else Fits x) Undefined name
    n.1 in
    let f = fits_unless (is_among (entity ∷ port_names ports) x) Twice x name u.1 in
    subst (IsNewPort entity ports) f.1 (record { name = port_name x (a_name x p n.0) u.0; token = n.0; new = f.0 })

push_port : (entity : List ℕ) (ports : List VPort) (name : List ℕ) (input : Bool) → ArePorts entity ports
    → IsNewPort entity ports name
    → ArePorts entity (ports ++ record { name = name; input = input } ∷ [])
push_port entity ports name input h new =
    let same : port_names (ports ++ record { name = name; input = input } ∷ []) ≡ port_names ports ++ name ∷ [] =
    map_push name_of_port ports (record { name = name; input = input }) in
    record {
      names = subst (All IsPortName) (sym same) (All-push IsPortName (port_names ports) name h.names new.name);
      apart = subst (λ (ns : List (List ℕ)). AreApart (entity ∷ ns)) (sym same)
          (push_apart (entity ∷ port_names ports) name h.apart new.token new.new);
    }

one_port : (entity : List ℕ) (ports : List VPort) → ArePorts entity ports
    → Promises IsSpelled (next_port entity ports) (ArePorts entity)
unfolding next_port
one_port entity ports h =
    in_turn (token (λ x name p e. new_port entity ports x name p e)) (λ name new.
    behind (λ a. behind (λ input. behind (λ b. gives (push_port entity ports name input h new)))))

no_ports : (entity : List ℕ) → ArePorts entity []
unfolding IsDistinct
no_ports entity = record { names = All-nil IsPortName; apart = (tt, tt) }

all_ports : (entity : List ℕ) → Promises IsSpelled (ports_of entity) (ArePorts entity)
unfolding ports_of port_list
all_ports entity =
    choice
    (λ x a p e.
    behind (λ b. in_turn (one_port entity [] (no_ports entity)) (λ first f.
    in_turn (many f (λ w x a q2 p e. one_port entity w q2)) (λ ports h.
    behind (λ c. gives h)))))
    (gives (no_ports entity))

headers : (entity : List ℕ) → Promises IsSpelled (entity_header entity) (ArePorts entity)
unfolding entity_header
headers entity =
    behind (λ a. in_turn (all_ports entity) (λ ports h.
    behind (λ b. behind (λ c. behind (λ d. gives h)))))

-- Variables.

-- the widths of the first tables of states are numbers of the text
abbrev pub HaveNumbers : Tables → ℕ → Type 0
HaveNumbers tables n = (g : ℕ) → g < n → IsNumber (width_at tables g)

last_number : (tables : Tables) (n : ℕ) → HaveNumbers tables n → IsNumber (width_at tables n) → HaveNumbers tables (n + 1)
last_number tables n h last g below = by_place (g == n) refl
  where
    by_place : (b : Bool) → (g == n) ≡ b → IsNumber (width_at tables g)
    by_place true e = subst (λ k. IsNumber (width_at tables k)) (sym (eqb-true g n e)) last
    by_place false e = let other = eqb-false g n e in h g (less other)
      where
        less : (g ≡ n → ⊥) → g < n
        less other = omega arith

abbrev HasNumbers : Tables → Variables → Type 0
HasNumbers tables v = HaveNumbers tables v.states

by_variable : (tables : Tables) (v : Variables) → HasNumbers tables v → (of : VariableOf)
    → Promises IsSpelled (variable_as tables v of) (HasNumbers tables)
unfolding check_variables violation_variable state_variables output_variable glitch_variable
by_variable tables v h Check =
    behind (λ a. behind (λ b. behind (λ c. behind (λ is_period. behind (λ d. gives h)))))
by_variable tables v h Violation = behind (λ a. gives h)
by_variable tables v h State =
    behind (λ a. behind (λ b. behind (λ c. behind (λ d. behind (λ e. in_turn (these_numbers (width_at tables v.states)) (λ f n.
    behind (λ g. gives (last_number tables v.states h n))))))))
by_variable tables v h Output = behind (λ a. gives h)
by_variable tables v h Glitch = behind (λ a. gives h)

one_variable : (ports : List VPort) (tables : Tables) (v : Variables) → HasNumbers tables v
    → Promises IsSpelled (variable ports tables v) (HasNumbers tables)
unfolding variable
one_variable ports tables v h = behind (λ of. by_variable tables v h of)

-- the variables of all checks, states and outputs
pub record AreVariables (ports : List VPort) (tables : Tables) (v : Variables) : Type 0 where
  pub numbers : HaveNumbers tables (length tables.states)
  pub glitches : length v.glitches ≡ output_count ports

declared : (ports : List VPort) (tables : Tables) (v : Variables) → HasNumbers tables v → are_declared ports tables v ≡ true
    → AreVariables ports tables v
declared ports tables v h e =
    let parts = (and_parts (not (awaits_violation v))
    (nat_eq v.states (length tables.states) && nat_eq (length v.glitches) (output_count ports)) e).1 in
    let both = and_parts (nat_eq v.states (length tables.states)) (nat_eq (length v.glitches) (output_count ports)) parts in
    record {
      numbers = subst (HaveNumbers tables) (eqb-true v.states (length tables.states) both.0) h;
      glitches = eqb-true (length v.glitches) (output_count ports) both.1;
    }

all_variables : (ports : List VPort) (tables : Tables) → Promises IsSpelled (variables ports tables) (AreVariables ports tables)
unfolding variables
all_variables ports tables =
    in_turn (many {Q = HasNumbers tables} (λ g below. absurd (omega arith)) (λ w x a q p e. one_variable ports tables w q))
    (λ v h.
    in_turn (goes_on (are_declared ports tables v)) (λ a all.
    gives (declared ports tables v h all)))

-- Declarations.

pub record IsScope (entity : List ℕ) (scope : Scope) : Type 0 where
  pub named : scope.name ≡ entity
  pub ports : ArePorts entity scope.ports
  pub tables : AreTables scope.tables
  pub variables : AreVariables scope.ports scope.tables scope.variables

pub scopes : (entity : List ℕ) → Promises IsSpelled (scope_of entity) (IsScope entity)
unfolding scope_of
scopes entity =
    in_turn (headers entity) (λ ports hp.
    behind (λ a. in_turn all_tables (λ tables ht.
    behind (λ b. behind (λ c. in_turn (all_variables ports tables) (λ v hv.
    behind (λ d. gives (record { named = refl; ports = hp; tables = ht; variables = hv }))))))))
