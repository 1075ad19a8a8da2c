-- The lists of inputs that are read, and the look-ups of conditions.
use Rattle.std.proofs.Common.{◌≡◌, ℕ, zero, suc, ◌+◌, ◌<◌, ◌≤◌, Bool, true, false, ◌&&◌, nat_eq, nat_lt, min, if◌then◌else◌}
use Rattle.std.proofs.Common.{IsTrue, List, [], ◌∷◌, ◌++◌, length, slice_get, Option, Some, None, refl, sym, ap, subst, ◌∙◌}
use Rattle.std.proofs.Common.{arith, codes, append_assoc, length-append}
use Rattle.std.specs.List.{IsDistinct, list_any, list_all}
use Rattle.std.specs.Option.{option_map_or}
use Rattle.std.proofs.lemmas.Bool.{and_from, eqb-true}
use Rattle.std.proofs.lemmas.Bool.Decides.{nat_tests}
use Rattle.std.proofs.lemmas.List.Folds.{list_all-append}
use Rattle.std.proofs.lemmas.Map.Keys.{IsDistinct-push}
use Rattle.std.proofs.lemmas.Option.{slice_get_within as within}
use Rattle.std.proofs.lemmas.Cmp.{nat_eq_equiv as nat_equivalence}
use Rattle.grammar_rules.specs.Rule.{Fits}
use Rattle.grammar_rules.proofs.Promises.{Promises, token, gives, in_turn, weaker}
use Rattle.grammar_reader.specs.declared.refusal.Refusal.TheVariants.{Syntax, Width, Twice}
use Rattle.udp_tables.specs.declared.models.VPort.{VPort}
use Rattle.vital_tables.specs.declared.table.TruthTable.{TruthTable}
use Rattle.udp_tables.specs.Ports.{is_input_port}
use Rattle.vhdl_tokens.specs.Tokens.{is_name}
use Rattle.vhdl_tokens.specs.Spelling.{is_same}
use Rattle.vhdl_grammar.specs.declared.scope.Scope.{Scope}
use Rattle.vhdl_grammar.specs.VhdlRules.{numbered, place_among}
use Rattle.vhdl_grammar.specs.VhdlTables.{truth_width}
use Rattle.vhdl_grammar.specs.VhdlNames.{kept, port_of, input_of, an_input, listed_by, input_by, listed_input, Uses, condition_of}
use Rattle.vhdl_grammar.specs.VhdlNames.{condition_width, first_list, list_by, condition}
use Rattle.vhdl_grammar.specs.WellFormed.{looks_up_in_order}
use Rattle.vhdl_grammar.proofs.ReadNames.{IsSpelled, fits_if, fits_unless, known_values, where_holds, behind}
use Rattle.vhdl_grammar.proofs.ReadTables.{all_elements}

-- Names of inputs.

kept_passes : (test : ℕ → Bool) (o : Option ℕ) (n : ℕ) → kept test o ≡ Some n → IsTrue (test n)
kept_passes test None n e = absurd cc
kept_passes test (Some m) n e = by_test (test m) refl e
  where
    by_test : (b : Bool) → test m ≡ b → (if b then Some m else None) ≡ Some n → IsTrue (test n)
    by_test true t f = let same : m ≡ n = cc in subst (λ (k : ℕ). IsTrue (test k)) same t
    by_test false t f = absurd cc

pub input_port : (ports : List VPort) (x : List ℕ) (p : ℕ) → input_of ports x ≡ Some p → IsTrue (is_input_port ports p)
input_port ports x p e = kept_passes (is_input_port ports) (port_of ports x) p e

pub input_ports : (ports : List VPort) → Promises IsSpelled (an_input ports) (λ p. IsTrue (is_input_port ports p))
unfolding an_input
input_ports ports = weaker (known_values (input_of ports)) (λ p f. input_port ports f.0 p f.1)

pub listed_fits : {A : Type 0} (is_listed : A → Bool) (o : Option A) (a : A) → listed_by is_listed o ≡ Fits a → (o ≡ Some a)
    × (is_listed a ≡ false)
listed_fits is_listed None a e = absurd cc
listed_fits is_listed (Some b) a e =
    let f = fits_unless (is_listed b) Twice b a e in
    (ap Some f.1, subst (λ c. is_listed c ≡ false) f.1 f.0)

-- Lists of inputs.

pub record AreInputs (ports : List VPort) (inputs : List ℕ) : Type 0 where
  pub fed : IsTrue (list_all (is_input_port ports) inputs)
  pub apart : IsDistinct nat_eq inputs

pub no_inputs : (ports : List VPort) → AreInputs ports []
unfolding IsDistinct
no_inputs ports = record { fed = refl; apart = tt }

-- an input that is none of these
pub record IsNewInput (ports : List VPort) (inputs : List ℕ) (p : ℕ) : Type 0 where
  pub input : IsTrue (is_input_port ports p)
  pub new : list_any (nat_eq p) inputs ≡ false

pub new_input : (ports : List VPort) (inputs : List ℕ) (x : List ℕ) (p : ℕ) → input_by ports inputs x ≡ Fits p
    → IsNewInput ports inputs p
new_input ports inputs x p e =
    let f = listed_fits (λ p. list_any (nat_eq p) inputs) (input_of ports x) p e in
    record { input = input_port ports x p f.0; new = f.1 }

pub push_input : (ports : List VPort) (inputs : List ℕ) (p : ℕ) → AreInputs ports inputs → IsNewInput ports inputs p
    → AreInputs ports (inputs ++ p ∷ [])
push_input ports inputs p h n = record {
  fed = list_all-append (is_input_port ports) inputs (p ∷ [])
      ∙ and_from (list_all (is_input_port ports) inputs) (is_input_port ports p && true) h.fed (rw n.input refl);
  apart = IsDistinct-push nat_equivalence inputs p h.apart n.new;
}

one_input : (ports : List VPort) (inputs : List ℕ) → AreInputs ports inputs
    → Promises IsSpelled (listed_input ports inputs) (AreInputs ports)
unfolding listed_input
one_input ports inputs h =
    in_turn
    (token {Q = IsNewInput ports inputs}
    (λ x p q e. new_input ports inputs x p (fits_if (is_name x) (input_by ports inputs x) Syntax p e).1))
    (λ p n. gives (push_input ports inputs p h n))

-- a list of so many inputs
pub record IsList (ports : List VPort) (width : ℕ) (inputs : List ℕ) : Type 0 where
  pub all : AreInputs ports inputs
  pub count : length inputs ≡ width

first_lists : (scope : Scope) (i : ℕ) → Promises IsSpelled (first_list scope i) (IsList scope.ports (condition_width scope i))
unfolding first_list
first_lists scope i =
    in_turn (all_elements (listed_input scope.ports) (AreInputs scope.ports) (AreInputs scope.ports) [] (no_inputs scope.ports)
    (one_input scope.ports) (λ w r. r)) (λ inputs h.
    in_turn (where_holds (nat_eq (length inputs) (condition_width scope i)) Width (codes ")")) (λ a w.
    gives (record { all = h; count = eqb-true (length inputs) (condition_width scope i) w })))

-- the lists of inputs of the first of these tables
abbrev pub AreUses : List VPort → List TruthTable → Uses → Type 0
AreUses ports tables [] = Unit {0}
AreUses ports [] (inputs ∷ uses) = ⊥
AreUses ports (table ∷ tables) (inputs ∷ uses) = IsList ports (truth_width table.rows) inputs × AreUses ports tables uses

abbrev width_in : List TruthTable → ℕ → ℕ
width_in tables i = option_map_or (λ (table : TruthTable). truth_width table.rows) (slice_get tables i) 0

push_use : (ports : List VPort) (tables : List TruthTable) (uses : Uses) (inputs : List ℕ) → AreUses ports tables uses
    → length uses < length tables
    → IsList ports (width_in tables (length uses)) inputs → AreUses ports tables (uses ++ inputs ∷ [])
push_use ports [] uses inputs h below is = absurd (omega arith)
push_use ports (table ∷ tables) [] inputs h below is = (is, tt)
push_use ports (table ∷ tables) (other ∷ uses) inputs h below is = (h.0, push_use ports tables uses inputs h.1 (omega arith) is)

-- Look-ups.

-- Behind look-ups of these conditions so many lists stand: further look-ups are in order where they are behind so many.
abbrev Reaches : ℕ → List ℕ → Uses → Type 0
Reaches all is uses = (rest : List ℕ) → looks_up_in_order all 0 (is ++ rest) ≡ looks_up_in_order all (length uses) rest

-- what is known behind look-ups of these conditions
pub record AreLookedUp (scope : Scope) (is : List ℕ) (uses : Uses) : Type 0 where
  pub lists : AreUses scope.ports scope.tables.conditions uses
  pub order : Reaches (length scope.tables.conditions) is uses

pub none_looked_up : (scope : Scope) → AreLookedUp scope [] []
none_looked_up scope = record { lists = tt; order = λ rest. refl }

beyond : {X : Type 0} (xs : List X) (i : ℕ) → slice_get xs i ≡ None → length xs ≤ i
beyond [] i e = omega arith
beyond (y ∷ ys) zero e = absurd cc
beyond (y ∷ ys) (suc i) e = let rest = beyond ys i e in omega (arith, rest)

again : (all n i : ℕ) (rest : List ℕ) → i < n → looks_up_in_order all n (i ∷ rest) ≡ looks_up_in_order all n rest
again all n i rest h = let t : nat_lt i n ≡ true = grind (arith, nat_tests) in rw t refl

anew : (all n i : ℕ) (rest : List ℕ) → i ≡ n → looks_up_in_order all n (i ∷ rest) ≡ looks_up_in_order all (n + 1) rest
anew all n i rest h =
    let t : nat_lt i n ≡ false = grind (arith, nat_tests) in
    let u : nat_eq i n ≡ true = grind (arith, nat_tests) in
    rw (t, u) refl

looked_again : (scope : Scope) (is : List ℕ) (uses : Uses) (i : ℕ) → AreLookedUp scope is uses → i < length uses
    → AreLookedUp scope (is ++ i ∷ []) uses
looked_again scope is uses i h below = record {
  lists = h.lists;
  order = λ rest. ap (looks_up_in_order (length scope.tables.conditions) 0) (append_assoc is (i ∷ []) rest) ∙ h.order (i ∷ rest)
      ∙ again (length scope.tables.conditions) (length uses) i rest below;
}

looked_anew : (scope : Scope) (is : List ℕ) (uses : Uses) (i : ℕ) (inputs : List ℕ) → AreLookedUp scope is uses → i ≡ length uses
    → i < length scope.tables.conditions
    → IsList scope.ports (condition_width scope i) inputs → AreLookedUp scope (is ++ i ∷ []) (uses ++ inputs ∷ [])
looked_anew scope is uses i inputs h same below list = record {
  lists = push_use scope.ports scope.tables.conditions uses inputs h.lists (omega (arith, same, below))
      (subst (λ n. IsList scope.ports (width_in scope.tables.conditions n) inputs) same list);
  order = λ rest. ap (looks_up_in_order (length scope.tables.conditions) 0) (append_assoc is (i ∷ []) rest) ∙ h.order (i ∷ rest)
      ∙ anew (length scope.tables.conditions) (length uses) i rest same
      ∙ ap (λ n. looks_up_in_order (length scope.tables.conditions) n rest) (sym (length-append uses (inputs ∷ [])));
}

next_uses : (scope : Scope) (is : List ℕ) (uses : Uses) (i : ℕ) → AreLookedUp scope is uses → i < length uses + 1
    → i < length scope.tables.conditions
    → (o : Option (List ℕ)) → slice_get uses i ≡ o
    → Promises IsSpelled (list_by scope uses i o) (AreLookedUp scope (is ++ i ∷ []))
unfolding list_by
next_uses scope is uses i h near below (Some inputs) e =
    behind (λ a. gives (looked_again scope is uses i h (within uses i inputs e)))
next_uses scope is uses i h near below None e =
    let past = beyond uses i e in
    let same : i ≡ length uses = omega (arith, past, near) in
    in_turn (first_lists scope i) (λ inputs list. gives (looked_anew scope is uses i inputs h same below list))

below_by : (b : Bool) (n i : ℕ) (o : Option ℕ) → (o ≡ Some i → i < n) → (if b then Some n else o) ≡ Some i → i < suc n
below_by true n i o h e = let same : n ≡ i = cc in omega (arith, same)
below_by false n i o h e = let below = h e in omega (arith, below)

pub place_below : (word : List ℕ) (n : ℕ) (x : List ℕ) (i : ℕ) → place_among word n x ≡ Some i → i < n
place_below word zero x i e = absurd cc
place_below word (suc n) x i e = below_by (is_same x (numbered word (suc n))) n i (place_among word n x)
    (place_below word n x i) e

-- a look-up of a condition behind those of these
pub record IsNextLookUp (scope : Scope) (is : List ℕ) (found : ℕ × Uses) : Type 0 where
  pub condition : IsTrue (nat_lt found.0 (length scope.tables.conditions))
  pub looked_up : AreLookedUp scope (is ++ found.0 ∷ []) found.1

pub conditions : (scope : Scope) (is : List ℕ) (uses : Uses) → AreLookedUp scope is uses
    → Promises IsSpelled (condition scope uses) (IsNextLookUp scope is)
unfolding condition
conditions scope is uses h =
    behind (λ a. in_turn (weaker (known_values (condition_of scope uses))
    (λ i f. place_below (codes "c_") (min (length uses + 1) (length scope.tables.conditions)) f.0 i f.1)) (λ i least.
    behind (λ b. in_turn (next_uses scope is uses i h (near uses i least) (below uses i least) (slice_get uses i) refl) (λ more m.
    behind (λ c. gives (record { condition = less i (below uses i least); looked_up = m }))))))
  where
    near : (uses : Uses) (i : ℕ) → i < min (length uses + 1) (length scope.tables.conditions) → i < length uses + 1
    near uses i h = omega (arith, h)

    below : (uses : Uses) (i : ℕ) → i < min (length uses + 1) (length scope.tables.conditions)
        → i < length scope.tables.conditions
    below uses i h = omega (arith, h)

    less : (i : ℕ) → i < length scope.tables.conditions → nat_lt i (length scope.tables.conditions) ≡ true
    less i h = grind (arith, nat_tests)
