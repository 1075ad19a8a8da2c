-- Of drivers that are read the name is new, and the core is the first model of its name and fits, in any language.
use Rattle.std.proofs.Common.{◌≡◌, ℕ, zero, suc, ◌+◌, ◌≤◌, ◌<◌, Bool, true, false, ◌&&◌, nat_eq, nat_lt, if◌then◌else◌, List, []}
use Rattle.std.proofs.Common.{◌∷◌, ◌++◌, length, Option, Some, None, refl, ap, subst, arith, eqb-true}
use Rattle.std.proofs.lemmas.Bool.{and_parts, ltb-true}
use Rattle.grammar_rules.specs.Rule as r
use Rattle.grammar_rules.proofs.Promises.{Promises, token, gives, in_turn, many, keeps, weaker}
use Rattle.grammar_reader.specs.declared.refusal.Refusal.TheVariants.{Syntax, Twice}
use Rattle.grammar_reader.specs.Words.{Grammar, is_among, fresh, new_name, known, is_this, this_name}
use Rattle.grammar_reader.proofs.Passing.{fits_if, fits_unless, some_if}
use Rattle.grammar_reader.specs.Rests.{with_end}
use Rattle.udp_tables.specs.declared.models.VPort.{VPort}
use Rattle.driver_models.specs.declared.wires.Wires.{Wires}
use Rattle.driver_models.specs.Cores.{Core, core_ports, fits, core_name}
use Rattle.driver_models.specs.Wires.{numbered, no_wires, next_wire, declared_wire, declared_wires}
use Rattle.driver_models.specs.Terminals.{port_terminals, more_enables, core_terminals}
use Rattle.driver_models.specs.Models.{output_count}
use Rattle.driver_texts.proofs.SoundCores.{AnyToken, behind, both, known_values, AreDrives, terminals}

module _ (is_name : List ℕ → Bool) (is_same : List ℕ → List ℕ → Bool) where
  -- a name that is declared is none of those before it
  pub new_names : (names : List (List ℕ))
      → Promises AnyToken (new_name is_name is_same names) (λ name. is_among is_same names name ≡ false)
  new_names names = token (λ x a p e.
      let n = fits_if (is_name x) (fresh is_same names x) Syntax a e in
      let f = fits_unless (is_among is_same names x) Twice x a n.1 in
      subst (λ (y : List ℕ). is_among is_same names y ≡ false) f.1 f.0)

  -- the first model with the name of a core fits
  pub core_names : (cores : List Core) (ports : List VPort) (driven : ℕ)
      → Promises AnyToken (known is_name (core_name is_same cores ports driven))
      (λ core. fits ports driven (core_ports is_same cores core) ≡ true)
  core_names cores ports driven = weaker (known_values is_name (core_name is_same cores ports driven)) (λ core found.
      let s = some_if (fits ports driven (core_ports is_same cores found.0)) found.0 core found.1 in
      subst (λ (x : List ℕ). fits ports driven (core_ports is_same cores x) ≡ true) s.1 s.0)

  ended : {A : Type 0} {Q : A → Type 0} (words : List (List ℕ)) (a : A) → Q a → Promises AnyToken (with_end is_same words a) Q
  ended [] a q = gives q
  ended (word ∷ words) a q = behind (λ b. ended words a q)

  module _ (value enable : List ℕ) where
    some_wires : (found : Wires) (x : List ℕ) (more : Wires) → next_wire is_name is_same value enable found x ≡ Some more
        → 1 ≤ more.values
    some_wires found x more e =
        by (nat_eq found.enables 0 && is_same x (numbered value (found.values + 1)))
        (nat_lt found.enables found.values && is_same x (numbered enable (found.enables + 1))) refl e
      where
        by : (a b : Bool) → (nat_lt found.enables found.values && is_same x (numbered enable (found.enables + 1))) ≡ b
            → (if a then Some (record { values = found.values + 1; enables = 0 })
            else (if b then Some (record { values = found.values; enables = found.enables + 1 }) else None)) ≡ Some more
            → 1 ≤ more.values
        by true b f e =
            let same : record { values = found.values + 1; enables = 0 } ≡ more = cc in
            let count : found.values + 1 ≡ more.values = ap (λ (w : Wires). w.values) same in
            omega (arith, count)
        by false true f e =
            let same : record { values = found.values; enables = found.enables + 1 } ≡ more = cc in
            let count : found.values ≡ more.values = ap (λ (w : Wires). w.values) same in
            let fewer = ltb-true found.enables found.values
            (and_parts (nat_lt found.enables found.values) (is_same x (numbered enable (found.enables + 1))) f).0 in
            omega (arith, count, fewer)
        by false false f e = absurd cc

    one_wire : (tail : List (List ℕ)) (found : Wires)
        → Promises AnyToken (declared_wire is_name is_same value enable tail found) (λ more. 1 ≤ more.values)
    unfolding declared_wire
    one_wire tail found =
        in_turn (known_values is_name (next_wire is_name is_same value enable found))
        (λ more is. ended tail more (some_wires found is.0 more is.1))

    -- some wires are declared
    pub wires_declared : (word : List ℕ) (tail : List (List ℕ))
        → Promises AnyToken (declared_wires is_name is_same value enable word tail) (λ count. 1 ≤ count)
    unfolding declared_wires
    wires_declared word tail =
        behind (λ a. in_turn (one_wire tail no_wires) (λ first some.
        in_turn (many some (λ found x b q p e. one_wire tail found)) (λ all more. behind (λ c. gives more))))

    module _ (count : ℕ) where
      ready_enables : (ready : Bool) (number n : ℕ) → 1 ≤ n
          → Promises AnyToken (more_enables is_name is_same value enable count ready number n) (λ a. ready ≡ true)
      ready_enables ready number zero h = absurd (omega (arith, h))
      ready_enables true number (suc n) h =
          weaker (keeps AnyToken (more_enables is_name is_same value enable count true number (suc n))) (λ a q. refl)
      ready_enables false number (suc n) h =
          behind (λ a. in_turn (known_values is_name (is_this is_same None)) (λ b found. absurd (no_name b found)))
        where
          no_name : (b : Unit {0}) → ((x : List ℕ) × (is_this is_same None x ≡ Some b)) → ⊥
          no_name b (x, e) = cc

      -- as many outputs are driven as there are wires
      all_driven : (ports : List VPort) → 1 ≤ count
          → Promises AnyToken (core_terminals is_name is_same value enable count ports) (λ drives. length drives ≡ count)
      unfolding core_terminals
      all_driven ports h =
          behind (λ found. in_turn (ready_enables (nat_eq (length found.drives) count) 1 count h) (λ a ready.
          behind (λ b. gives (eqb-true (length found.drives) count ready))))

      -- the driven outputs of a core: places of outputs, ascending, as many as there are wires
      pub core_drives : (ports : List VPort) → 1 ≤ count
          → Promises AnyToken (core_terminals is_name is_same value enable count ports)
          (λ drives. AreDrives (output_count ports) drives × (length drives ≡ count))
      core_drives ports h =
          both (terminals is_name is_same value enable count ports) (all_driven ports h) (λ drives good as_many. (good, as_many))
