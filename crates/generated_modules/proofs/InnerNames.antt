-- The names in a generated module: its ports, its wires and its register.
use Rattle.std.proofs.Common.{◌≡◌, ℕ, ◌+◌, ◌^◌, ◌<◌, ◌≤◌, Bool, true, false, not, ◌⊎◌, IsTrue, List, [], ◌∷◌, ◌++◌, length, map}
use Rattle.std.proofs.Common.{inl, inr, refl, sym, ap, ◌∙◌, subst, arith, append_assoc, codes, decimal, nat_eq, Option, Some}
use Rattle.std.proofs.Common.{None, if◌then◌else◌}
use Rattle.std.specs.List.{list_any, starts_with}
use Rattle.std.specs.Str.{bytes_eq}
use Rattle.std.proofs.lemmas.Bool.{and_parts, not-true, true≢false}
use Rattle.std.proofs.lemmas.Slice.Eq.{bytes_eq-Decides}
use Rattle.trit_cubes.proofs.ListLemmas.{Among, among-append, map-among}
use Rattle.cell_machine.specs.declared.pins.Pin.{Pin}
use Rattle.cell_machine.specs.CellRules.{are_distinct}
use Rattle.cell_machine.specs.CellData.{CellData}
use Rattle.verilog_tokens.specs.Words.{verilog_words, is_verilog_word}
use Rattle.udp_tables.specs.CellPrimitives.{has_notifier}
use Rattle.verilog_grammar.specs.specify_blocks.Ports.{is_port, port_name, port_of, ports_from}
use Rattle.verilog_grammar.specs.specify_blocks.Names.{notifier_name, state_wires, condition_wires}
use Rattle.verilog_grammar.specs.specify_blocks.Generated.{condition_count, module_of}
use Rattle.verilog_grammar.specs.VerilogModules.{port_names}
use Rattle.verilog_grammar.specs.WellFormed.{IsName, register_names, inner_names}
use Rattle.verilog_grammar.proofs.ReadNames.{AreNames, no_names, one_name}
use Rattle.generated_modules.proofs.NameLists.{unlike, told_apart, none_passes, join_names, cons_name}
use Rattle.generated_modules.proofs.NumberedNames.{lib_stem, pin_stem, numbered_names, numbered_form}
use Rattle.generated_modules.proofs.GivenNames.{given_apart, given_is_name, given_no_lib}

-- the name of a pin
abbrev pin_name : Pin → List ℕ
pin_name pin = pin.name

-- the name of a port is that of some pin, with a number from these on
pub record IsPortName (k : ℕ) (pins : List Pin) (x : List ℕ) : Type 0 where
  pub number : ℕ
  pub pin : Pin
  pub from : k ≤ number
  pub below : number < k + length pins
  pub among : Among pin pins
  pub same : x ≡ port_name number pin.name

later_name : (k : ℕ) (pin : Pin) (pins : List Pin) (x : List ℕ) (j : ℕ) → k ≤ j → j ≤ k + 1 → IsPortName j pins x
    → IsPortName k (pin ∷ pins) x
later_name k pin pins x j low high h = record {
  number = h.number;
  pin = h.pin;
  from = omega (arith, h.from, low);
  below = omega (arith, h.below, high);
  among = inr h.among;
  same = h.same;
}

pub port_form : (k : ℕ) (pins : List Pin) (x : List ℕ) → Among x (port_names (ports_from k pins)) → IsPortName k pins x
port_form k [] x m = absurd m
port_form k (pin ∷ pins) x m = by (is_port pin) m (port_form (k + 1) pins x) (port_form k pins x)
  where
    by :
        (b : Bool) → Among x (port_names (if b then port_of k pin ∷ ports_from (k + 1) pins else ports_from k pins))
        → (Among x (port_names (ports_from (k + 1) pins)) → IsPortName (k + 1) pins x)
        → (Among x (port_names (ports_from k pins)) → IsPortName k pins x) → IsPortName k (pin ∷ pins) x
    by true (inl e) next other = record {
      number = k;
      pin = pin;
      from = omega arith;
      below = omega arith;
      among = inl refl;
      same =
          sym e;
    }
    by true (inr later) next other = later_name k pin pins x (k + 1) (omega arith) (omega arith) (next later)
    by false later next other = later_name k pin pins x k (omega arith) (omega arith) (other later)

-- the names of ports of pins with distinct names are names of which none stands twice
pub ports_are_named : (k : ℕ) (pins : List Pin) → IsTrue (are_distinct (map pin_name pins)) → k + length pins < 2 ^ 64
    → AreNames (port_names (ports_from k pins))
ports_are_named k [] d h = no_names
ports_are_named k (pin ∷ pins) d h =
    by (is_port pin) (ports_are_named (k + 1) pins parts.1 (omega arith)) (ports_are_named k pins parts.1 (omega arith))
  where
    parts : IsTrue (not (list_any (bytes_eq pin.name) (map pin_name pins))) × IsTrue (are_distinct (map pin_name pins))
    parts = and_parts (not (list_any (bytes_eq pin.name) (map pin_name pins))) (are_distinct (map pin_name pins)) d

    other : (p : Pin) → Among p pins → pin.name ≡ p.name → ⊥
    other p m e =
        true≢false
        (sym ((bytes_eq-Decides pin.name p.name).1 e)
        ∙ none_passes (bytes_eq pin.name) p.name (map pin_name pins)
        (not-true (list_any (bytes_eq pin.name) (map pin_name pins)) parts.0)
        (map-among pin_name p pins m))

    apart : (y : List ℕ) → IsPortName (k + 1) pins y → bytes_eq (port_name k pin.name) y ≡ false
    apart y f =
        unlike (port_name k pin.name) y
        (λ e.
        given_apart (codes "pin") k f.number pin.name f.pin.name (omega arith) (omega (arith, f.below, h))
        (λ same. omega (arith, same, f.from)) (λ kept. other f.pin f.among) (e ∙ f.same))

    by :
        (b : Bool) → AreNames (port_names (ports_from (k + 1) pins)) → AreNames (port_names (ports_from k pins))
        → AreNames (port_names (if b then port_of k pin ∷ ports_from (k + 1) pins else ports_from k pins))
    by true rest other =
        cons_name (port_name k pin.name) (port_names (ports_from (k + 1) pins))
        (given_is_name (codes "pin") pin_stem k pin.name (omega arith))
        rest (λ y m. apart y (port_form (k + 1) pins y m))
    by false rest other = other

-- no port begins as this project's own names
pub port_no_lib : (k : ℕ) (pins : List Pin) (x : List ℕ) → Among x (port_names (ports_from k pins))
    → starts_with nat_eq x (codes "lib_") ≡ false
port_no_lib k pins x m =
    let f = port_form k pins x m in
    subst (λ y. starts_with nat_eq y (codes "lib_") ≡ false) (sym f.same)
    (given_no_lib (codes "pin") (λ ds. refl) f.number f.pin.name)

-- how the wires begin
state_begins : (n : ℕ) (x : List ℕ) → Among x (state_wires n) → (ds : List ℕ) × (x ≡ codes "lib_s" ++ ds)
state_begins n x m = let f = numbered_form (codes "lib_s") n x m in (decimal f.0, f.3)

condition_begins : (n : ℕ) (x : List ℕ) → Among x (condition_wires n) → (ds : List ℕ) × (x ≡ codes "lib_c" ++ ds)
condition_begins n x m = let f = numbered_form (codes "lib_c") n x m in (decimal f.0, f.3)

-- what a test of names says of those that begin so
abbrev Begins : List ℕ → List ℕ → Type 0
Begins word x = (ds : List ℕ) × (x ≡ word ++ ds)

tells : (word : List ℕ) (t : List ℕ → Bool) (b : Bool) → ((ds : List ℕ) → t (word ++ ds) ≡ b) → (x : List ℕ) → Begins word x
    → t x ≡ b
tells word t b h x f = ap t f.1 ∙ h f.0

abbrev is_condition_wire : List ℕ → Bool
is_condition_wire x = starts_with nat_eq x (codes "lib_c")

abbrev is_register : List ℕ → Bool
is_register x = starts_with nat_eq x (codes "lib_n")

abbrev is_own : List ℕ → Bool
is_own x = starts_with nat_eq x (codes "lib_")

wires_are_named : (g n : ℕ) → g < 2 ^ 64 → n < 2 ^ 64 → AreNames (state_wires g ++ condition_wires n)
wires_are_named g n h k =
    join_names (state_wires g) (condition_wires n) (numbered_names (codes "lib_s") (lib_stem (codes "s") refl) g h)
    (numbered_names (codes "lib_c") (lib_stem (codes "c") refl) n k)
    (λ x y m i.
    told_apart is_condition_wire x y (tells (codes "lib_s") is_condition_wire false (λ ds. refl) x (state_begins g x m))
    (tells (codes "lib_c") is_condition_wire true (λ ds. refl) y (condition_begins n y i)))

wire_begins : (g n : ℕ) (x : List ℕ) → Among x (state_wires g ++ condition_wires n) → Begins (codes "lib_s") x
    ⊎ Begins (codes "lib_c") x
wire_begins g n x m =
    elim (among-append x (state_wires g) (condition_wires n) m) [
      | inl state ↦ inl (state_begins g x state)
      | inr condition ↦ inr (condition_begins n x condition)
    ]

wire_tells :
    (t : List ℕ → Bool) (b : Bool) → ((ds : List ℕ) → t (codes "lib_s" ++ ds) ≡ b) → ((ds : List ℕ) → t (codes "lib_c" ++ ds) ≡ b)
    → (g n : ℕ) (x : List ℕ) → Among x (state_wires g ++ condition_wires n) → t x ≡ b
wire_tells t b s c g n x m =
    elim (wire_begins g n x m) [ inl f ↦ tells (codes "lib_s") t b s x f | inr f ↦ tells (codes "lib_c") t b c x f ]

register_is_name : IsName notifier_name
unfolding is_verilog_word verilog_words
register_is_name = record { identifier = refl; no_word = refl }

-- the register where there is one
abbrev register_by : Bool → Option (List ℕ)
register_by b = if b then Some notifier_name else None

register_named : (b : Bool) → AreNames (register_names (register_by b))
register_named true = one_name notifier_name register_is_name
register_named false = no_names

register_is : (b : Bool) (x : List ℕ) → Among x (register_names (register_by b)) → notifier_name ≡ x
register_is true x (inl e) = e
register_is true x (inr none) = absurd none
register_is false x m = absurd m

own_names : (g n : ℕ) (b : Bool) → g < 2 ^ 64 → n < 2 ^ 64
    → AreNames ((state_wires g ++ condition_wires n) ++ register_names (register_by b))
own_names g n b h k =
    join_names (state_wires g ++ condition_wires n) (register_names (register_by b)) (wires_are_named g n h k) (register_named b)
    (λ x y m i.
    told_apart is_register x y (wire_tells is_register false (λ ds. refl) (λ ds. refl) g n x m)
    (sym (ap is_register (register_is b y i))))

own_begins : (g n : ℕ) (b : Bool) (x : List ℕ) → Among x ((state_wires g ++ condition_wires n) ++ register_names (register_by b))
    → is_own x ≡ true
own_begins g n b x m =
    elim (among-append x (state_wires g ++ condition_wires n) (register_names (register_by b)) m) [
      | inl wire ↦ wire_tells is_own true (λ ds. refl) (λ ds. refl) g n x wire
      | inr register ↦ sym (ap is_own (register_is b x register))
    ]

-- the names in the module of a cell
pub inner_are_named :
    (cell : CellData) → IsTrue (are_distinct (map pin_name cell.pins)) → length cell.pins ≤ 64 → length cell.groups < 2 ^ 64
    → condition_count cell < 2 ^ 64 → AreNames (inner_names (module_of cell))
inner_are_named cell distinct pins groups conditions =
    let g : ℕ = length cell.groups in
    let n : ℕ = condition_count cell in
    let b : Bool = has_notifier cell in
    let ports : List (List ℕ) = port_names (ports_from 1 cell.pins) in
    subst AreNames (sym (append_assoc ports (state_wires g ++ condition_wires n) (register_names (register_by b))))
    (join_names ports ((state_wires g ++ condition_wires n) ++ register_names (register_by b))
    (ports_are_named 1 cell.pins distinct (omega arith)) (own_names g n b groups conditions)
    (λ x y m i. told_apart is_own x y (port_no_lib 1 cell.pins x m) (own_begins g n b y i)))
