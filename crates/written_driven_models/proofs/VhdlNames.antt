-- What stands for a name in the text of a driver is one.
use Rattle.std.proofs.Common.{◌≡◌, ℕ, zero, suc, ◌+◌, ◌<◌, ◌≤◌, Bool, true, false, nat_eq, if◌then◌else◌, List, [], ◌∷◌, ◌++◌}
use Rattle.std.proofs.Common.{length, Option, Some, None, slice_get, refl, arith, not}
use Rattle.std.specs.List.{AllByRecursion, filter}
use Rattle.std.specs.Option.{option_map_or}
use Rattle.std.specs.Char.{is_ascii_alphabetic}
use Rattle.std.proofs.lemmas.Option.{slice_get_within}
use Rattle.std.proofs.lemmas.List.Elements.{All-filter, All-from_recursion, recursion_from_All}
use Rattle.std.proofs.lemmas.List.Sums.{length-filter, count_by-le-length}
use Rattle.written_modules.specs.udp_tables.declared.models.VPort.{VPort}
use Rattle.written_entities.specs.vhdl_grammar.VhdlDeclarations.{port_names, input_names}
use Rattle.written_entities.specs.vhdl_grammar.WellFormed.{IsPortName, IsCount}
use Rattle.driver_models.specs.declared.model.DriverModel.{DriverModel}
use Rattle.driver_models.specs.Terminals.{all_numbered}
use Rattle.driver_texts.specs.NumberedPorts.{NumberedPort, port_number, outputs_with, driven_with, numbered_ports}
use Rattle.driver_texts.specs.CoreTerminals.{terminal_by}
use Rattle.driver_texts.specs.PortNames.{inputs, outputs, name_at}
use Rattle.vhdl_drivers.specs.DriverText.{data_word}
use Rattle.vhdl_drivers.specs.WellFormed.{IsWrittenDriver}
use Rattle.written_entities.proofs.Names.{IsNamed, port_named, part_named}

-- Signals.

all_with : {A : Type 0} (P : A → Type 0) (xs : List A) (x : A) → AllByRecursion P xs → P x → AllByRecursion P (xs ++ x ∷ [])
all_with P [] x h p = (p, tt)
all_with P (y ∷ xs) x h p = (h.0, all_with P xs x h.1 p)

-- the names of a letter, `_` and the numbers up to a count
pub signals_named : (b n : ℕ) → is_ascii_alphabetic b ≡ true → IsCount n → AllByRecursion IsNamed (all_numbered (b ∷ 95 ∷ []) n)
signals_named b zero l h = tt
signals_named b (suc n) l h = all_with IsNamed (all_numbered (b ∷ 95 ∷ []) n) _ (signals_named b n l (omega (arith, h)))
    (part_named b (suc n) l h)

-- Ports.

-- the name of a port is one
abbrev pub NamedPort : VPort → Type 0
NamedPort port = IsNamed port.name

by_names : (ports : List VPort) → AllByRecursion IsPortName (port_names ports) → AllByRecursion NamedPort ports
by_names [] h = tt
by_names (port ∷ ports) h = (port_named port.name h.0, by_names ports h.1)

pub ports_named : (d : DriverModel) → IsWrittenDriver d → AllByRecursion NamedPort d.ports
ports_named d w = by_names d.ports (recursion_from_All IsPortName (port_names d.ports) w.ports)

pub all_filtered : {A : Type 0} (P : A → Type 0) (test : A → Bool) (xs : List A) → AllByRecursion P xs
    → AllByRecursion P (filter test xs)
all_filtered P test xs h = recursion_from_All P (filter test xs) (All-filter test P xs (All-from_recursion P xs h))

to_names : (ports : List VPort) → AllByRecursion NamedPort ports → AllByRecursion IsNamed (port_names ports)
to_names [] h = tt
to_names (port ∷ ports) h = (h.0, to_names ports h.1)

-- the names of the inputs
pub inputs_named : (d : DriverModel) → IsWrittenDriver d → AllByRecursion IsNamed (input_names d.ports)
inputs_named d w = to_names (inputs d.ports) (all_filtered NamedPort (λ (port : VPort). port.input) d.ports (ports_named d w))

-- the name of the port with a number
pub named_at : (ports : List VPort) → AllByRecursion NamedPort ports → (i : ℕ) → i < length ports → IsNamed (name_at ports i)
named_at [] h i l = absurd (omega (arith, l))
named_at (port ∷ ports) h zero l = h.0
named_at (port ∷ ports) h (suc i) l = named_at ports h.1 i (omega (arith, l))

pub input_named : (d : DriverModel) → IsWrittenDriver d → (i : ℕ) → i < d.driver.inputs → IsNamed (name_at (inputs d.ports) i)
input_named d w i h =
    named_at (inputs d.ports) (all_filtered NamedPort (λ (port : VPort). port.input) d.ports (ports_named d w)) i
    (omega (arith, h, w.sound.inputs, length-filter (λ (port : VPort). port.input) d.ports))

pub output_named : (d : DriverModel) → IsWrittenDriver d → (i : ℕ) → i < d.driver.outputs → IsNamed (name_at (outputs d.ports) i)
output_named d w i h =
    named_at (outputs d.ports) (all_filtered NamedPort (λ (port : VPort). not port.input) d.ports (ports_named d w)) i
    (omega (arith, h, w.sound.outputs, length-filter (λ (port : VPort). not port.input) d.ports))

-- Terminals.

-- what stands at the core for a port is a name
abbrev pub NamedTerminal : NumberedPort → Type 0
NamedTerminal at = IsNamed (terminal_by data_word at.port.name at.number)

terminal_named : (drives : List ℕ) → IsCount (length drives) → (place number : ℕ) (port : VPort) → IsNamed port.name
    → IsNamed (terminal_by data_word port.name (port_number drives place number port))
terminal_named drives few place number port n = by port.input
  where
    driven : (b : Bool) → number < length drives
        → IsNamed (terminal_by data_word port.name (if b then Some (number + 1) else None))
    driven true l = part_named 100 (number + 1) refl (omega (arith, l, few))
    driven false l = n

    found : (o : Option ℕ) → slice_get drives number ≡ o
        → IsNamed (terminal_by data_word port.name (if option_map_or (nat_eq place) o false then Some (number + 1) else None))
    found None e = n
    found (Some x) e = driven (nat_eq place x) (slice_get_within drives number x e)

    by : (b : Bool) → IsNamed (terminal_by data_word port.name
        (if b then None else (if option_map_or (nat_eq place) (slice_get drives number) false then Some (number + 1) else None)))
    by true = n
    by false = found (slice_get drives number) refl

pub terminals_named : (drives : List ℕ) → IsCount (length drives) → (place number : ℕ) (ports : List VPort)
    → AllByRecursion NamedPort ports → AllByRecursion NamedTerminal (numbered_ports drives place number ports)
terminals_named drives few place number [] h = tt
terminals_named drives few place number (port ∷ ports) h = (
  terminal_named drives few place number port h.0,
  terminals_named drives few (outputs_with place port) (driven_with number (port_number drives place number port)) ports h.1,
)

-- Paths.

-- paths of which some are left are at most as many
pub few_filtered : {A : Type 0} (test : A → Bool) (xs : List A) (n : ℕ) → length xs ≤ n → length (filter test xs) ≤ n
few_filtered test xs n h = omega (arith, h, length-filter test xs, count_by-le-length test xs)
