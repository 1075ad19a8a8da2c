-- The nets that instances drive, told by marks.
use Rattle.std.specs.Prelude.{◌≡◌, ℕ, Bool, true, false, not, ◌&&◌, if◌then◌else◌, List, slice_get, slice_set, Some}
use Rattle.std.specs.List.{list_any}
use Rattle.udp_tables.specs.declared.table.Udp.{Udp}
use Rattle.verilog_grammar.specs.specify_blocks.declared.model.VNet.{VNet}
use Rattle.verilog_grammar.specs.specify_blocks.declared.model.VNet.TheVariants as net
use Rattle.verilog_grammar.specs.specify_blocks.declared.model.Instance.{Instance}
use Rattle.verilog_grammar.specs.specify_blocks.Nets.{same_net, net_driven, has_state}
use Rattle.verilog_reader.specs.declared.driven_nets.DrivenNets.{DrivenNets}

-- each mark tells whether one of the instances passes the test of its number
abbrev pub Tell : (ℕ → Instance → Bool) → List Bool → List Instance → Type 0
Tell test marks instances = (n : ℕ) (b : Bool) → slice_get marks n ≡ Some b → b ≡ list_any (test n) instances

abbrev pub drives_port : ℕ → Instance → Bool
drives_port p i = same_net (net_driven i) (net.Port p)

-- the instance is one with a state, or one without, and drives this wire
abbrev pub drives_wire : Bool → List Udp → ℕ → Instance → Bool
drives_wire stateful udps w i = (if stateful then has_state udps i else not (has_state udps i))
    && same_net (net_driven i) (net.Wire w)

abbrev pub drives_state : List Udp → ℕ → Instance → Bool
drives_state udps w i = drives_wire true udps w i

abbrev pub drives_value : List Udp → ℕ → Instance → Bool
drives_value udps w i = drives_wire false udps w i

-- the marks tell which ports these instances drive, which wires as a state and which without a state
pub record AreDriven (found : DrivenNets) (udps : List Udp) (instances : List Instance) : Type 0 where
  pub ports : Tell drives_port found.ports instances
  pub states : Tell (drives_state udps) found.states instances
  pub values : Tell (drives_value udps) found.values instances

-- with the mark of a net, by whether an instance with a state drives it
abbrev pub driven_by : DrivenNets → Bool → VNet → DrivenNets
driven_by found stateful (net.Port p) =
    record { ports = slice_set found.ports p true; states = found.states; values = found.values }
driven_by found true (net.Wire w) = record { ports = found.ports; states = slice_set found.states w true; values = found.values }
driven_by found false (net.Wire w) = record { ports = found.ports; states = found.states; values = slice_set found.values w true }
driven_by found stateful net.Notifier = found
