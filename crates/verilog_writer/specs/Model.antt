-- The text of a module and its primitives, by the syntax of IEEE 1364-2005, clauses 8, 12 and 14. The layout is this project's:
-- one declaration or instance a line, two spaces before it.
use Rattle.std.specs.Prelude.{ℕ, Bool, List, [], ◌∷◌, ◌++◌, Option, Some, None, codes, if◌then◌else◌}
use Rattle.std.specs.List.{flat_map}
use Rattle.udp_tables.specs.declared.models.VPort.{VPort}
use Rattle.specify_blocks.specs.declared.model.VNet.{VNet}
use Rattle.specify_blocks.specs.declared.model.Instance.{Instance}
use Rattle.specify_blocks.specs.declared.model.Instance.TheVariants as instance
use Rattle.specify_blocks.specs.declared.model.VModule.{VModule}
use Rattle.verilog_writer.specs.Primitive.{primitive_text}
use Rattle.verilog_writer.specs.Nets.{primitive_at, net_at}
use Rattle.verilog_writer.specs.Timing.{block_text}

-- what a text of modules begins with: times are in picoseconds
unfoldable pub prelude_text : List ℕ
prelude_text = codes "`timescale 1ps/1ps\n"

-- `module NAME (`
unfoldable pub module_opening_text : VModule → List ℕ
module_opening_text m = codes "module " ++ (m.name ++ codes " (")

-- a port in the header behind another one
abbrev pub next_port_text : VPort → List ℕ
next_port_text port = codes ", " ++ port.name

-- the ports in the header
abbrev pub ports_text : List VPort → List ℕ
ports_text [] = []
ports_text (port ∷ ports) = port.name ++ flat_map next_port_text ports

-- the header's line
unfoldable pub module_header_text : VModule → List ℕ
module_header_text m = module_opening_text m ++ (ports_text m.ports ++ codes ");\n")

-- the declaration of a port where it is an input
unfoldable pub input_port_text : VPort → List ℕ
input_port_text port = if port.input then codes "  input " ++ (port.name ++ codes ";\n") else []

-- the declaration of a port where it is an output
unfoldable pub output_port_text : VPort → List ℕ
output_port_text port = if port.input then [] else codes "  output " ++ (port.name ++ codes ";\n")

-- the declaration of a wire
unfoldable pub wire_text : List ℕ → List ℕ
wire_text name = codes "  wire " ++ (name ++ codes ";\n")

-- the declaration of the register of the checks, where there is one
abbrev pub register_text : Option (List ℕ) → List ℕ
register_text None = []
register_text (Some name) = codes "  reg " ++ (name ++ codes ";\n")

-- the declarations: inputs, outputs, wires, the register
unfoldable pub declarations_text : VModule → List ℕ
declarations_text m =
    flat_map input_port_text m.ports
    ++ (flat_map output_port_text m.ports ++ (flat_map wire_text m.wires ++ register_text m.notifier))

-- a terminal of an instance behind its output
unfoldable pub terminal_text : VModule → VNet → List ℕ
terminal_text m n = codes ", " ++ net_at m n

-- an instance of a primitive up to its output
unfoldable pub driver_text : VModule → ℕ → VNet → List ℕ
driver_text m udp output = codes "  " ++ (primitive_at m udp ++ (codes " (" ++ net_at m output))

-- an instance of a primitive: its output, then its inputs in order
unfoldable pub call_text : VModule → ℕ → VNet → List VNet → List ℕ
call_text m udp output inputs = driver_text m udp output ++ (flat_map (terminal_text m) inputs ++ codes ");\n")

-- a buffer with a constant input
unfoldable pub constant_text : VModule → VNet → Bool → List ℕ
constant_text m output one =
    codes "  buf (" ++ (net_at m output ++ (if one then codes ", 1'b1);\n" else codes ", 1'b0);\n"))

-- an instance's line
abbrev pub instance_text : VModule → Instance → List ℕ
instance_text m (instance.Primitive udp output inputs) = call_text m udp output inputs
instance_text m (instance.Constant output one) = constant_text m output one

-- the module: its header, its declarations, its instances, its specify block
unfoldable pub module_only_text : VModule → List ℕ
module_only_text m =
    module_header_text m
    ++ (declarations_text m ++ (flat_map (instance_text m) m.instances ++ (block_text m ++ codes "endmodule\n")))

-- a module behind its primitives
unfoldable pub module_text : VModule → List ℕ
module_text m = flat_map primitive_text m.udps ++ module_only_text m
