-- The definitions at small cells, by computing.
use Rattle.std.proofs.Common.{◌≡◌, true, false, List, [], ◌∷◌, None, map, codes, refl}
use Rattle.bool_functions.specs.declared.tree.Node.TheVariants as node
use Rattle.cell_machine.specs.declared.pins.Direction.TheVariants as direction
use Rattle.cell_machine.specs.declared.pins.Pin.{Pin}
use Rattle.cell_machine.specs.declared.groups.Both.TheVariants as both
use Rattle.cell_machine.specs.declared.groups.GroupKind.TheVariants as kind
use Rattle.cell_machine.specs.declared.outputs.Source.TheVariants as source
use Rattle.cell_machine.specs.declared.checks.CheckKind.TheVariants as check_kind
use Rattle.cell_machine.specs.declared.checks.Edge.TheVariants as edge
use Rattle.cell_machine.specs.declared.checks.Event.{Event}
use Rattle.verilog_tokens.specs.Words.{verilog_words, is_verilog_word}
use Rattle.verilog_tokens.specs.Kept.{is_kept_name}
use Rattle.cell_machine.specs.CellData.{CellData}
use Rattle.specify_blocks.specs.declared.model.VNet.TheVariants as net
use Rattle.specify_blocks.specs.declared.model.Instance.TheVariants as instance
use Rattle.specify_blocks.specs.declared.model.Gate.TheVariants as gate
use Rattle.specify_blocks.specs.Ports.{port_number, ports_of}
use Rattle.specify_blocks.specs.Names.{module_name}
use Rattle.specify_blocks.specs.Generated.{instances_of, path_of, check_of}

abbrev any_data : Event
any_data = record { pin = 1; edge = edge.Any }

abbrev rising_clock : Event
rising_clock = record { pin = 0; edge = edge.Rise }

-- A flip-flop with the pins CK, D and Q, a setup of 50 of D before rising CK, and an arc of 100 and 120 from CK to Q.
flip_flop : CellData
flip_flop =
    record {
      name = codes "DFFT";
      number = 1;
      pins =
          record { name = codes "CK"; direction = direction.Input }
          ∷ record { name = codes "D"; direction = direction.Input }
          ∷ record { name = codes "Q"; direction = direction.Output } ∷ [];
      groups =
          record {
            kind = kind.Ff (record {
              next_state = node.Name 1;
              clocked_on = node.Name 0;
              clear = None;
              preset = None;
              both1 = both.Unknown;
              both2 = both.Unknown;
            });
            support = 0 ∷ 1 ∷ [];
          } ∷ [];
      outputs = record { pin = 2; function = node.Name 3; support = source.State 0 ∷ [] } ∷ [];
      checks =
          record { kind = check_kind.Setup; first = any_data; second = rising_clock; limit = 50; condition = None } ∷ [];
      arcs = record { from = 0; to = 2; rise = 100; fall = 120; condition = None } ∷ [];
    }

its-name : module_name 1 (codes "DFFT") ≡ codes "DFFT"
unfolding is_kept_name is_verilog_word verilog_words
its-name = refl

its-instances :
    instances_of flip_flop
    ≡ instance.Primitive 0 (net.Wire 0) (net.Port 0 ∷ net.Port 1 ∷ net.Notifier ∷ [])
    ∷ instance.Primitive 1 (net.Port 2) (net.Wire 0 ∷ []) ∷ []
unfolding flip_flop
its-instances = refl

its-paths :
    map (path_of flip_flop) flip_flop.arcs
    ≡ record { from = 0; to = 2; rise = 100; fall = 120; gate = gate.Always } ∷ []
unfolding flip_flop
its-paths = refl

its-checks :
    map (check_of flip_flop) flip_flop.checks
    ≡ record { kind = check_kind.Setup; first = any_data; second = rising_clock; limit = 50; condition = None } ∷ []
unfolding flip_flop
its-checks = refl

-- An internal pin is no port, and takes no number.
gate_pins : List Pin
gate_pins =
    record { name = codes "CK"; direction = direction.Input }
    ∷ record { name = codes "IQ"; direction = direction.Internal }
    ∷ record { name = codes "GCK"; direction = direction.Output } ∷ []

internal-pins : port_number gate_pins 2 ≡ 1
unfolding gate_pins
internal-pins = refl

its-ports :
    ports_of gate_pins
    ≡ record { name = codes "CK"; input = true } ∷ record { name = codes "GCK"; input = false } ∷ []
unfolding gate_pins is_kept_name is_verilog_word verilog_words
its-ports = refl
