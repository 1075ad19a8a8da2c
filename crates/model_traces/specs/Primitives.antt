-- The next states of the primitives of a module at a change of an input or of the register of the checks. (IEEE 1364-2005,
-- clause 8.)
use Rattle.std.specs.Prelude.{ℕ, Bool, true, false, ◌&&◌, List, map, Option, Some, None, nat_eq, position, slice_get, slice_set}
use Rattle.std.specs.Prelude.{if◌then◌else◌}
use Rattle.std.specs.Option.{option_map_or}
use Rattle.trit_cubes.specs.declared.trits.Trit.{Trit}
use Rattle.trit_cubes.specs.declared.trits.Trit.TheVariants.{Unknown}
use Rattle.cell_machine.specs.Each.{each}
use Rattle.udp_tables.specs.declared.models.VPort.{VPort}
use Rattle.udp_tables.specs.declared.table.Udp.{Udp}
use Rattle.udp_tables.specs.Sequential.{udp_next}
use Rattle.specify_blocks.specs.declared.model.VNet.{VNet}
use Rattle.specify_blocks.specs.declared.model.VNet.TheVariants as net
use Rattle.specify_blocks.specs.declared.model.Instance.{Instance}
use Rattle.specify_blocks.specs.declared.model.Instance.TheVariants as instance
use Rattle.specify_blocks.specs.declared.model.VModule.{VModule}
use Rattle.udp_tables.specs.Ports.{is_input_port}
use Rattle.model_traces.specs.declared.turns.Turned.{Turned}
use Rattle.model_traces.specs.declared.turns.Turned.TheVariants as turned
use Rattle.model_traces.specs.declared.turns.Turn.{Turn}
use Rattle.run_parts.specs.PortNumbers.{input_number, input_value}

-- whether this net is what changes
abbrev pub is_turned : List VPort → Turned → VNet → Bool
is_turned ports (turned.Input i) (net.Port p) = is_input_port ports p && nat_eq (input_number ports p) i
is_turned ports (turned.Input i) (net.Wire w) = false
is_turned ports (turned.Input i) net.Notifier = false
is_turned ports turned.Notifier (net.Port p) = false
is_turned ports turned.Notifier (net.Wire w) = false
is_turned ports turned.Notifier net.Notifier = true

-- The value of a net that feeds a primitive with a state. In a sound module such a net is an input or the register of the
-- checks.
abbrev pub entry_value : List VPort → List Trit → Trit → VNet → Trit
entry_value ports inputs notifier (net.Port p) = input_value ports inputs p
entry_value ports inputs notifier (net.Wire w) = Unknown
entry_value ports inputs notifier net.Notifier = notifier

-- The next state of a primitive whose inputs have these values after the one at this place was `from`. Where no input of it
-- changed, the state stays.
abbrev pub next_at : Option ℕ → Udp → List Trit → Trit → Trit → Trit
next_at None udp values from' s = s
next_at (Some p) udp values from' s = udp_next udp.rows (slice_set values p from') values s

-- the next state of an instance of a primitive, where the inputs and the register have these values after the change
abbrev pub primitive_next : List VPort → List Trit → Trit → Turn → List VNet → Trit → Udp → Trit
primitive_next ports inputs notifier turn nets s udp =
    (if udp.sequential
    then next_at (position (is_turned ports turn.what) nets) udp (map (entry_value ports inputs notifier) nets) turn.from s
    else s)

-- the next state of an instance
abbrev pub next_state : VModule → List Trit → Trit → Turn → Instance → Trit → Trit
next_state m inputs notifier turn (instance.Primitive number output nets) s =
    option_map_or (primitive_next m.ports inputs notifier turn nets s) (slice_get m.udps number) s
next_state m inputs notifier turn (instance.Constant output one) s = s

-- the next states of all instances
abbrev pub next_states : VModule → List Trit → Trit → Turn → List Trit → List Trit
next_states m inputs notifier turn states = each (next_state m inputs notifier turn) m.instances states
