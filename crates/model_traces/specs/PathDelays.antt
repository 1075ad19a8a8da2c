-- The paths of a module as delays. (IEEE 1364-2005, clause 14.2.)
use Rattle.std.specs.Prelude.{ℕ, Bool, true, not, ◌&&◌, ◌||◌, List, map, filter, nat_eq, Option, Some, None, if◌then◌else◌}
use Rattle.std.specs.List.{list_all}
use Rattle.trit_cubes.specs.declared.trits.Trit.{Trit}
use Rattle.trit_cubes.specs.Filling.{same}
use Rattle.cell_machine.specs.Delay.{Path, least_delay}
use Rattle.cell_machine.specs.Outputs.{is_zero}
use Rattle.udp_tables.specs.declared.models.VPort.{VPort}
use Rattle.specify_blocks.specs.declared.model.VNet.TheVariants as net
use Rattle.specify_blocks.specs.declared.model.Gate.{Gate}
use Rattle.specify_blocks.specs.declared.model.Gate.TheVariants as gate
use Rattle.specify_blocks.specs.declared.model.VPath.{VPath}
use Rattle.specify_blocks.specs.declared.model.VModule.{VModule}
use Rattle.run_parts.specs.PortNumbers.{input_number}
use Rattle.model_traces.specs.NetValues.{net_value}

-- whether two paths have the same two ports
abbrev pub same_ports : VPath → VPath → Bool
same_ports path other = nat_eq path.from other.from && nat_eq path.to other.to

-- whether a path is no `if` path or its net is 0
abbrev pub is_off : VModule → List Trit → List Trit → Gate → Bool
is_off m inputs states gate.Always = true
is_off m inputs states (gate.If w) = is_zero (net_value m inputs states (net.Wire w))
is_off m inputs states gate.IfNone = true

-- whether another path leaves an `ifnone` path active: it has other ports, or it is no `if` path or one whose net is 0
abbrev pub is_quiet : VModule → List Trit → List Trit → VPath → VPath → Bool
is_quiet m inputs states path other = not (same_ports path other) || is_off m inputs states other.gate

-- Whether a path is active: an `if` path where its net is not 0, an `ifnone` path where each `if` path of its two ports has a
-- net that is 0, any other always. (IEEE 1364-2005, clause 14.2.4; this project's rule for unknowns.)
abbrev pub is_active : VModule → List Trit → List Trit → VPath → Gate → Bool
is_active m inputs states path gate.Always = true
is_active m inputs states path (gate.If w) = not (is_zero (net_value m inputs states (net.Wire w)))
is_active m inputs states path gate.IfNone = list_all (is_quiet m inputs states path) m.paths

-- a path with its delays, at values of the inputs and states
abbrev pub path_at : VModule → List Trit → List Trit → VPath → Path
path_at m inputs states path =
    record { active = is_active m inputs states path path.gate; rise = path.rise; fall = path.fall }

-- whether a path goes from an input to an output port
abbrev pub is_between : List VPort → ℕ → ℕ → VPath → Bool
is_between ports input output path = nat_eq (input_number ports path.from) input && nat_eq path.to output

-- the paths from an input to an output port
abbrev pub paths_between : VModule → List Trit → List Trit → ℕ → ℕ → List Path
paths_between m inputs states input output =
    map (path_at m inputs states) (filter (is_between m.ports input output) m.paths)

-- the delay of an output port that goes from a to b at a change of an input, where it does change
abbrev pub delay_at : VModule → List Trit → List Trit → ℕ → ℕ → Trit → Trit → Option ℕ
delay_at m inputs states input output a b =
    (if same a b then None else Some (least_delay a b (paths_between m inputs states input output)))
