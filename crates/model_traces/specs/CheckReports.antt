-- Which timing checks of a module report. (IEEE 1364-2005, clause 15.)
use Rattle.std.specs.Prelude.{ℕ, Bool, true, List, Option, Some, None}
use Rattle.trit_cubes.specs.declared.trits.Trit.{Trit}
use Rattle.cell_machine.specs.declared.changes.Change.{Change}
use Rattle.cell_machine.specs.declared.times.Times.{Times}
use Rattle.cell_machine.specs.Outputs.{is_one}
use Rattle.specify_blocks.specs.declared.model.VNet.TheVariants as net
use Rattle.udp_tables.specs.declared.timing_checks.TimingCheck.{TimingCheck}
use Rattle.specify_blocks.specs.declared.model.VModule.{VModule}
use Rattle.run_parts.specs.CheckTimes.{reports_where}
use Rattle.model_traces.specs.NetValues.{net_value}

-- Whether a check's condition lets it count: there is none, or its net is 1. (IEEE 1364-2005, clause 15.5: `&&&`.)
abbrev pub is_enabled : VModule → List Trit → List Trit → Option ℕ → Bool
is_enabled m inputs states None = true
is_enabled m inputs states (Some w) = is_one (net_value m inputs states (net.Wire w))

-- whether a check reports at a change of an input that had the value a, by the inputs and states after the change
abbrev pub check_reports : VModule → List Trit → List Trit → Trit → Change → TimingCheck → Times → Bool
check_reports m inputs states = reports_where m.ports (is_enabled m inputs states)
