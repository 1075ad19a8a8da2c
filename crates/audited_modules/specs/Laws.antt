-- What a module shows that matches a cell, which module does, and what the comparison tells of one that does not.
use Rattle.std.specs.Prelude.{◌≡◌, ◌≢◌, List, [], Contains, IsTrue}
use Rattle.cell_machine.specs.declared.changes.Change.{Change}
use Rattle.cell_machine.specs.CellData.{CellData}
use Rattle.cell_machine.specs.CellRules.{is_cell}
use Rattle.cell_machine.specs.History.{IsProper, IsProperFrom}
use Rattle.cell_machine.specs.CellTrace.{inputs_of, states_after, cell_trace}
use Rattle.specify_blocks.specs.declared.model.VModule.{VModule}
use Rattle.specify_blocks.specs.Sound.{IsSound}
use Rattle.specify_blocks.specs.Generated.{module_of}
use Rattle.model_traces.specs.ModuleRun.{run_after}
use Rattle.model_traces.specs.ModuleTrace.{module_trace}
use Rattle.model_traces.specs.SequentialStates.{sequential_states}
use Rattle.model_traces.specs.ModuleFits.{ModuleFits}
use Rattle.table_audit.specs.module_tables.declared.differences.Difference.{Difference}
use Rattle.table_audit.specs.declared.verdicts.Verdict.TheVariants.{Same, Differs}
use Rattle.table_audit.specs.module_tables.Tables.{compared}
use Rattle.table_audit.specs.module_shapes.SameShape.{HasShape}
use Rattle.table_audit.specs.Matches.{Matches}
use Rattle.table_audit.specs.Verdict.{verdict_of}

-- A sound module that matches data which keep the rules of cells fits them.
abbrev pub MatchingModulesFit : Type 0
MatchingModulesFit =
    (d : CellData) (m : VModule)
    → IsTrue (is_cell d.name d.pins d.groups d.outputs d.checks d.arcs) → IsSound m → Matches d m → ModuleFits d m

-- A sound module that the comparison finds the same as a cell has the cell's trace for every list of changes of inputs at rising
-- times, and the states of its primitives after each change are the cell's.
abbrev pub AuditedModulesAgree : Type 0
AuditedModulesAgree =
    (d : CellData) (m : VModule)
    → IsTrue (is_cell d.name d.pins d.groups d.outputs d.checks d.arcs) → IsSound m → verdict_of d m ≡ Same
    → ((cs : List Change) → IsProperFrom (inputs_of d) [] cs → module_trace m cs ≡ cell_trace d cs)
    × ((h : List Change) → IsProper (inputs_of d) h → sequential_states m (run_after m h) ≡ states_after d h)

-- The module of data that keep the rules of cells matches them.
abbrev pub GeneratedModulesMatch : Type 0
GeneratedModulesMatch =
    (d : CellData) → IsTrue (is_cell d.name d.pins d.groups d.outputs d.checks d.arcs) → Matches d (module_of d)

-- The comparison finds the module of such data the same.
abbrev pub GeneratedModulesAreSame : Type 0
GeneratedModulesAreSame =
    (d : CellData) → IsTrue (is_cell d.name d.pins d.groups d.outputs d.checks d.arcs) → verdict_of d (module_of d) ≡ Same

-- Where the comparison answers a difference, the module has the cell's shape, the difference is among all arguments that are
-- compared, and the values of the cell and of the module that it tells are unlike.
abbrev pub DifferencesAreUnlike : Type 0
DifferencesAreUnlike =
    (d : CellData) (m : VModule) (c : Difference)
    → verdict_of d m ≡ Differs c → HasShape d m × Contains (compared d m) c × (c.of_cell ≢ c.of_model)
