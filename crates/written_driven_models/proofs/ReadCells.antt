-- What is read of cells are cells of one library.
use Rattle.std.proofs.Common.{◌≡◌, ℕ, Bool, List, [], ◌∷◌, refl, sym, ap, arith, Option, length, if◌then◌else◌}
use Rattle.std.specs.Str.{bytes_eq}
use Rattle.std.proofs.lemmas.Bool.{lt-ltb}
use Rattle.liberty_text.specs.declared.time.Unit.{Unit}
use Rattle.liberty_groups.specs.declared.tree.Group.{Group}
use Rattle.generated_drivers.specs.verilog_tokens.Kept.{is_kept_cell_name}
use Rattle.generated_drivers.proofs.cell_machine.RuleLemmas.{rules_of}
use Rattle.generated_drivers.specs.three_state_cells.Outputs.{ThreeStateOutput, three_state_outputs}
use Rattle.generated_drivers.specs.three_state_cells.Timing.{driver_of}
use Rattle.generated_drivers.specs.three_state_cells.DrivenCells.{DrivenData, core_name, floating_of, data_by, driven_data}
use Rattle.generated_drivers.proofs.three_state_cells.CoreDrivers.{drivers_are_of_cores}
use Rattle.generated_drivers.proofs.three_state_cells.DriverLimits.{drivers_keep_limits}
use Rattle.generated_entities.proofs.generated_modules.KeptNames.{kept_distinct}
use Rattle.written_driven_models.specs.Library.{name_of_core, own_names}
use Rattle.written_driven_models.specs.LibraryLaws.{ReadCellsAreNumbered, DistinctCellsAreOfOneLibrary}

-- the core of a cell is called as the cell, or by its number
named_by :
    (unit : Option Unit) (number : ℕ) (cell : Group) (outputs : List ThreeStateOutput)
    → (data_by unit number cell outputs).core.name ≡ name_of_core (data_by unit number cell outputs)
unfolding floating_of driver_of
named_by unit number cell [] = refl
named_by unit number cell (output ∷ outputs) =
    let read : DrivenData = data_by unit number cell (output ∷ outputs) in
    sym (ap (λ (b : Bool). if b then core_name number else read.name) (lt-ltb 0 (length read.driver.drives) (omega arith)))

named : (unit : Option Unit) (number : ℕ) (cell : Group)
    → (driven_data unit number cell).core.name ≡ name_of_core (driven_data unit number cell)
unfolding driven_data
named unit number cell = named_by unit number cell (three_state_outputs cell)

pub read-cells-numbered : ReadCellsAreNumbered
read-cells-numbered unit number cell h =
    let core = (driven_data unit number cell).core in
    let rules = rules_of core.name core.pins core.groups core.outputs core.checks core.arcs h.rules in
    record {
      core = h;
      named = named unit number cell;
      driver = drivers_are_of_cores unit number cell rules.of_outputs;
      limits = drivers_keep_limits unit number cell;
    }

pub distinct-of-one-library : DistinctCellsAreOfOneLibrary
distinct-of-one-library cells h names numbers =
    record {
      apart = record { numbered = h; numbers = numbers };
      names =
          kept_distinct bytes_eq is_kept_cell_name (own_names cells) names;
    }
