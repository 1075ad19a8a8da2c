-- The texts of a cell's models: that of its core, and behind it that of its three-state drivers.
use Rattle.std.proofs.Common.{◌≡◌, true, false, ℕ, List, [], ◌++◌, Result, Ok, sym, ap, subst, ◌∙◌, refl}
use Rattle.text_io.specs.Desk.{DeskState}
use Rattle.run_outcome.specs.Written.{in_verilog, in_vital, wrote_all, Writes}
use Rattle.run_outcome.proofs.WrittenLaws.{wrote_all-nothing}
use Rattle.three_state_cells.specs.DrivenCells.{DrivenData, may_float}
use Rattle.cell_machine.specs.declared.cells.Cell.{Cell}
use Rattle.cell_machine.specs.CellData.{data_of}
use Rattle.specify_blocks.specs.Generated.{module_of}
use Rattle.verilog_writer.specs.Model.{module_text}
use Rattle.generated_drivers.specs.Generated.{verilog_driver_of, vital_driver_of}
use Rattle.verilog_drivers.specs.DriverText as verilog
use Rattle.vhdl_drivers.specs.DriverText as vhdl
use Rattle.library_translation.specs.Cells.{verilog_drivers_text, vital_drivers_text}

-- the text of the module of a core, by another name of the core
pub verilog_of_core :
    {T E : Type 0} (old new : DeskState) (core other : Cell) (b : List ℕ) (r : Result T E)
    → core ≡ other → Writes old new (in_verilog (module_text (module_of (data_of core)) ++ b)) r
    → Writes old new (in_verilog (module_text (module_of (data_of other)) ++ b)) r
verilog_of_core old new core other b r same w =
    subst (λ c. Writes old new (in_verilog (module_text (module_of (data_of c)) ++ b)) r) same w

-- The drivers of a cell.

no_verilog_text : (cell : DrivenData) → may_float cell ≡ false → verilog_drivers_text cell ≡ []
unfolding verilog_drivers_text
no_verilog_text cell e = rw e refl

verilog_text : (cell : DrivenData) → may_float cell ≡ true
    → verilog_drivers_text cell ≡ verilog.driver_text (verilog_driver_of cell)
unfolding verilog_drivers_text
verilog_text cell e = rw e refl

no_vital_text : (entity : List ℕ) (cell : DrivenData) → may_float cell ≡ false → vital_drivers_text entity cell ≡ []
unfolding vital_drivers_text
no_vital_text entity cell e = rw e refl

vital_text_behind : (entity : List ℕ) (cell : DrivenData) → may_float cell ≡ true
    → vital_drivers_text entity cell ≡ vhdl.driver_text (vital_driver_of cell entity)
unfolding vital_drivers_text
vital_text_behind entity cell e = rw e refl

-- a cell of which no output may float has none
pub no_verilog_drivers : {E : Type 0} (s : DeskState) (cell : DrivenData) → may_float cell ≡ false
    → Writes {T = Unit {0}} {E = E} s s (in_verilog (verilog_drivers_text cell)) (Ok (tt {0}))
no_verilog_drivers s cell e = record {
  whole = sym (wrote_all-nothing s) ∙ ap (λ t. wrote_all s (in_verilog t)) (sym (no_verilog_text cell e));
  part = tt;
}

pub no_vital_drivers : {E : Type 0} (s : DeskState) (entity : List ℕ) (cell : DrivenData) → may_float cell ≡ false
    → Writes {T = Unit {0}} {E = E} s s (in_vital (vital_drivers_text entity cell)) (Ok (tt {0}))
no_vital_drivers s entity cell e = record {
  whole = sym (wrote_all-nothing s) ∙ ap (λ t. wrote_all s (in_vital t)) (sym (no_vital_text entity cell e));
  part = tt;
}

-- what is written for some drivers
pub verilog_drivers_written : {T E : Type 0} (old new : DeskState) (cell : DrivenData) (r : Result T E) → may_float cell ≡ true
    → Writes old new (in_verilog (verilog.driver_text (verilog_driver_of cell))) r
    → Writes old new (in_verilog (verilog_drivers_text cell)) r
verilog_drivers_written old new cell r float w = subst (λ t. Writes old new (in_verilog t) r) (sym (verilog_text cell float)) w

pub vital_drivers_written : {T E : Type 0} (old new : DeskState) (entity : List ℕ) (cell : DrivenData) (r : Result T E)
    → may_float cell ≡ true
    → Writes old new (in_vital (vhdl.driver_text (vital_driver_of cell entity))) r
    → Writes old new (in_vital (vital_drivers_text entity cell)) r
vital_drivers_written old new entity cell r float w =
    subst (λ t. Writes old new (in_vital t) r) (sym (vital_text_behind entity cell float)) w
