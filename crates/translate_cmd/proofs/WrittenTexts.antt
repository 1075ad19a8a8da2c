-- The Verilog and the VHDL of a library are those of the models of its accepted cells.
use Rattle.std.proofs.Common.{◌≡◌, ℕ, Bool, true, false, List, [], ◌∷◌, ◌++◌, codes, decimal, refl, ap, subst, ◌∙◌, Option, Some}
use Rattle.std.proofs.Common.{None, if◌then◌else◌}
use Rattle.std.specs.List.{flat_map}
use Rattle.std.proofs.lemmas.List.{append-nil}
use Rattle.written_driven_models.specs.liberty_groups.declared.tree.Group.{Group}
use Rattle.cell_attributes.specs.Groups.{cell_name}
use Rattle.cell_reader.specs.declared.refusal.Refusal.{Refusal}
use Rattle.cell_cursor.specs.declared.item.LibraryItem.{LibraryItem}
use Rattle.cell_cursor.specs.declared.item.LibraryItem.TheVariants as item
use Rattle.cell_cursor.specs.Ends.{items_within}
use Rattle.written_driven_models.specs.vhdl_tokens.Kept.{lowered}
use Rattle.written_driven_models.specs.specify_blocks.Generated.{module_of}
use Rattle.verilog_writer.specs.Model.{prelude_text, module_text}
use Rattle.written_driven_models.specs.verilog_drivers.DriverText as verilog
use Rattle.written_driven_models.specs.vital_models.Generated.{entity_of}
use Rattle.written_driven_models.specs.vhdl_writer.Entity.{entity_text}
use Rattle.written_driven_models.specs.vhdl_drivers.DriverText as vhdl
use Rattle.written_driven_models.specs.three_state_cells.DrivenCells.{DrivenData, may_float}
use Rattle.written_driven_models.specs.generated_drivers.Generated.{verilog_driver_of, vital_driver_of}
use Rattle.written_driven_models.specs.Texts.{text_behind, written_model_text, written_text}
use Rattle.written_driven_models.specs.Verilog.{written_verilog}
use Rattle.written_driven_models.specs.Vital.{written_vital}
use Rattle.written_driven_models.specs.VerilogLibrary.{driven_module_of, driven_modules_of}
use Rattle.written_driven_models.specs.VitalLibrary.{model_name, driven_entity, driven_entities_behind}
use Rattle.run_outcome.specs.Written.{Written, joined}
use Rattle.library_simulation.specs.library_reader.declared.progress.Progress.{Progress}
use Rattle.library_simulation.specs.library_reader.Progress.{no_progress, next_refusal, next_data, next_entity, entity_by}
use Rattle.library_simulation.specs.library_reader.Progress.{after_cell, after_item}
use Rattle.library_simulation.specs.library_reader.Endings.{library_limit}
use Rattle.library_translation.specs.Cells.{verilog_drivers_text, model_text, vital_drivers_text, vital_text, models_written}
use Rattle.library_translation.specs.Cells.{accepted_written, written_by, items_written}
use Rattle.library_translation.specs.Library.{outcome_at}
use Rattle.translate_cmd.specs.TranslatedModels.{cells_by, accepted_cells}
use Rattle.translate_cmd.specs.TranslatedLaws.{VerilogIsOfModules, VitalIsOfEntities}
use Rattle.translate_cmd.proofs.EntityNames.{AreAlike, its_entity, alike_after}

-- One cell.

one_verilog : (cell : DrivenData) → model_text cell ≡ written_model_text written_verilog (driven_module_of cell)
unfolding model_text verilog_drivers_text written_model_text
one_verilog cell = by (may_float cell)
  where
    by : (b : Bool)
        → module_text (module_of cell.core) ++ (if b then verilog.driver_text (verilog_driver_of cell) else [])
        ≡ module_text (module_of cell.core) ++ text_behind written_verilog (if b then Some (verilog_driver_of cell) else None)
    by true = refl
    by false = refl

one_vital :
    (given : List (List ℕ)) (cell : DrivenData) (name : List ℕ) → name ≡ model_name (may_float cell) given cell
    → vital_text name cell ≡ written_model_text written_vital (driven_entity (may_float cell) given cell)
unfolding vital_text vital_drivers_text written_model_text
one_vital given cell name e = by (may_float cell) e
  where
    by : (b : Bool) → name ≡ model_name b given cell
        → entity_text (entity_of cell.core (if b then codes "cell" ++ decimal cell.core.number else name))
        ++ (if b then vhdl.driver_text (vital_driver_of cell name) else [])
        ≡ entity_text (driven_entity b given cell).model ++ text_behind written_vital (driven_entity b given cell).driver
    by true e =
        ap (λ (x : List ℕ). entity_text (entity_of cell.core (codes "cell" ++ decimal cell.core.number))
        ++ vhdl.driver_text (vital_driver_of cell x)) e
    by false e = ap (λ (x : List ℕ). entity_text (entity_of cell.core x) ++ []) e

in_verilog : (entity : List ℕ) (cell : DrivenData) (group : Group)
    → (accepted_written entity cell group).verilog ≡ model_text cell
unfolding accepted_written models_written
in_verilog entity cell group = append-nil (model_text cell ++ []) ∙ append-nil (model_text cell)

in_vital : (entity : List ℕ) (cell : DrivenData) (group : Group)
    → (accepted_written entity cell group).vital ≡ vital_text entity cell
unfolding accepted_written models_written
in_vital entity cell group = append-nil (vital_text entity cell)

-- What is written are the texts of these cells, their VITAL models named behind models with these names.
record IsOfCells (given : List (List ℕ)) (cells : List DrivenData) (written : Written) : Type 0 where
  verilog : written.verilog ≡ flat_map (written_model_text written_verilog) (driven_modules_of cells)
  vital : written.vital ≡ flat_map (written_model_text written_vital) (driven_entities_behind given cells)

-- what holds of items behind any others
abbrev Follow : List LibraryItem → Type 0
Follow items = (p : Progress) (given : List (List ℕ)) → AreAlike given p.entities
    → IsOfCells given (accepted_cells p items) (items_written p items)

abbrev items_behind : Progress → Group → Option Refusal → List LibraryItem → Written
items_behind p group o items = items_written (after_cell p (cell_name group) (entity_by p group o)) items

cell_written :
    (p : Progress) (group : Group) (items : List LibraryItem) (given : List (List ℕ)) → Follow items → AreAlike given p.entities
    → (o : Option Refusal)
    → IsOfCells given (cells_by p group o ++ accepted_cells (after_cell p (cell_name group) (entity_by p group o)) items)
    (joined (written_by p group o) (items_behind p group o items))
cell_written p group items given follow h None =
    let cell : DrivenData = next_data p group in
    let rest = follow (after_cell p (cell_name group) (Some (next_entity p group)))
    (given ++ lowered (model_name (may_float cell) given cell) ∷ []) (alike_after p group given h) in
    let first = in_verilog (next_entity p group) cell group ∙ one_verilog cell in
    let second = in_vital (next_entity p group) cell group ∙ one_vital given cell (next_entity p group) (its_entity p group given h) in
    record {
      verilog = λ i. first i ++ rest.verilog i;
      vital = λ i. second i ++ rest.vital i;
    }
cell_written p group items given follow h (Some refusal) =
    let rest = follow (after_cell p (cell_name group) None) given h in
    record { verilog = rest.verilog; vital = rest.vital }

all_written : (items : List LibraryItem) → Follow items
all_written [] p given h = record { verilog = refl; vital = refl }
all_written (item.Cell group ∷ items) p given h = cell_written p group items given (all_written items) h (next_refusal p group)
all_written (item.Unit line ∷ items) p given h =
    let rest = all_written items (after_item p (item.Unit line)) given h in
    record { verilog = rest.verilog; vital = rest.vital }
all_written (item.LeftOut at ∷ items) p given h =
    let rest = all_written items p given h in
    record { verilog = rest.verilog; vital = rest.vital }
all_written (item.BusType group ∷ items) p given h =
    let rest = all_written items (after_item p (item.BusType group)) given h in
    record { verilog = rest.verilog; vital = rest.vital }

library_written : (bytes : List ℕ)
    → IsOfCells [] (accepted_cells no_progress (items_within library_limit bytes))
    (items_written no_progress (items_within library_limit bytes))
library_written bytes = all_written (items_within library_limit bytes) no_progress [] (λ name. refl)

pub verilog-of-modules : VerilogIsOfModules
unfolding outcome_at written_text
verilog-of-modules bytes =
    append-nil (prelude_text ++ (items_written no_progress (items_within library_limit bytes)).verilog)
    ∙ ap (λ l. prelude_text ++ l) (library_written bytes).verilog

pub vital-of-entities : VitalIsOfEntities
unfolding outcome_at written_text
vital-of-entities bytes = append-nil (items_written no_progress (items_within library_limit bytes)).vital
    ∙ (library_written bytes).vital
