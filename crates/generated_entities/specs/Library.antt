-- The entities of the cells of one library. (IEEE 1076-1993, 13.3.1: names are the same whatever the case of their letters; that
-- a cell's name is kept where no entity before it has it is this project's rule.)
use Rattle.std.specs.Prelude.{ℕ, List, [], ◌∷◌, ◌++◌}
use Rattle.cell_machine.specs.CellData.{CellData}
use Rattle.vhdl_tokens.specs.Kept.{lowered}
use Rattle.vital_models.specs.declared.model.VEntity.{VEntity}
use Rattle.vital_models.specs.Kept.{entity_name}
use Rattle.vital_models.specs.Generated.{entity_of}

-- the entity of a cell, behind entities with these names in lower case
abbrev pub entity_behind : List (List ℕ) → CellData → VEntity
entity_behind given cell = entity_of cell (entity_name cell.number given cell.name)

-- the entities of cells, each behind those before it and behind entities with these names in lower case
abbrev pub entities_behind : List (List ℕ) → List CellData → List VEntity
entities_behind given [] = []
entities_behind given (cell ∷ cells) =
    entity_behind given cell ∷ entities_behind (given ++ lowered (entity_name cell.number given cell.name) ∷ []) cells

-- the entities of the cells of a library
abbrev pub entities_of : List CellData → List VEntity
entities_of cells = entities_behind [] cells
