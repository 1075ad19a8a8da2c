-- The parts of an entity, joined item by item.
use Rattle.std.proofs.Common.{◌≡◌, ℕ, List, [], ◌∷◌, refl, ap}
use Rattle.vhdl_declarations_reader.specs.vital_tables.declared.table.TruthTable.{TruthTable}
use Rattle.vhdl_declarations_reader.specs.vital_tables.declared.table.VStateTable.{VStateTable}
use Rattle.vhdl_declarations_reader.specs.vital_tables.declared.model.VState.{VState}
use Rattle.vhdl_declarations_reader.specs.vital_tables.declared.model.VTruth.{VTruth}
use Rattle.vhdl_declarations_reader.specs.vital_tables.declared.model.OutValue.{OutValue}
use Rattle.vhdl_declarations_reader.specs.vital_tables.declared.model.VOutput.{VOutput}
use Rattle.vhdl_declarations_reader.specs.vital_tables.declared.model.HPath.{HPath}
use Rattle.vhdl_declarations_reader.specs.vhdl_grammar.declared.scope.Columns.{Columns}
use Rattle.vhdl_declarations_reader.specs.vhdl_grammar.VhdlText.{states_with, conditions_with, outputs_with}
use Rattle.vhdl_reader.specs.Joined.{joined, state_of, condition_of, driven_of, output_of}

pub states : (tables : List VStateTable) (columns : List Columns) → joined state_of tables columns ≡ states_with tables columns
states [] columns = refl
states (table ∷ tables) [] = refl
states (table ∷ tables) (c ∷ columns) = ap (λ (more : List VState). state_of table c ∷ more) (states tables columns)

pub conditions : (tables : List TruthTable) (uses : List (List ℕ)) → joined condition_of tables uses ≡ conditions_with tables uses
conditions [] uses = refl
conditions (table ∷ tables) [] = refl
conditions (table ∷ tables) (inputs ∷ uses) =
    ap (λ (more : List VTruth). condition_of table inputs ∷ more) (conditions tables uses)

pub outputs : (ports : List ℕ) (values : List OutValue) (paths : List (List HPath)) →
    joined output_of ports (joined driven_of values paths) ≡ outputs_with ports values paths
outputs [] values paths = refl
outputs (port ∷ ports) [] paths = refl
outputs (port ∷ ports) (value ∷ values) [] = refl
outputs (port ∷ ports) (value ∷ values) (these ∷ paths) =
    ap (λ (more : List VOutput). output_of port (driven_of value these) ∷ more) (outputs ports values paths)
