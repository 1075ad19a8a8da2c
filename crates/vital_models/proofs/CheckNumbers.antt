-- An entity numbers its conditions from 0: its timing checks are those of a cell's model behind no other thing.
use Rattle.std.proofs.Common.{◌≡◌, ◌+◌, List, [], ◌∷◌, map, Option, Some, None, refl, ap, arith}
use Rattle.std.specs.Prelude.{option_map}
use Rattle.bool_functions.specs.declared.tree.Node.{Node}
use Rattle.cell_machine.specs.declared.checks.Check.{Check}
use Rattle.cell_machine.specs.CellData.{CellData}
use Rattle.vital_tables.specs.udp_tables.Conditions.{conditions_of, condition_place}
use Rattle.vital_tables.specs.udp_tables.TimingChecks.{number_behind, check_behind}
use Rattle.vital_models.specs.Generated.{place_of, check_of}

number_alone : (cell : CellData) (o : Option Node)
    → option_map (number_behind 0 (conditions_of cell)) o ≡ option_map (place_of cell) o
number_alone cell None = refl
number_alone cell (Some f) =
    let same : 0 + condition_place (conditions_of cell) f ≡ condition_place (conditions_of cell) f = omega arith in ap Some same

check_alone : (cell : CellData) (k : Check) → check_behind 0 cell k ≡ check_of cell k
check_alone cell k = ap (λ number. record (check_of cell k) { condition = number }) (number_alone cell k.condition)

pub checks_alone : (cell : CellData) (ks : List Check) → map (check_behind 0 cell) ks ≡ map (check_of cell) ks
checks_alone cell [] = refl
checks_alone cell (k ∷ ks) = cc (check_alone cell k, checks_alone cell ks)
