-- What the core of a cell with three-state outputs is called in both languages.
use Rattle.std.proofs.Common.{refl}
use Rattle.verilog_tokens.specs.Kept.{is_kept_name}
use Rattle.vital_models.specs.Kept.{is_kept_entity_name}
use Rattle.generated_drivers.specs.Laws.{CoresAreNumbered}

pub cores_are_numbered : CoresAreNumbered
unfolding is_kept_name is_kept_entity_name
cores_are_numbered number given = record { in_verilog = refl; in_vhdl = refl }
