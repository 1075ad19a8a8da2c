-- Facts of an entity that have at most one proof.
use Rattle.vital_models.specs.declared.model.OutValue.{OutValue}
use Rattle.vital_models.specs.declared.model.OutValue.TheVariants as value
use Rattle.vital_models.specs.declared.model.VEntity.{VEntity}
use Rattle.vital_models.specs.Sound.{IsValue}
use Rattle.std.proofs.Props.{props}

pub value_prop : (e : VEntity) (v : OutValue) → IsProp (IsValue e v)
value_prop e (value.Constant one) = hlevel props
value_prop e (value.Table table sources) = hlevel props
