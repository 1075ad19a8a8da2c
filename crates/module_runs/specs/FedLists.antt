-- What is known of the instances that changes feed.
use Rattle.std.specs.Prelude.{◌≡◌, List, length}
use Rattle.udp_tables.specs.declared.models.VPort.{VPort}
use Rattle.specify_blocks.specs.declared.model.Instance.{Instance}
use Rattle.model_traces.specs.declared.turns.Turned.TheVariants as turned
use Rattle.model_traces.specs.PortNumbers.{input_count}
use Rattle.module_runs.specs.declared.fed_instances.FedInstances.{FedInstances}
use Rattle.run_parts.specs.NumberedLists.{AreLists}
use Rattle.module_runs.specs.FedInstances.{fed_places}
use Rattle.module_runs.specs.KeptValues.{state_places}

-- these are the places of the instances that each input feeds, of those that the register of the checks feeds, and of those that
-- states may feed
pub record AreFed (ports : List VPort) (instances : List Instance) (fed : FedInstances) : Type 0 where
  pub each_input : length fed.by_input ≡ input_count ports
  pub fed_by_input : AreLists (λ i. fed_places ports (turned.Input i) instances) fed.by_input
  pub fed_by_register : fed.by_register ≡ fed_places ports turned.Notifier instances
  pub fed_by_states : fed.by_states ≡ state_places instances
