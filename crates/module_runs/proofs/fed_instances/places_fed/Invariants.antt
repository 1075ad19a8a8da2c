use Rattle.std.proofs.Common.{◌≡◌, take}
use Rattle.run_parts.specs.Places.{places_from}
use Rattle.module_runs.specs.FedInstances.{is_fed_by}
use Rattle.module_runs.proofs.fed_instances.places_fed.Given as goal

-- the places among the instances so far
abbrev pub invariant-loop-i : goal.invariant-loop-i
invariant-loop-i l = l.places ≡ places_from (is_fed_by l.feeder) 0 (take l.i l.instances)
