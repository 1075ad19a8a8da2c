use Rattle.std.proofs.Common.{◌≡◌, drop}
use Rattle.model_files.specs.ModelNames.{input_names, output_names}
use Rattle.model_replay.proofs.Catalogs.{Fills}
use Rattle.model_replay.proofs.catalog.add_names.Given as goal

abbrev pub invariant-loop-port : goal.invariant-loop-port
invariant-loop-port l = record {
  inputs : Fills l.named.inputs (input_names (drop l.port-index l.ports)) (input_names l.ports);
  outputs : Fills l.named.outputs (output_names (drop l.port-index l.ports)) (output_names l.ports);
  standing : l.named.standing ≡ l.initial.named.standing;
}
