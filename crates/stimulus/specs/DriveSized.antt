-- The lines of a machine whose outputs are never z have an entry for each output and each check.
use Rattle.std.proofs.Common.{◌∙◌}
use Rattle.std.proofs.lemmas.List.{length-map}
use Rattle.cell_machine.specs.Lines as machines
use Rattle.stimulus.specs.DriveLines.{drive_of, drive_machine, IsSized}

pub drive_machine_sized : (m : machines.Machine) → machines.IsSized m → IsSized (drive_machine m)
drive_machine_sized m all = record {
  values = λ h. length-map (m.line h).values drive_of ∙ all.values h;
  delays = all.delays;
  reports = all.reports;
}
