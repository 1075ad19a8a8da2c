use Rattle.std.proofs.Common.{drop}
use Rattle.model_files.specs.ModelNames.{HaveOwnNames}
use Rattle.model_replay.specs.Verilog.{verilog}
use Rattle.library_audit.proofs.ModuleNames.{Fills}
use Rattle.library_audit.proofs.modules.names_of.Given as goal

abbrev pub invariant-loop-model : goal.invariant-loop-model
invariant-loop-model l = record { fills : HaveOwnNames verilog l.models → Fills l.names (drop l.model-index l.models) l.models }
