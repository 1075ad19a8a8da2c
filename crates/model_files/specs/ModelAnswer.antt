-- What a file of models is read as, or how it ends a run. This project's rules.
use Rattle.std.specs.Prelude.{List, Result, Ok, Err}
use Rattle.udp_tables.specs.declared.models.ModelFault.{ModelFault}
use Rattle.run_outcome.specs.declared.status.Status.TheVariants as status
use Rattle.run_outcome.specs.FileSteps.{FileStop, FileAnswer, answer_within}
use Rattle.model_files.specs.declared.format.ModelFormat.{ModelFormat}
use Rattle.model_files.specs.Languages.{Language}
use Rattle.model_files.specs.Limits.{model_limit}
use Rattle.model_files.specs.FaultLines.{model_fault_line, model_too_long_line}

-- how a file of models with more bytes than its limit ends a run
abbrev pub long_model_stop : ModelFormat → FileStop
long_model_stop format = record { status = status.TooLong; line = model_too_long_line format }

-- how a text of models with this fault ends a run
abbrev pub model_fault_stop : ModelFormat → ModelFault → FileStop
model_fault_stop format fault = record { status = status.Model; line = model_fault_line format fault }

-- the models of a text, or how its fault ends a run
abbrev pub models_or_stop : {M : Type 0} → ModelFormat → Result (List M) ModelFault → Result (List M) FileStop
models_or_stop format (Ok models) = Ok models
models_or_stop format (Err fault) = Err (model_fault_stop format fault)

abbrev pub models_in_text : {M : Type 0} → Language M → FileAnswer (List M)
models_in_text l text = models_or_stop l.format (l.text text)

-- the models of a file with these bytes, or how they end a run
unfoldable pub model_answer : {M : Type 0} → Language M → FileAnswer (List M)
model_answer l bytes = answer_within model_limit (long_model_stop l.format) (models_in_text l) bytes
