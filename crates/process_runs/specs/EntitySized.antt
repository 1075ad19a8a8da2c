-- Each line of an entity has an entry for each output and each check.
use Rattle.std.proofs.Common.{◌≡◌, List, [], ◌∷◌, length, false, replicate, slice_set, ap, ◌∙◌}
use Rattle.std.proofs.lemmas.List.{length-map, length-replicate}
use Rattle.cell_machine.specs.declared.changes.Change.{Change}
use Rattle.cell_machine.specs.History.{value_before, is_event}
use Rattle.cell_machine.specs.Lines.{IsSized}
use Rattle.vital_models.specs.declared.model.VEntity.{VEntity}
use Rattle.model_traces.specs.PortNumbers.{input_count}
use Rattle.model_traces.specs.SignalTimes.{check_reports}
use Rattle.model_traces.specs.ProcessLaws.{last_times}
use Rattle.model_traces.specs.ProcessRun.{reports_at, process_after}
use Rattle.model_traces.specs.ModuleSized.{length-each, either-length}
use Rattle.model_traces.specs.EntityTrace.{output_after, delay_after, reports_after, entity_machine}
use Rattle.model_traces.proofs.ProcessLemmas.{process-times}

pub entity-reports : (e : VEntity) (h : List Change) → length (reports_after e h) ≡ length e.checks
entity-reports e [] = length-replicate (length e.checks) false
entity-reports e (c ∷ h) =
    let v = (process_after e h).inputs in
    let times = ap length (process-times e h) ∙ length-map e.checks (last_times e.ports (input_count e.ports) h) in
    either-length (is_event v c) (length e.checks) (reports_at e (process_after e h) c) (replicate (length e.checks) false)
    (length-each (check_reports e (slice_set v c.pin c.to) (value_before v c) c) e.checks (process_after e h).times times)
    (length-replicate (length e.checks) false)

pub entity_sized : (e : VEntity) → IsSized (entity_machine e)
entity_sized e =
    record {
      values = λ h. length-map e.outputs (output_after e h);
      delays = λ h. length-map e.outputs (delay_after e h);
      reports = entity-reports e;
    }
