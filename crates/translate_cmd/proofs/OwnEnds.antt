-- A library without a fault that is simulated beside its own models, under a stimulus without one, comes to its end.
use Rattle.std.proofs.Common.{◌≡◌, ℕ, Bool, true, false, List, if◌then◌else◌, sym, ap, subst}
use Rattle.std.specs.Prelude.{◌≢◌}
use Rattle.text_io.specs.Desk.{Folder}
use Rattle.run_outcome.specs.declared.status.Status.{Status}
use Rattle.run_outcome.specs.declared.status.Status.TheVariants as status
use Rattle.run_outcome.specs.Binding.{bytes_at}
use Rattle.run_outcome.specs.Outcome.{Outcome}
use Rattle.library_translation.specs.Library.{translate_outcome}
use Rattle.library_simulation.specs.Comparisons.{any_differs}
use Rattle.library_simulation.specs.Generated.{modules_of, entities_of}
use Rattle.library_simulation.specs.Simulate.{simulate_outcome, simulate_of}
use Rattle.translate_cmd.specs.Complete.{CanBeSimulated}
use Rattle.translate_cmd.specs.Agreement.{own_simulation, IsWithoutFault}
use Rattle.translate_cmd.specs.AgreementRuns.{NameOwnModels}
use Rattle.translate_cmd.proofs.Agreement.{own_models_agree}
use Rattle.translate_cmd.proofs.CompleteLemmas.{simulation_comes_to}
use Rattle.translate_cmd.proofs.FileModels.{verilog_read, vital_read}
use Rattle.translate_cmd.proofs.KeptCells.{cells_of}

-- such files can be simulated
can_be_simulated : (library stimulus : List ℕ) → IsWithoutFault library stimulus
    → CanBeSimulated library (translate_outcome library).text.verilog (translate_outcome library).text.vital stimulus
can_be_simulated library stimulus h = record {
  whole = h.whole;
  text_within = h.verilog_within;
  modules = modules_of (cells_of library);
  verilog = verilog_read library;
  vhdl_within = h.vital_within;
  entities = entities_of (cells_of library);
  vital = vital_read library;
  stimulus_within = h.stimulus_within;
  sections = h.sections;
  lines = h.lines;
}

done_unless : (some_differ : Bool) (s : Status) → s ≡ (if some_differ then status.Differ else status.Done) → s ≢ status.Differ
    → s ≡ status.Done
done_unless true s e never = absurd (never e)
done_unless false s e never = e

own_simulation_is_done : (library stimulus : List ℕ) → IsWithoutFault library stimulus
    → (own_simulation library stimulus).status ≡ status.Done
unfolding can_be_simulated
own_simulation_is_done library stimulus h =
    let cells = cells_of library in
    let text = (translate_outcome library).text.verilog in
    let vhdl = (translate_outcome library).text.vital in
    done_unless (any_differs cells (modules_of cells) (entities_of cells) h.sections) (own_simulation library stimulus).status
    (ap (λ (o : Outcome). o.status) (simulation_comes_to library text vhdl stimulus (can_be_simulated library stimulus h)))
    (own_models_agree library stimulus).not_differ

-- so it is with words that name these files
pub own_words_are_done : (words : List (List ℕ)) (folder : Folder) → NameOwnModels words folder
    → IsWithoutFault (bytes_at words folder 1) (bytes_at words folder 4)
    → (simulate_of words folder).status ≡ status.Done
own_words_are_done words folder own h =
    let library = bytes_at words folder 1 in
    let stimulus = bytes_at words folder 4 in
    subst (λ text. (simulate_outcome library text (bytes_at words folder 3) stimulus).status ≡ status.Done) (sym own.verilog)
    (subst (λ text. (simulate_outcome library (translate_outcome library).text.verilog text stimulus).status ≡ status.Done)
    (sym own.vital)
    (own_simulation_is_done library stimulus h))
