-- Translating a library: its three files bound one after another, and what stands on the desk whether they were or not.
use Rattle.std.proofs.Common.{◌≡◌, ℕ, List, [], ◌∷◌, ◌++◌, take, Result, Ok, Err, IsTrue, IsErr, IfSome, OnOk, OnErr, refl, ap}
use Rattle.std.proofs.Common.{◌∙◌}
use Rattle.text_io.specs.declared.outside.Failed.{Failed}
use Rattle.text_io.specs.declared.slots.InSlot.{InSlot}
use Rattle.text_io.specs.declared.slots.InSlot.TheVariants.{Library}
use Rattle.text_io.specs.declared.slots.OutSlot.TheVariants.{VerilogText, VitalText, Faults}
use Rattle.text_io.specs.declared.slots.Slot.TheVariants.{Input, Output}
use Rattle.text_io.specs.Desk.{DeskState, is_bound, opened, created, took, wrote, IsFileAt}
use Rattle.run_outcome.specs.declared.status.Status.{Status}
use Rattle.run_outcome.specs.declared.status.Status.TheVariants.{Outside}
use Rattle.run_outcome.specs.Status.{is_decided}
use Rattle.run_outcome.specs.Written.{Written, nothing_written, wrote_all}
use Rattle.run_outcome.specs.Outcome.{IsPartOf, IsAllOf}
use Rattle.run_outcome.specs.Binding.{Files, bound_state, AreNamed, Binds}
use Rattle.run_outcome.proofs.LibraryRunLaws.{ReadsLibrary, told, library_runs, unbound_runs}
use Rattle.library_translation.specs.Library.{outcome_at, translate_outcome}
use Rattle.library_translation.specs.Runs.{translate_files, translate_of, RunsTranslation}
use Rattle.library_translation.specs.Models.{HoldsModels}
use Rattle.library_translation.proofs.ModelsLemmas.{no_model_owed}
use Rattle.library_reader.proofs.Claims.{OnOk-err}

-- Files bound one after another, up to the first call that fails.

-- a call that fails after the first of the files were bound
pub binds_stopped : {T : Type 0} (old new : DeskState) (bound others : Files) (bytes : InSlot → List ℕ) (r : Result T Failed)
    → IsErr r → bound ++ others ≡ translate_files → new ≡ bound_state old bound bytes → AreNamed old bound bytes
    → Binds translate_files old new r
binds_stopped old new bound others bytes r e p h f =
    record { bound = bound; bytes = bytes; state = h; planned = (others, p); named = f; whole = OnOk-err r _ e }

-- a call that binds the last file
pub binds_last : {T : Type 0} (old now new : DeskState) (bytes : List ℕ) (r : Result T Failed)
    → now ≡ created (opened old Library bytes) VerilogText → IsFileAt old 1 bytes → OnOk r (new ≡ created now VitalText)
    → OnErr r (new ≡ now) → Binds translate_files old new r
binds_last old now new bytes (Ok x) h f ok err = record {
  bound = translate_files;
  bytes = λ _. bytes;
  state = ok ∙ ap (λ s. created s VitalText) h;
  planned = ([], refl);
  named = (f, (tt, (tt, tt)));
  whole = refl;
}
binds_last old now new bytes (Err y) h f ok err = record {
  bound = (Input Library, 1) ∷ (Output VerilogText, 2) ∷ [];
  bytes = λ _. bytes;
  state = err ∙ h;
  planned = ((Output VitalText, 3) ∷ [], refl);
  named = (f, (tt, tt));
  whole = tt;
}

-- the library is bound then, and the file for Verilog text
pub library_bound : (old now : DeskState) (bytes : InSlot → List ℕ) → now ≡ bound_state old translate_files bytes
    → IsTrue (is_bound now (Input Library))
unfolding opened created
library_bound old now bytes e = rw e refl

pub verilog_bound : (old now : DeskState) (bytes : InSlot → List ℕ) → now ≡ bound_state old translate_files bytes
    → IsTrue (is_bound now (Output VerilogText))
unfolding opened created
verilog_bound old now bytes e = rw e refl

-- and the file for VHDL text
pub vital_bound : (old now : DeskState) (bytes : InSlot → List ℕ) → now ≡ bound_state old translate_files bytes
    → IsTrue (is_bound now (Output VitalText))
unfolding opened created
vital_bound old now bytes e = rw e refl

-- the library is the file that is read
reads_library : ReadsLibrary translate_files ((Output VerilogText, 2) ∷ (Output VitalText, 3) ∷ [])
unfolding opened created
reads_library = (refl, λ old bytes. refl)

-- every translation binds all three
binds_all : (all : List ℕ) → translate_files ≡ take (translate_outcome all).binds translate_files
unfolding outcome_at
binds_all all = refl

-- How the run stands where a file could not be bound, and where all were.

-- a file could not be bound
pub unbound : (old new : DeskState) {T : Type 0} (r : Result T Failed) → Binds translate_files old new r
    → RunsTranslation old new Outside
unfolding unbound_runs
unbound old new r b =
    record {
      run = unbound_runs translate_files (translate_of old.words) old new r b;
      models =
          λ folder _. no_model_owed _ nothing_written;
    }

-- all were bound, and the library was translated or not
pub translated_runs : (old now new : DeskState) (bytes : InSlot → List ℕ) (result : Status) (taken : ℕ) (text : Written)
    (faults : List ℕ)
    → now ≡ bound_state old translate_files bytes → AreNamed old translate_files bytes
    → IfSome (now.left Library) (λ all. HoldsModels all taken text)
    → new ≡ wrote (wrote_all (took now Library taken) text) Faults faults
    → IfSome (now.left Library) (λ all. IsPartOf text faults (translate_outcome all))
    → (IsTrue (is_decided result) → IfSome (now.left Library) (λ all. IsAllOf result text faults (translate_outcome all)))
    → RunsTranslation old new result
unfolding library_runs
translated_runs old now new bytes result taken text faults h f models state part whole =
    let run = library_runs translate_files _ translate_outcome old now new bytes result taken text faults reads_library binds_all
    h f state part whole in
    record {
      run = run;
      models = λ folder tells. told translate_files _ (λ all. HoldsModels all taken text) old now folder bytes
          reads_library h f tells models;
    }
