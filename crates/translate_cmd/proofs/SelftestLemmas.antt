-- A run on test cells is done, a call failed, or there was no memory.
use Rattle.std.proofs.Common.{◌≡◌, ℕ, [], inl, inr, ap, ◌∙◌}
use Rattle.text_io.specs.Desk.{DeskState, Folder}
use Rattle.run_outcome.specs.declared.status.Status.{Status}
use Rattle.run_outcome.specs.Binding.{Tells}
use Rattle.command_words.specs.declared.commands.Command.{Command}
use Rattle.command_words.specs.declared.commands.Command.TheVariants as command
use Rattle.command_words.specs.Reading.{reading}
use Rattle.translate_cmd.specs.Outcome.{files_of, outcome_of}
use Rattle.translate_cmd.specs.Runs.{Runs}
use Rattle.translate_cmd.specs.Selftests.{SelftestsEnd}
use Rattle.translate_cmd.proofs.CompleteLemmas.{decided_or}

nothing_there : Folder
nothing_there = []

selftest_tells : (old : DeskState) (cells : ℕ) (asked : Command) → asked ≡ command.Selftest cells
    → Tells (files_of asked) old nothing_there
selftest_tells old cells asked e = rw e tt

pub selftests_end : (old new : DeskState) (result : Status) → Runs old new result → SelftestsEnd old result
selftests_end old new result r cells e =
    elim (decided_or result) [
      | inl outside ↦ inr (inl outside)
      | inr (inl memory) ↦ inr (inr memory)
      | inr (inr decided) ↦ inl (
          (r.run.whole decided nothing_there (selftest_tells old cells (reading old.words) e)).same_status
          ∙ ap (λ (asked : Command). (outcome_of asked old.words nothing_there).status) e
          )
    ]
