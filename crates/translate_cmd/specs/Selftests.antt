-- How a run on test cells ends. This project's promise.
use Rattle.std.specs.Prelude.{◌≡◌, ◌⊎◌, ℕ}
use Rattle.text_io.specs.Desk.{DeskState}
use Rattle.run_outcome.specs.declared.status.Status.{Status}
use Rattle.run_outcome.specs.declared.status.Status.TheVariants.{Done, Outside, Memory}
use Rattle.command_words.specs.declared.commands.Command.TheVariants as command
use Rattle.command_words.specs.Reading.{reading}

-- where the words ask for one, it is done, a call failed, or there was no memory
abbrev pub SelftestsEnd : DeskState → Status → Type 0
SelftestsEnd old result = (cells : ℕ) → reading old.words ≡ command.Selftest cells → (result ≡ Done)
    ⊎ ((result ≡ Outside) ⊎ (result ≡ Memory))
