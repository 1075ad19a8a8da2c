-- The cells that are written whole however a translation ends.
use Rattle.std.proofs.Common.{ℕ, List, arith}
use Rattle.verilog_writer.specs.Model.{prelude_text}
use Rattle.run_outcome.specs.Written.{Written, in_verilog, joined}
use Rattle.run_outcome.proofs.WrittenLaws.{IsPart-after, IsPart-front}
use Rattle.library_reader.specs.Progress.{no_progress}
use Rattle.library_reader.specs.WrittenItems.{HoldsCells}
use Rattle.library_translation.specs.Cells.{item_written}
use Rattle.library_translation.specs.Models.{HoldsModels}

-- nothing was taken
pub no_model_owed : (bytes : List ℕ) (text : Written) → HoldsModels bytes 0 text
no_model_owed bytes text = λ e h. absurd (omega (arith, h))

-- behind the prelude
pub behind_prelude : (bytes : List ℕ) (taken : ℕ) (text : Written) → HoldsCells item_written no_progress bytes taken text
    → HoldsModels bytes taken (joined (in_verilog prelude_text) text)
behind_prelude bytes taken text held = λ e h. IsPart-after (in_verilog prelude_text) _ text (held e h)

-- with more behind them
pub with_more : (bytes : List ℕ) (taken : ℕ) (text more : Written) → HoldsModels bytes taken text
    → HoldsModels bytes taken (joined text more)
with_more bytes taken text more held = λ e h. IsPart-front _ text more (held e h)
