-- The cells that are kept of a library keep the rules of cells.
use Rattle.std.proofs.Common.{ℕ, List, [], ◌∷◌, sym, subst}
use Rattle.std.specs.Prelude.{All}
use Rattle.std.specs.List.{AllByRecursion}
use Rattle.std.proofs.lemmas.List.Elements.{All-from_recursion}
use Rattle.written_driven_models.specs.three_state_cells.DrivenCells.{DrivenData}
use Rattle.written_driven_models.specs.Library.{IsNumberedDriven}
use Rattle.library_simulation.specs.library_reader.LibraryCells.{CellEntry, Accepted, Refused}
use Rattle.library_simulation.specs.Generated.{KeepsRules}
use Rattle.translate_cmd.proofs.AcceptedCells.{all_numbered}
use Rattle.translate_cmd.proofs.KeptCells.{accepted_of, cells_of, are_accepted}

keep_rules : (cells : List CellEntry) → AllByRecursion IsNumberedDriven (accepted_of cells) → AllByRecursion KeepsRules cells
keep_rules [] h = tt
keep_rules (Accepted cell entity ∷ cells) h = (record { core = h.0.core.rules; driver = h.0.driver }, keep_rules cells h.1)
keep_rules (Refused name refusal ∷ cells) h = (tt, keep_rules cells h)

pub kept_rules : (library : List ℕ) → All KeepsRules (cells_of library)
kept_rules library =
    All-from_recursion KeepsRules (cells_of library)
    (keep_rules (cells_of library) (subst (λ (cells : List DrivenData). AllByRecursion IsNumberedDriven cells)
    (sym (are_accepted library)) (all_numbered library)))
