-- The library that a run makes for itself, counted.
use Rattle.std.proofs.Common.{◌≡◌, ℕ, List, IsTrue, Result, IfOk, IfSome, refl, sym, ap, subst}
use Rattle.text_io.specs.declared.slots.InSlot.TheVariants.{Library}
use Rattle.text_io.specs.declared.slots.Slot.TheVariants.{Input}
use Rattle.text_io.specs.Desk.{DeskState, is_bound}
use Rattle.text_io.specs.declared.stop.Stop.{Stop}
use Rattle.selftest_cells.specs.Library.{library_text}
use Rattle.selftest_cells.specs.Reading.{reads_library}
use Rattle.selftest_runs.specs.declared.counts.Counts.{Counts}
use Rattle.selftest_runs.specs.LibraryCounts.{library_counts, CountsCells}
use Rattle.selftest_runs.specs.OwnCounts.{own_counts}

-- it is bound
pub library_bound : (s : DeskState) (bytes : List ℕ) → s ≡ reads_library bytes → IsTrue (is_bound s (Input Library))
unfolding reads_library
library_bound s bytes e = subst (λ t. IsTrue (is_bound t (Input Library))) (sym e) refl

-- what is counted of it
pub own_counted : (cells : ℕ) (s next : DeskState) (r : Result Counts Stop) → s ≡ reads_library (library_text cells)
    → CountsCells s next r → IfOk r (λ counts. counts ≡ own_counts cells)
unfolding reads_library own_counts
own_counted cells s next r e w =
    subst (λ left. IfOk r (λ counts. IfSome left (λ bytes. counts ≡ library_counts bytes))) (ap (λ t. t.left Library) e) w.counts
