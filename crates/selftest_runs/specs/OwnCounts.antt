-- What is counted of the library that a run makes for itself. This project's rules.
use Rattle.std.specs.Prelude.{ℕ}
use Rattle.selftest_cells.specs.Library.{library_text}
use Rattle.selftest_runs.specs.declared.counts.Counts.{Counts}
use Rattle.selftest_runs.specs.LibraryCounts.{library_counts}

-- what is counted of the first so many cells
unfoldable pub own_counts : ℕ → Counts
own_counts cells = library_counts (library_text cells)
