-- What a run on the test cells reports (this project's format).
use Rattle.std.specs.Prelude.{ℕ, ◌*◌, List, ◌++◌, codes, decimal}
use Rattle.selftest_cells.specs.Changes.{changes_each}
use Rattle.selftest_runs.specs.declared.counts.Counts.{Counts}

-- The five lines of a run on so many cells: how many they are, how many changes they were run on, what was counted, and that
-- every cell and its undamaged models have equal traces.
unfoldable pub report_text : ℕ → Counts → List ℕ
report_text cells counts =
    codes "cells " ++ (decimal cells
    ++ (codes "\nchanges " ++ (decimal (changes_each * cells) ++ (codes "\nknown " ++ (decimal counts.known
    ++ (codes "\ncaught " ++ (decimal counts.verilog ++ (codes " " ++ (decimal counts.vital ++ codes "\nequal\n")))))))))
