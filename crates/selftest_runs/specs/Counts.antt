-- What a run on the test cells counts. This project's rules.
use Rattle.std.specs.Prelude.{ℕ, ◌+◌, Bool, not, List, [], ◌∷◌, count_by, sum_by, if◌then◌else◌}
use Rattle.trit_cubes.specs.Filling.{is_unknown}
use Rattle.cell_machine.specs.Lines.{Line}
use Rattle.selftest_runs.specs.declared.counts.Counts.{Counts}

abbrev pub no_counts : Counts
no_counts = record { known = 0; verilog = 0; vital = 0 }

-- those of two parts together
abbrev pub plus : Counts → Counts → Counts
plus a b = record { known = a.known + b.known; verilog = a.verilog + b.verilog; vital = a.vital + b.vital }

-- how many output values of a line are 0 or 1
abbrev pub known_values : Line → ℕ
known_values line = count_by (λ v. not (is_unknown v)) line.values

-- how many output values after the changes of a trace are 0 or 1; its first line is that of the start
abbrev pub known_in : List Line → ℕ
known_in [] = 0
known_in (start ∷ lines) = sum_by known_values lines

abbrev pub one_if : Bool → ℕ
one_if b = if b then 1 else 0
