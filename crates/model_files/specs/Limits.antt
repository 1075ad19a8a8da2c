-- How many bytes the files of a run may have. This project's rules.
use Rattle.std.specs.Prelude.{ℕ}

-- the most bytes that a file of models may have
abbrev pub model_limit : ℕ
model_limit = 67108864

-- the most bytes that a stimulus may have
abbrev pub stimulus_limit : ℕ
stimulus_limit = 16777216
