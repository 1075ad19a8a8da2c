-- What callers see of a desk in front of another one. This project's rule.
use Rattle.std.specs.Prelude.{ℕ}
use Rattle.text_io.specs.declared.gate.GatedDesk.{GatedDesk}

-- the desk to which calls are handed on
abbrev pub behind : {D : Type 0} → GatedDesk D → D
behind gate = gate.desk

-- how many calls failed or were refused, up to 2^64 - 1
abbrev pub failures : {D : Type 0} → GatedDesk D → ℕ
failures gate = gate.failures
