use Rattle.std.proofs.Common.{◌≡◌, ◌++◌, drop}
use Rattle.wave_reports.specs.Definitions.{signals_text}
use Rattle.wave_reports.proofs.definitions.push_signals.Given as goal

-- the text so far, with the declarations from here on, is the text with all declarations
abbrev pub invariant-loop-place : goal.invariant-loop-place
invariant-loop-place l = l.text.items ++ signals_text l.section l.scope (drop l.place l.keys) ≡ l.fn.text.items ++ signals_text l.section l.scope l.keys
