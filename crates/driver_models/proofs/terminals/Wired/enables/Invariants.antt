use Rattle.std.proofs.Common.{◌≡◌, ◌+◌, ◌-◌}
use Rattle.grammar_rules.specs.Reading.{read}
use Rattle.driver_models.specs.Terminals.{more_enables}
use Rattle.driver_models.proofs.terminals.Wired.enables.Given as goal

abbrev pub invariant-loop-i : goal.invariant-loop-i
invariant-loop-i g l =
    read (more_enables g.L.Spelling.Language.is_name g.L.Spelling.Language.is_same g.L.DriverLanguage.value g.L.DriverLanguage.enable l.self.count l.ready (l.i + 1) (l.self.count - l.i)) l.cursor
    ≡ read (more_enables g.L.Spelling.Language.is_name g.L.Spelling.Language.is_same g.L.DriverLanguage.value g.L.DriverLanguage.enable l.self.count l.ready 1 l.self.count) l.initial.cursor
