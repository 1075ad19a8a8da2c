use Rattle.std.proofs.Common.{◌≡◌, drop}
use Rattle.grammar_rules.specs.Reading.{read}
use Rattle.driver_models.specs.Terminals.{more_terminals}
use Rattle.driver_models.proofs.terminals.Wired.more_terminals.Given as goal

abbrev pub invariant-loop-port : goal.invariant-loop-port
invariant-loop-port g l =
    read (more_terminals g.L.Spelling.Language.is_name g.L.Spelling.Language.is_same g.L.DriverLanguage.value g.L.DriverLanguage.enable l.self.count (drop l.port-index l.ports) l.found) l.cursor
    ≡ read (more_terminals g.L.Spelling.Language.is_name g.L.Spelling.Language.is_same g.L.DriverLanguage.value g.L.DriverLanguage.enable l.self.count l.ports l.initial.found) l.initial.cursor
