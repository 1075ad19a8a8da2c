use Rattle.std.proofs.Common.{◌≡◌, drop, map}
use Rattle.grammar_rules.specs.Reading.{read}
use Rattle.vhdl_grammar.specs.VhdlRules.{expect_all}
use Rattle.vhdl_grammar.proofs.words.expect_all.Given as goal

abbrev pub invariant-loop-text : goal.invariant-loop-text
invariant-loop-text l =
    read (expect_all (map (λ text. text.now) (drop l.text-index l.texts))) l.cursor ≡ read (expect_all (map (λ text. text.now) l.texts)) l.initial.cursor
