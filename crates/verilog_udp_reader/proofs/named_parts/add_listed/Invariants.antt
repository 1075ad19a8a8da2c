use Rattle.std.proofs.Common.{◌≡◌, ◌-◌, codes}
use Rattle.std.specs.Str.{bytes_eq}
use Rattle.grammar_rules.specs.Reading.{repeat}
use Rattle.grammar_reader.specs.Words.{begins}
use Rattle.verilog_udp_reader.proofs.named_parts.add_listed.Given as goal

abbrev pub invariant-loop-turn : goal.invariant-loop-turn
invariant-loop-turn g l = record {
  reads : repeat (λ _. begins bytes_eq (codes ",")) (λ u _ s. g.P.NamedPart.reading l.part u s) (l._turn-end - l._turn) l.found.items l.cursor
      ≡ repeat (λ _. begins bytes_eq (codes ",")) (λ u _ s. g.P.NamedPart.reading l.part u s) l._turn-end l.initial.found.items l.initial.cursor;
  named : g.P.NamedPart.are_named l.part l.found.names l.found.items;
}
