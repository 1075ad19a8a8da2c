use Rattle.std.proofs.Common.{◌∷◌, Ok, ap, sym, ◌∙◌}
use Rattle.verilog_grammar.specs.VerilogModules.{may_feed, feeding_terminal}
use Rattle.verilog_reader.proofs.SameTerminals.{taken, fits}
use Rattle.verilog_reader.proofs.connections.FedInstance.feeding_terminal.Goals as goal

pub returns-then-has-clause-reads : goal.returns-then-has-clause-reads
unfolding feeding_terminal
returns-then-has-clause-reads c =
    taken c.args.self.now.model.now (may_feed c.args.self.now.model.now c.args.self.now.sequential) c.args.before.now.names (c.args.self.now.output ∷ c.args.before.now.items) c.args.cursor.now c.in-Some.net
    c.bytes-token.result.now c.bytes-token.ensures c.requires (sym c.is_name.ensures ∙ c.if-not-is_name.false) (sym c.net_of.ensures ∙ c.in-Some.is)
    (sym c.may_feed.ensures ∙ c.if-not-may_feed.false) (sym c.has.ensures ∙ c.if-has.true)

pub returns-clause-reads : goal.returns-clause-reads
unfolding feeding_terminal
returns-clause-reads c =
    fits c.args.self.now.model.now (may_feed c.args.self.now.model.now c.args.self.now.sequential) c.args.before.now.names (c.args.self.now.output ∷ c.args.before.now.items) c.args.cursor.now c.in-Some.net
    c.bytes-token.result.now c.bytes-token.ensures c.requires (sym c.is_name.ensures ∙ c.if-not-is_name.false) (sym c.net_of.ensures ∙ c.in-Some.is)
    (sym c.may_feed.ensures ∙ c.if-not-may_feed.false) (sym c.has.ensures ∙ c.if-has.false)
    ∙ ap (λ left. Ok (c.in-Some.net, left)) (sym c.skip.ensures)
