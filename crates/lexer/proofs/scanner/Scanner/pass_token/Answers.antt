use Rattle.std.proofs.Common.{◌+◌, arith}
use Rattle.lexer.proofs.Turns.{behind_token, inside_more}
use Rattle.lexer.proofs.scanner.Scanner.pass_token.Goals as goal

pub returns-clause-goes_on : goal.returns-clause-goes_on
returns-clause-goes_on g c =
    let e = behind_token g.L.Lexicon.lexis c.args.text.now c.args.tokens.now.items (g.L.TokenState.flag c.args.self.now.before) c.args.at c.args.count
    c.requires.here c.requires.alone c.requires.token c.requires.some in
    rw (c.push_reserved.ensures.items, c.new-token.ensures, c.after-self.ensures, c.split_at.ensures.back) e

pub returns-clause-inside : goal.returns-clause-inside
returns-clause-inside g c =
    let i = inside_more c.args.text.now c.args.tokens.now.items (record { at = c.args.at; end = c.args.at + c.args.count })
    c.requires.inside (omega arith) c.requires.here in
    rw (c.push_reserved.ensures.items, c.new-token.ensures) i
