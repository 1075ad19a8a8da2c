use Rattle.std.proofs.Common.{sym, ◌∙◌}
use Rattle.driver_models.proofs.MoreEnables.{passed}
use Rattle.driver_models.proofs.terminals.Wired.enables.Goals as goal

pub loop-i-preserved : goal.loop-i-preserved
loop-i-preserved g c =
    sym (passed g.L.Spelling.Language.is_name g.L.Spelling.Language.is_same g.L.DriverLanguage.value g.L.DriverLanguage.enable c.args.self.now.count c.args.ready c.args.self.now.count
    c.loop-i.i c.loop-i.cursor c.expect.new.self c.enable_terminal.new.cursor c.in_ok-expect.field-0 c.in_ok-enable_terminal.field-0 c.loop-i-test.true
    c.in_ok-expect.ensures c.in_ok-enable_terminal.ensures)
    ∙ c.loop-i.invariant
