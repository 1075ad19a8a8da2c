use Rattle.cell_machine.specs.declared.checks.CheckKind.TheVariants as check_kind
use Rattle.verilog_writer.specs.Timing.{width_text}
use Rattle.verilog_writer.proofs.CheckKinds.{as_kind}
use Rattle.verilog_writer.proofs.checks.InModuleItemTextTimingCheck.put.Goals as goal

pub returns-in-Setup-clause-text : goal.returns-in-Setup-clause-text
returns-in-Setup-clause-text g c =
    as_kind _ _ _ _ _ c.args.self.now.0.now c.args.one.now check_kind.Setup _ c.in-Setup.is c.put.ensures.text

pub returns-in-Width-clause-text : goal.returns-in-Width-clause-text
unfolding width_text
returns-in-Width-clause-text g c =
    as_kind _ _ _ _ _ c.args.self.now.0.now c.args.one.now check_kind.Width _ c.in-Width.is c.put-in-Width.ensures.text
