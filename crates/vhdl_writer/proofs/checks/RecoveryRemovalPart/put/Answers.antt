use Rattle.vhdl_writer.specs.Statements.{recovery_removal_text}
use Rattle.vhdl_writer.proofs.checks.RecoveryRemovalPart.put.Goals as goal

pub returns-clause-text : goal.returns-clause-text
unfolding recovery_removal_text
returns-clause-text g c =
    let active = rw c.by_edge-active.ensures at c.put.ensures.text in
    let test = rw c.test_of-test.ensures at active in
    rw (← c.recovery_word.ensures) test
