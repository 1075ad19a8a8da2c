use Rattle.vhdl_writer.specs.Tables.{constants_text}
use Rattle.vhdl_writer.specs.Declarations.{variables_text}
use Rattle.vhdl_writer.specs.Statements.{reports_text}
use Rattle.vhdl_writer.specs.Entity.{statements_text, entity_text}
use Rattle.vhdl_writer.proofs.entity.write_entity.Goals as goal

pub returns-clause-text : goal.returns-clause-text
unfolding entity_text constants_text variables_text statements_text reports_text
returns-clause-text g c =
    rw (c.violation_variable.ensures, c.end_text.ensures, c.as_slice-checks.ensures, c.as_slice-states.ensures, c.as_slice-conditions.ensures, c.as_slice-outputs.ensures) at c.write_part.ensures.text
