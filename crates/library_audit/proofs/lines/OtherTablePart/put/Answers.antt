use Rattle.library_audit.specs.Lines.{arguments_text, values_text, difference_text}
use Rattle.library_audit.proofs.lines.OtherTablePart.put.Goals as goal

pub returns-clause-text : goal.returns-clause-text
unfolding difference_text arguments_text values_text
returns-clause-text g c =
    rw (c.known_text-of_model.ensures, c.known_text-of_cell.ensures, c.table_word.ensures) at c.put.ensures.text
