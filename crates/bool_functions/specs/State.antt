-- The state that a reader is in.
use Rattle.bool_functions.specs.declared.reader.Reader.{Reader}
use Rattle.bool_functions.specs.Machine.{State}

abbrev pub state_of : Reader → State
state_of r = (r.pile, r.operand)
