use Rattle.std.proofs.Common.{Err}
use Rattle.bool_functions.specs.declared.faults.FunctionFault.TheVariants.{Memory}
use Rattle.bool_functions.specs.FunctionText.{OrMemory, reading_of}
use Rattle.bool_functions.proofs.Readings.{holds_or, tree_clause, only_clause, fault_clause, bound_clause}
use Rattle.bool_functions.proofs.texts.read_function.Goals as goal

exact : (c : goal.After-unwrap_or) → OrMemory c.unwrap_or.result (reading_of c.args.names.now c.args.text.now)
exact c = holds_or (λ r. OrMemory r (reading_of c.args.names.now c.args.text.now)) c.read_over.result (Err Memory) c.unwrap_or.result c.unwrap_or.ensures c.read_over.ensures tt

pub returns-clause-tree : goal.returns-clause-tree
returns-clause-tree c = tree_clause c.args.names.now c.args.text.now c.unwrap_or.result (exact c)

pub returns-clause-only : goal.returns-clause-only
returns-clause-only c = only_clause c.args.names.now c.args.text.now c.unwrap_or.result (exact c)

pub returns-clause-fault : goal.returns-clause-fault
returns-clause-fault c = fault_clause c.args.names.now c.args.text.now c.unwrap_or.result (exact c)

pub returns-clause-bound : goal.returns-clause-bound
returns-clause-bound c = bound_clause c.args.names.now c.args.text.now c.unwrap_or.result (exact c)
