use Rattle.std.proofs.Common.{Err}
use Rattle.bool_functions.specs.declared.faults.FunctionFault.TheVariants.{Memory}
use Rattle.bool_functions.specs.FunctionText.{OrMemoryFree}
use Rattle.bool_functions.proofs.Readings.{holds_or, own_tree_clause, own_only_clause, own_fault_clause, own_bound_clause}
use Rattle.bool_functions.proofs.texts.read_free.Goals as goal

exact : (c : goal.After-unwrap_or) → OrMemoryFree c.unwrap_or.result c.args.text.now
exact c = holds_or (λ r. OrMemoryFree r c.args.text.now) c.read_own.result (Err Memory) c.unwrap_or.result c.unwrap_or.ensures c.read_own.ensures tt

pub returns-clause-tree : goal.returns-clause-tree
returns-clause-tree c = own_tree_clause c.args.text.now c.unwrap_or.result (exact c)

pub returns-clause-only : goal.returns-clause-only
returns-clause-only c = own_only_clause c.args.text.now c.unwrap_or.result (exact c)

pub returns-clause-fault : goal.returns-clause-fault
returns-clause-fault c = own_fault_clause c.args.text.now c.unwrap_or.result (exact c)

pub returns-clause-bound : goal.returns-clause-bound
returns-clause-bound c = own_bound_clause c.args.text.now c.unwrap_or.result (exact c)
