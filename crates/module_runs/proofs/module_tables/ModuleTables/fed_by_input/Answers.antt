use Rattle.std.proofs.Common.{◌≤◌, List, ℕ, ◌∙◌, ap, sym, slice_get, arith}
use Rattle.model_traces.specs.PortNumbers.{input_count}
use Rattle.run_parts.proofs.PlaceLemmas.{past-end}
use Rattle.module_runs.proofs.FedLemmas.{unfed}
use Rattle.module_runs.proofs.module_tables.ModuleTables.fed_by_input.Goals as goal

pub returns-in-None : goal.returns-in-None
returns-in-None c =
    let tables = c.args.self.now in
    let fed = tables.indexed.feeding in
    let all = tables.index.now.fed.by_input in
    let none = ap (λ (xs : List (List ℕ)). slice_get xs c.args.input) (sym c.as_slice-all.ensures) ∙ sym c.in-None.ensures in
    let past : input_count tables.model.now.ports ≤ c.args.input
    = omega (arith, past-end all c.args.input none, fed.each_input) in
    sym (unfed tables.model.now.ports c.args.input tables.model.now.instances past)
