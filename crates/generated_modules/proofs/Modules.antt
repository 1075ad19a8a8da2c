-- The module of a cell is well formed.
use Rattle.std.proofs.Common.{◌≡◌, ℕ, zero, suc, ◌+◌, ◌^◌, ◌<◌, ◌≤◌, Bool, true, false, List, [], ◌∷◌, ◌++◌, length, map, take}
use Rattle.std.proofs.Common.{refl, sym, ap, ◌∙◌, arith, codes, get_or, nat_lt, nat_le, slice_get, Some, if◌then◌else◌}
use Rattle.std.specs.Prelude.{All}
use Rattle.std.specs.Option.{option_map_or}
use Rattle.std.proofs.lemmas.Bool.{and_parts, ltb-true, leb-true}
use Rattle.std.proofs.lemmas.List.Elements.{All-nil, All-cons, All-append, All-map}
use Rattle.std.proofs.lemmas.List.Sums.{count_by-le-length}
use Rattle.std.proofs.lemmas.Option.{slice_get-get_or}
use Rattle.bool_functions.specs.declared.tree.Node.{Node}
use Rattle.bool_functions.specs.declared.tree.Node.TheVariants as node
use Rattle.bool_functions.specs.Support.{support_of}
use Rattle.cell_machine.specs.declared.outputs.OutputPin.{OutputPin}
use Rattle.cell_machine.specs.declared.checks.Check.{Check}
use Rattle.cell_machine.specs.declared.arcs.Arc.{Arc}
use Rattle.cell_machine.specs.CellRules.{is_output_of, is_check, is_arc}
use Rattle.cell_machine.specs.CellData.{CellData}
use Rattle.cell_machine.specs.CellTrace.{sources_at, output_value_at}
use Rattle.cell_machine.specs.Outputs.{condition_at}
use Rattle.cell_machine.proofs.OutputFacts.{all-at}
use Rattle.cell_machine.proofs.RuleLemmas.{rules_of}
use Rattle.udp_tables.specs.declared.table.Udp.{Udp}
use Rattle.udp_tables.specs.Conditions.{conditions_of}
use Rattle.udp_tables.specs.Edges.{each_below}
use Rattle.udp_tables.specs.CellPrimitives.{primitive_name, condition_number, condition_tree, condition_primitive}
use Rattle.udp_tables.specs.CellPrimitives.{group_primitive, has_sources, output_number, output_primitive}
use Rattle.verilog_grammar.specs.specify_blocks.Names.{module_name}
use Rattle.verilog_grammar.specs.specify_blocks.Generated.{condition_count, output_primitives, group_primitives}
use Rattle.verilog_grammar.specs.specify_blocks.Generated.{condition_primitives}
use Rattle.verilog_grammar.specs.specify_blocks.Generated.{primitives_of, path_of, check_of, module_of}
use Rattle.udp_tables.specs.declared.timing_checks.TimingCheck.{TimingCheck}
use Rattle.verilog_grammar.specs.WellFormed.{IsName, IsNumber, HasNumbers, IsWellFormedUdp, IsWellFormedModule}
use Rattle.verilog_grammar.proofs.specify_blocks.Soundness.{module_is_sound}
use Rattle.generated_modules.specs.Cells.{IsNumberedCell}
use Rattle.generated_modules.specs.Laws.{ModuleIsWellFormed}
use Rattle.generated_modules.proofs.NumberedNames.{cell_stem}
use Rattle.generated_modules.proofs.GivenNames.{given_is_name}
use Rattle.generated_modules.proofs.InnerNames.{inner_are_named}
use Rattle.generated_modules.proofs.PrimitiveNames.{primitive_is_name, primitive_count}
use Rattle.generated_modules.proofs.Primitives.{function_well_formed, group_well_formed}
use Rattle.generated_modules.proofs.Conditions.{condition_placed, few_conditions}
use Rattle.verilog_grammar.proofs.specify_blocks.cell_tables.OutputLemmas.{among-at}
use Rattle.verilog_grammar.proofs.specify_blocks.cell_tables.CellParts.{Rules, outputs_hold, checks_hold, arcs_hold}
use Rattle.generated_modules.proofs.CellParts.{few_pins, distinct_pins, few_groups, group_support, few_sources, few_outputs}
use Rattle.generated_modules.proofs.CellParts.{few_checks, few_arcs, arc_numbers, check_number}

-- one for each number below another
below_all : (P : Udp → Type 0) (f : ℕ → Udp) (n : ℕ) → ((i : ℕ) → i < n → P (f i)) → All P (each_below (λ i. f i ∷ []) n)
below_all P f zero h = All-nil P
below_all P f (suc n) h =
    All-append P (each_below (λ i. f i ∷ []) n) (f n ∷ []) (below_all P f n (λ i k. h i (omega arith)))
    (All-cons P (f n) [] (h n (omega arith)) (All-nil P))

module _ (cell : CellData) (h : IsNumberedCell cell) where
  rules : Rules cell
  rules = rules_of cell.name cell.pins cell.groups cell.outputs cell.checks cell.arcs h.rules

  conditions_few : condition_count cell ≤ 2000000
  conditions_few = few_conditions cell (few_checks cell rules) (few_arcs cell rules)

  pub primitives_few : primitive_count cell < 2 ^ 64
  primitives_few =
      let groups = few_groups cell rules in
      let conditions = conditions_few in
      let outputs = few_outputs cell rules in
      let counted = count_by-le-length has_sources cell.outputs in
      omega (arith, groups, conditions, outputs, counted)

  groups_well_formed : All IsWellFormedUdp (group_primitives cell)
  groups_well_formed =
      below_all IsWellFormedUdp (group_primitive cell) (length cell.groups)
      (λ g within.
      let support = group_support cell rules g within in
      let groups = few_groups cell rules in
      group_well_formed cell g (primitive_is_name cell.number (g + 1) h.number (omega (arith, groups, within))) support.least
      support.most)

  conditions_well_formed : All IsWellFormedUdp (condition_primitives cell)
  conditions_well_formed =
      below_all IsWellFormedUdp (condition_primitive cell) (condition_count cell)
      (λ i within.
      let f : Node = condition_tree cell i in
      let groups = few_groups cell rules in
      let conditions = conditions_few in
      let places = condition_placed cell (checks_hold cell rules) (arcs_hold cell rules) f
      (among-at (conditions_of cell) i f (slice_get-get_or (conditions_of cell) i node.Zero within)) in
      let parts = and_parts (nat_lt 0 (length (support_of f))) (nat_le (length (support_of f)) 10) places in
      let some : 0 < length (support_of f) = ltb-true 0 (length (support_of f)) parts.0 in
      function_well_formed (primitive_name cell.number (condition_number cell i)) (length (support_of f))
      (condition_at (support_of f) f)
      (primitive_is_name cell.number (condition_number cell i) h.number (omega (arith, groups, conditions, within)))
      (omega (arith, some)) (leb-true (length (support_of f)) 10 parts.1))

  output_small : (i : ℕ) → output_number cell i < 2 ^ 64
  output_small i =
      let groups = few_groups cell rules in
      let conditions = conditions_few in
      let outputs = few_outputs cell rules in
      let counted = count_by-le-length has_sources (take i cell.outputs) in
      let taken : length (take i cell.outputs) ≤ length cell.outputs = take_short i cell.outputs in
      omega (arith, groups, conditions, outputs, counted, taken)
    where
      take_short : (n : ℕ) (xs : List OutputPin) → length (take n xs) ≤ length xs
      take_short zero xs = omega arith
      take_short (suc n) [] = omega arith
      take_short (suc n) (x ∷ xs) = let rest = take_short n xs in omega (arith, rest)

  -- these outputs stand in the cell from i on
  abbrev Stand : ℕ → List OutputPin → Type 0
  Stand i outputs = (n : ℕ) → slice_get outputs n ≡ slice_get cell.outputs (i + n)

  outputs_well_formed : (i : ℕ) (outputs : List OutputPin) → Stand i outputs
      → All IsWellFormedUdp (output_primitives cell i outputs)
  outputs_well_formed i [] at = All-nil IsWellFormedUdp
  outputs_well_formed i (output ∷ outputs) at =
      by (has_sources output) refl
      (outputs_well_formed (i + 1) outputs
      (λ n. let moved : i + suc n ≡ (i + 1) + n = omega arith in at (suc n) ∙ ap (slice_get cell.outputs) moved))
    where
      here : slice_get cell.outputs i ≡ Some output
      here = let same : i ≡ i + 0 = omega arith in ap (slice_get cell.outputs) same ∙ sym (at 0)

      sources : sources_at cell i ≡ output.support
      sources = ap (λ o. option_map_or (λ (x : OutputPin). x.support) o []) here

      by :
          (b : Bool) → has_sources output ≡ b → All IsWellFormedUdp (output_primitives cell (i + 1) outputs)
          → All IsWellFormedUdp (if b then output_primitive cell i ∷ output_primitives cell (i + 1) outputs
          else output_primitives cell (i + 1) outputs)
      by true e rest =
          let some : 0 < length output.support = ltb-true 0 (length output.support) e in
          let rule = all-at (is_output_of cell.pins cell.groups) cell.outputs i output (outputs_hold cell rules) here in
          let few = few_sources cell.pins cell.groups output rule in
          let long : length (sources_at cell i) ≡ length output.support = ap length sources in
          All-cons IsWellFormedUdp (output_primitive cell i) (output_primitives cell (i + 1) outputs)
          (function_well_formed (primitive_name cell.number (output_number cell i)) (length (sources_at cell i))
          (output_value_at cell i)
          (primitive_is_name cell.number (output_number cell i) h.number (output_small i)) (omega (arith, long, some))
          (omega (arith, long, few)))
          rest
      by false e rest = rest

  primitives_well_formed : All IsWellFormedUdp (primitives_of cell)
  primitives_well_formed =
      All-append IsWellFormedUdp (group_primitives cell) (condition_primitives cell ++ output_primitives cell 0 cell.outputs)
      groups_well_formed
      (All-append IsWellFormedUdp (condition_primitives cell) (output_primitives cell 0 cell.outputs) conditions_well_formed
      (outputs_well_formed 0 cell.outputs
      (λ n. let same : n ≡ 0 + n = omega arith in ap (slice_get cell.outputs) same)))

  paths_have_numbers : All HasNumbers (map (path_of cell) cell.arcs)
  paths_have_numbers =
      All-map HasNumbers (path_of cell) cell.arcs
      (λ k d within.
      let arc : Arc = get_or cell.arcs k d in
      let rule = all-at (is_arc cell.pins) cell.arcs k arc (arcs_hold cell rules) (slice_get-get_or cell.arcs k d within) in
      let numbers = arc_numbers cell.pins arc rule in
      record { rise = numbers.0; fall = numbers.1 })

  checks_have_numbers : All (λ (k : TimingCheck). IsNumber k.limit) (map (check_of cell) cell.checks)
  checks_have_numbers =
      All-map (λ (k : TimingCheck). IsNumber k.limit) (check_of cell) cell.checks
      (λ i d within.
      let k : Check = get_or cell.checks i d in
      check_number cell.pins k (all-at (is_check cell.pins) cell.checks i k (checks_hold cell rules)
      (slice_get-get_or cell.checks i d within)))

  pub name_is_one : IsName (module_name cell.number cell.name)
  name_is_one = given_is_name (codes "cell") cell_stem cell.number cell.name h.number

  pub module_well_formed : IsWellFormedModule (module_of cell)
  module_well_formed =
      let pins = few_pins cell rules in
      let groups = few_groups cell rules in
      let conditions = conditions_few in
      let inner = inner_are_named cell (distinct_pins cell rules) pins (omega (arith, groups)) (omega (arith, conditions)) in
      record {
        name = name_is_one;
        inner = inner.all;
        apart = inner.apart;
        udps = primitives_well_formed;
        sound = module_is_sound cell rules;
        paths = paths_have_numbers;
        checks = checks_have_numbers;
      }

pub module-well-formed : ModuleIsWellFormed
module-well-formed cell h = module_well_formed cell h
