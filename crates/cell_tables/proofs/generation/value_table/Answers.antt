use Rattle.std.proofs.Common.{◌≡◌, ◌^◌, length, ap, ◌∙◌, arith}
use Rattle.udp_tables.specs.Generated.{numbers_below}
use Rattle.cell_tables.proofs.GenerationLemmas.{numbers_below-contains, length-numbers_below}
use Rattle.cell_tables.proofs.generation.value_table.Goals as goal

pub table-requires-clause-few : goal.table-requires-clause-few
table-requires-clause-few c =
    let long : length c.deref.result.now ≡ c.args.names = ap length (c.deref.ensures.value ∙ c.in_ok-places.ensures) ∙ length-numbers_below c.args.names in
    omega (arith, long, c.requires.few)

pub table-requires-clause-inside : goal.table-requires-clause-inside
table-requires-clause-inside c = λ i h.
    let is : c.deref.result.now ≡ numbers_below c.args.names = c.deref.ensures.value ∙ c.in_ok-places.ensures in
    rw is (numbers_below-contains c.args.names i (c.requires.numbered i h))

pub returns-clause-entries : goal.returns-clause-entries
returns-clause-entries c =
    c.in_ok-values.ensures.len ∙ ap (λ places. 2 ^ length places) (c.deref.ensures.value ∙ c.in_ok-places.ensures) ∙ ap (λ n. 2 ^ n) (length-numbers_below c.args.names)
