use Rattle.std.proofs.Common.{◌≡◌, ◌∙◌, ◌++◌, suc, sym, ap, take, drop, map}
use Rattle.std.proofs.lemmas.List.{map-append}
use Rattle.cell_machine.specs.Inputs.{input_number}
use Rattle.cell_machine.proofs.Tables.{without_parts, drop_more_one, tail_all}
use Rattle.cell_machine.proofs.group_tables.other_inputs.Goals as goal

pub returns : goal.returns
returns c =
    let pins = c.args.pins.now in
    let support = c.args.support.now in
    let behind : c.split_at.result.1.now ≡ drop c.args.place support = c.split_at.ensures.back in
    let tail = tail_all c.split_at.result.1.now ∙ ap (drop 1) behind ∙ drop_more_one c.args.place support in
    let numbers = map (input_number pins) in
    let front : c.split_at.result.0.now ≡ take c.args.place support = c.split_at.ensures.front in
    c.in_ok-add_numbers-2.ensures
    ∙ (λ i. c.in_ok-add_numbers.ensures i ++ numbers (tail i))
    ∙ (λ i. (c.new-others.ensures i ++ numbers (front i)) ++ numbers (drop (suc c.args.place) support))
    ∙ sym (map-append (input_number pins) (take c.args.place support) (drop (suc c.args.place) support))
    ∙ ap numbers (sym (without_parts c.args.place support))
