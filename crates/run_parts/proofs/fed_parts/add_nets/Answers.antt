use Rattle.std.proofs.Common.{◌<◌, ◌≤◌, ◌||◌, ◌++◌, ◌∷◌, [], cond, take, ap, sym, ◌∙◌, length, arith}
use Rattle.std.proofs.lemmas.List.{take_all}
use Rattle.std.proofs.lemmas.List.Folds.{list_any_more}
use Rattle.run_parts.proofs.NumberedListLemmas.{same-lists}
use Rattle.run_parts.specs.FedParts.{is_number, is_among}
use Rattle.run_parts.proofs.fed_parts.add_nets.Goals as goal

pub loop-j-preserved : goal.loop-j-preserved
loop-j-preserved g c =
    let input = g.F.FedPart.input c.args.ports.now.list.now in
    let nets = c.args.nets.now in
    let inside : c.loop-j.j < length nets = omega arith in
    record {
      lists = λ lists are.
          same-lists c.add_net.new.all.items _ _
          (λ n. ap (λ b. lists n ++ cond b (c.args.place ∷ []) [])
          (ap (λ net. is_among input (take c.loop-j.j nets) n || is_number n (input net)) c.index-nets-j.is
          ∙ sym (list_any_more (λ net. is_number n (input net)) nets c.loop-j.j c.index-nets-j.result inside)))
          (c.in_ok-add_net.ensures.lists lists (c.loop-j.invariant.lists lists are));
      len = c.in_ok-add_net.ensures.len ∙ c.loop-j.invariant.len;
    }

pub returns-clause-lists : goal.returns-clause-lists
returns-clause-lists g c = λ lists are.
    let input = g.F.FedPart.input c.args.ports.now.list.now in
    let nets = c.args.nets.now in
    let past : length nets ≤ c.loop-j.j = omega arith in
    same-lists c.loop-j.all.items _ _
    (λ n. ap (λ some. lists n ++ cond (is_among input some n) (c.args.place ∷ []) []) (take_all c.loop-j.j nets past))
    (c.loop-j.invariant.lists lists are)
