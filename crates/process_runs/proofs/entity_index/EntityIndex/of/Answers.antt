use Rattle.process_runs.proofs.entity_index.EntityIndex.of.Goals as goal

pub returns : goal.returns
returns c =
    record {
      tabled = c.in_ok-rows.ensures;
      numbered = rw c.as_slice.ensures at c.in_ok-numbers.ensures;
      feeding =
          record {
            each_input = rw c.as_slice-2.ensures at c.in_ok-fed.ensures.len;
            fed_by_input = rw (c.as_slice-2.ensures, c.as_slice-4.ensures) at c.in_ok-fed.ensures.lists;
          };
    }
