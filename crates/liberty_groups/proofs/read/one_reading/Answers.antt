use Rattle.liberty_groups.proofs.Exactly.{reads_so, found_one, ends_one}
use Rattle.liberty_groups.specs.Answer.{found_of_bytes, end_of_bytes}
use Rattle.liberty_groups.proofs.read.one_reading.Goals as goal

pub returns : goal.returns
returns c =
    let bytes = c.args.bytes.now in
    let is_whole = c.args.whole in record {
      found = found_of_bytes bytes;
      end = end_of_bytes bytes is_whole;
      is_reading = reads_so bytes is_whole;
      same_found = λ f e r. found_one bytes is_whole f e r;
      same_end = λ f e r. ends_one bytes is_whole f e r;
    }
