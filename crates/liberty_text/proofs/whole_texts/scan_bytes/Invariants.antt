use Rattle.std.proofs.Common.{◌≡◌, drop}
use Rattle.liberty_text.specs.Scanner.{run, scan_of, after_tokens}
use Rattle.liberty_text.proofs.whole_texts.scan_bytes.Given as goal

abbrev pub invariant-loop-at : goal.invariant-loop-at
invariant-loop-at l = after_tokens l.scanner.tokens.items (run l.scanner.mode l.at (drop l.at l.bytes)) ≡ scan_of l.bytes
