use Rattle.std.proofs.Common.{sym, ap, ◌∙◌}
use Rattle.std.specs.Str.{bytes_eq}
use Rattle.text_io.proofs.NamedFilesLemmas.{file_at-here}
use Rattle.text_io.proofs.named_files.find_file.Goals as goal

pub returns-then-eq-clause-first : goal.returns-then-eq-clause-first
returns-then-eq-clause-first c =
    let named = ap (λ text. bytes_eq text c.args.name.now) (sym c.as_str.ensures.value) ∙ sym c.eq.ensures ∙ c.if-eq.true in
    file_at-here c.args.files.now c.args.name.now c.loop-at.at _ c.loop-at-test.true c.index-files-at.is named ∙ c.loop-at.invariant
