use Rattle.std.specs.Prelude.{map}
use Rattle.statetables.specs.declared.read.RowWords.{RowWords}
use Rattle.statetables.specs.Reading.{RowWords as Words}

-- What stands behind the references to the words of a row.
abbrev pub shown : RowWords → Words
shown words = record {
  inputs = map (λ word. word.now) words.inputs.items;
  current =
      map (λ word. word.now) words.current.items;
  next = map (λ word. word.now) words.next.items;
}
