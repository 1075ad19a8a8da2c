-- By what the names that stand for several bits are found.
use Rattle.std.specs.Prelude.{ℕ, List}
use Rattle.bus_texts.specs.declared.vectors.Vector.{Vector}

abbrev pub vector_name : Vector → List ℕ
vector_name vector = vector.name
