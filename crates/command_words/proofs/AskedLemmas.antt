-- What a function text that was read asks for.
use Rattle.std.proofs.Common.{◌≡◌, ℕ, true, List, length, Ok, sym, ap, ◌∙◌}
use Rattle.bool_functions.specs.declared.tree.Node.{Node}
use Rattle.bool_functions.specs.FunctionText.{free_names, reading_of}
use Rattle.verilog_tokens.specs.Kept.{is_kept_cell_name}
use Rattle.command_words.specs.Reading.{asked_primitive, primitive_read}

-- under a kept name
pub asked_as : (name text : List ℕ) (names : List (List ℕ)) (count : ℕ) (tree : Node) → is_kept_cell_name name ≡ true
    → names ≡ free_names text
    → reading_of (free_names text) text ≡ Ok tree → count ≡ length names
    → asked_primitive name text ≡ primitive_read name count (Ok tree)
unfolding asked_primitive
asked_as name text names count tree kept numbered read counted =
    rw (kept, read) (ap (λ n. primitive_read name n (Ok tree)) (sym (counted ∙ ap length numbered)))
