-- Laws of binding files and of reading from several.
use Rattle.std.proofs.Common.{◌≡◌, ℕ, List, [], ◌∷◌, ◌++◌, Option, Some, None, IsSome, unwrap_or, refl, ap, ◌∙◌}
use Rattle.std.proofs.lemmas.List.{append-nil}
use Rattle.std.specs.Option.{option_map}
use Rattle.text_io.specs.declared.slots.InSlot.{InSlot}
use Rattle.text_io.specs.declared.slots.InSlot.TheVariants.{Library, Verilog, Vital, Stimulus}
use Rattle.text_io.specs.Desk.{DeskState, Folder, opened, took, IsFileAt}
use Rattle.text_io.proofs.Took.{took-zero}
use Rattle.run_outcome.specs.Binding.{Files, bound_state, bound_at, IsFront, took_all, only, bytes_at}

-- nothing is bound before the first file
pub IsFront-nothing : (files : Files) → IsFront [] files
IsFront-nothing files = (files, refl)

pub IsFront-all : (files : Files) → IsFront files files
IsFront-all files = ([], append-nil files)

-- one file more
pub bound_state-more : (s : DeskState) (files more : Files) (bytes : InSlot → List ℕ)
    → bound_state s (files ++ more) bytes ≡ bound_state (bound_state s files bytes) more bytes
bound_state-more s [] more bytes = refl
bound_state-more s (file ∷ files) more bytes = bound_state-more (bound_at s file.0 bytes) files more bytes

-- nothing is read
pub took_all-nothing : (s : DeskState) → took_all s (λ _. 0) ≡ s
unfolding took_all
took_all-nothing s =
    took-zero (took (took (took s Library 0) Verilog 0) Vital 0) Stimulus
    ∙ took-zero (took (took s Library 0) Verilog 0) Vital
    ∙ took-zero (took s Library 0) Verilog
    ∙ took-zero s Library

-- some bytes of one slot are read
pub took_all-only : (s : DeskState) (slot : InSlot) (n : ℕ) → took_all s (only slot n) ≡ took s slot n
unfolding took_all
took_all-only s Library n = took-zero (took (took (took s Library n) Verilog 0) Vital 0) Stimulus
    ∙ took-zero (took (took s Library n) Verilog 0) Vital ∙ took-zero (took s Library n) Verilog
took_all-only s Verilog n =
    took-zero (took (took (took s Library 0) Verilog n) Vital 0) Stimulus ∙ took-zero (took (took s Library 0) Verilog n) Vital
    ∙ ap (λ t. took t Verilog n) (took-zero s Library)
took_all-only s Vital n =
    took-zero (took (took (took s Library 0) Verilog 0) Vital n) Stimulus
    ∙ ap (λ t. took t Vital n) (took-zero (took s Library 0) Verilog ∙ took-zero s Library)
took_all-only s Stimulus n =
    ap (λ t. took t Stimulus n) (took-zero (took (took s Library 0) Verilog 0) Vital ∙ took-zero (took s Library 0) Verilog
    ∙ took-zero s Library)

-- what is left of a slot that was bound
pub left_opened : (s : DeskState) (slot : InSlot) (bytes : List ℕ)
    → (opened s slot bytes).left slot ≡ option_map (λ _. bytes) (s.left slot)
unfolding opened
left_opened s Library bytes = refl
left_opened s Verilog bytes = refl
left_opened s Vital bytes = refl
left_opened s Stimulus bytes = refl

-- what is left of a file that is bound, where the desk tells it
pub left_told : (left : Option (List ℕ)) (bytes : List ℕ) → IsSome left → option_map (λ _. bytes) left ≡ Some bytes
left_told None bytes h = absurd cc
left_told (Some x) bytes h = refl

-- the bytes of the file that a word names, where the desk tells its folder
pub named_bytes : (s : DeskState) (folder : Folder) (place : ℕ) (bytes : List ℕ) → s.folder ≡ Some folder → IsFileAt s place bytes
    → bytes_at s.words folder place ≡ bytes
named_bytes s folder place bytes e f = ap (λ o. unwrap_or o []) (rw e at f)
