-- Handling the items of a library.
use Rattle.std.proofs.Common.{◌≡◌, ℕ, List, [], ◌∷◌, ◌++◌, Option, Result, IfSome, refl, sym, subst, ◌∙◌, ap, append_assoc}
use Rattle.std.proofs.lemmas.List.{append-nil}
use Rattle.text_io.specs.declared.slots.InSlot.TheVariants.{Library}
use Rattle.text_io.specs.declared.slots.OutSlot.TheVariants.{VerilogText, VitalText}
use Rattle.text_io.specs.declared.stop.Stop.{Stop}
use Rattle.text_io.specs.Desk.{DeskState}
use Rattle.cell_cursor.specs.declared.item.LibraryItem.{LibraryItem}
use Rattle.cell_cursor.specs.Ends.{items_within}
use Rattle.cell_cursor.specs.Given.{IsFrontOf}
use Rattle.run_outcome.specs.Written.{Written, IsPart}
use Rattle.run_outcome.proofs.WrittenLaws.{IsPart-front}
use Rattle.library_reader.specs.declared.progress.Progress.{Progress}
use Rattle.library_reader.specs.declared.ending.Ending.{Ending}
use Rattle.library_reader.specs.LibraryCells.{CellEntry}
use Rattle.library_reader.specs.Endings.{ending_of}
use Rattle.library_reader.specs.Progress.{no_progress, progress_after}
use Rattle.library_reader.specs.Folds.{AreBound, IsWholeFold, FoldsItems}
use Rattle.library_reader.proofs.Claims.{IfSome-map, IfOk-map}
use Rattle.library_reader.proofs.WrittenLemmas.{all-more}
use Rattle.library_translation.specs.Cells.{ModelsAreBound, item_written, items_written}
use Rattle.library_translation.specs.Library.{IsHandled, Handles}

pub all_bound : (s : DeskState) → ModelsAreBound s → AreBound s (VerilogText ∷ VitalText ∷ [])
all_bound s h = (h.verilog, (h.vital, tt))

pub models_bound : (s : DeskState) → AreBound s (VerilogText ∷ VitalText ∷ []) → ModelsAreBound s
models_bound s h = record { verilog = h.0; vital = h.1.0 }

-- a part of what is written for the first items is one of what is written for all
first_part : (p : Progress) (text : Written) (xs others : List LibraryItem) → IsPart text (items_written p xs)
    → IsPart text (items_written p (xs ++ others))
first_part p text xs [] h = rw (append-nil xs) h
first_part p text xs (x ∷ others) h =
    let more : IsPart text (items_written p (xs ++ x ∷ [])) =
    rw (all-more item_written p (progress_after p xs) xs x refl) at
    (IsPart-front text (items_written p xs) (item_written (progress_after p xs) x) h) in
    rw (append_assoc xs (x ∷ []) others) at (first_part p text (xs ++ x ∷ []) others more)

-- all of them were handled
handled_whole : (Made : List CellEntry → Type 0) (limit : ℕ) (left : Option (List ℕ)) (after : Progress)
    (items : List LibraryItem) (text : Written) (e : Ending)
    → IsWholeFold item_written Made limit left after items text e
    → IfSome left (λ bytes. IsHandled limit bytes no_progress after text e)
handled_whole Made limit left after items text e h =
    IfSome-map left (λ bytes. (items ≡ items_within limit bytes) × (e ≡ ending_of limit bytes))
    (λ bytes. IsHandled limit bytes no_progress after text e) (λ bytes same. record {
      same_text = h.same_text ∙ ap (items_written no_progress) same.0;
      same_progress = h.same_progress ∙ ap (progress_after no_progress) same.0;
      same_ending = same.1;
    }) h.told

handled : (Made : List CellEntry → Type 0) (limit : ℕ) (old new : DeskState) (after : Progress) (r : Result Ending Stop)
    → FoldsItems item_written Made limit old new after r → Handles limit old new no_progress after r
handled Made limit old new after r h = record {
  taken = h.taken;
  text = h.text;
  state = h.state;
  part = IfSome-map (old.left Library) (λ bytes. IsFrontOf h.items (items_within limit bytes))
      (λ bytes. IsPart h.text (items_written no_progress (items_within limit bytes)))
      (λ bytes first. subst (λ all. IsPart h.text (items_written no_progress all)) first.1
      (first_part no_progress h.text h.items first.0 h.part)) h.first;
  cells = h.cells;
  whole = IfOk-map r _ (λ e. IfSome (old.left Library) (λ bytes. IsHandled limit bytes no_progress after h.text e))
      (λ e whole. handled_whole Made limit (old.left Library) after h.items h.text e whole) h.whole;
}

-- a call that went over the items, before which none was handled
pub handles_items : (Made : List CellEntry → Type 0) (limit : ℕ) (old new : DeskState) (before after : Progress)
    (r : Result Ending Stop)
    → before ≡ no_progress → FoldsItems item_written Made limit old new after r → Handles limit old new before after r
handles_items Made limit old new before after r fresh h =
    subst (λ p. Handles limit old new p after r) (sym fresh) (handled Made limit old new after r h)
