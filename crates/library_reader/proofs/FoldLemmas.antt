-- Going over the items of a library, with what is written and made of them.
use Rattle.std.proofs.Common.{◌≡◌, ℕ, ◌+◌, ◌≤◌, List, [], ◌∷◌, ◌++◌, take, length, Option, None, Result, Ok, Err, IsErr, IfOk}
use Rattle.std.proofs.Common.{IfErr, IfSome, refl, sym, ap, subst, ◌∙◌, length-append, arith}
use Rattle.std.specs.List.{IsDistinct}
use Rattle.bool_functions.specs.NameList.{AreDistinct}
use Rattle.text_io.specs.declared.slots.InSlot.TheVariants.{Library}
use Rattle.text_io.specs.declared.slots.OutSlot.{OutSlot}
use Rattle.text_io.specs.declared.slots.Slot.TheVariants.{Output}
use Rattle.text_io.specs.declared.stop.Stop.{Stop}
use Rattle.text_io.specs.declared.stop.Stop.TheVariants as stops
use Rattle.text_io.specs.Desk.{DeskState, took, wrote, StopsWithCause}
use Rattle.text_io.proofs.Took.{took-zero, took-took, bound_still}
use Rattle.run_outcome.specs.Written.{Written, nothing_written, joined, IsPart, wrote_all, Writes}
use Rattle.run_outcome.proofs.WrittenLaws.{wrote_all-nothing, took-wrote_all, wrote_on, still_bound_all, IsPart-nothing}
use Rattle.run_outcome.proofs.WrittenLaws.{IsPart-all, IsPart-after, IsPart-front}
use Rattle.liberty_groups.specs.declared.read.End.{End}
use Rattle.cell_cursor.specs.declared.item.LibraryItem.{LibraryItem}
use Rattle.cell_cursor.specs.declared.item.Next.TheVariants as nexts
use Rattle.cell_cursor.specs.declared.cursor.CellCursor.{CellCursor}
use Rattle.cell_cursor.specs.Ends.{items_within}
use Rattle.cell_cursor.specs.Given.{HasGiven, IsFrontOf}
use Rattle.cell_cursor.specs.Stands.{Stands, Moves, IsAnswered}
use Rattle.library_reader.specs.declared.progress.Progress.{Progress}
use Rattle.library_reader.specs.declared.ending.Ending.{Ending}
use Rattle.library_reader.specs.LibraryCells.{CellEntry, cell_names}
use Rattle.library_reader.specs.Progress.{no_progress, after_item}
use Rattle.library_reader.specs.Steps.{IsAtEnd}
use Rattle.library_reader.specs.Endings.{ending_by, ending_of}
use Rattle.library_reader.specs.KeptCells.{item_kept, kept_cells}
use Rattle.library_reader.specs.WrittenItems.{written_for, written_for_all, HoldsCells}
use Rattle.library_reader.specs.Reached.{IsFront, HasFolded}
use Rattle.library_reader.specs.Folds.{AreBound, IsWholeFold, FoldsItems, IsMadeOf, FoldsCells}
use Rattle.library_reader.proofs.Claims.{IfSome-each, IfSome-always, IfSome-map, IfOk-map, IfOk-err}
use Rattle.library_reader.proofs.Fronts.{front_moved}
use Rattle.library_reader.proofs.Following.{follows_start, follows_next, first_given, next_given, all_given}
use Rattle.library_reader.proofs.KeptLemmas.{kept_cells-more, item_named, item_apart}
use Rattle.library_reader.proofs.WrittenLemmas.{all-more, nothing_part, given_held, no_cell_owed}

-- a call that leaves the count of faults as it is, and stops only where memory is wanting
pub stops_by_memory : {T : Type 0} (before now : ℕ) (r : Result T Stop) → now ≡ before → IfErr r (λ stop. stop ≡ stops.Memory)
    → StopsWithCause before now r
stops_by_memory before now (Ok x) e h = record { later = omega (arith, e); kept = e; failed = tt }
stops_by_memory before now (Err stop) e h = record {
  later = omega (arith, e);
  kept = λ is. e;
  failed = λ failed. absurd (let is : stops.Memory ≡ stops.Failed = sym h ∙ failed in cc);
}

-- The outputs stay bound.

pub still_all_bound : (slots : List OutSlot) (base now : DeskState) (taken : ℕ) → now ≡ took base Library taken
    → AreBound base slots → AreBound now slots
still_all_bound [] base now taken e h = tt
still_all_bound (slot ∷ slots) base now taken e h =
    (bound_still base now Library taken (Output slot) e h.0, still_all_bound slots base now taken e h.1)

pub written_all_bound : (slots : List OutSlot) (base now : DeskState) (text : Written) → now ≡ wrote_all base text
    → AreBound base slots → AreBound now slots
written_all_bound [] base now text e h = tt
written_all_bound (slot ∷ slots) base now text e h =
    (still_bound_all base now text (Output slot) e h.0, written_all_bound slots base now text e h.1)

-- The steps.

-- some bytes of the library more
more_state : (base now next : DeskState) (a b : List ℕ) (text : Written) → now ≡ wrote_all (took base Library (length a)) text
    → next ≡ took now Library (length b) → next ≡ wrote_all (took base Library (length (a ++ b))) text
more_state base now next a b text first second =
    second
    ∙ ap (λ s. took s Library (length b)) first
    ∙ took-wrote_all (took base Library (length a)) text Library (length b)
    ∙ ap (λ s. wrote_all s text) (took-took base Library (length a) (length b) ∙ ap (took base Library) (sym (length-append a b)))

-- what is left of the library stays where something is written
left_written : (now next : DeskState) (text : Written) → next ≡ wrote_all now text → next.left Library ≡ now.left Library
unfolding wrote_all wrote
left_written now next text e = ap (λ s. s.left Library) e

first_folded : (each : Progress → LibraryItem → Written) (Made : List CellEntry → Type 0) (limit : ℕ) (base : DeskState)
    (c : CellCursor)
    → c.limit ≡ limit → Stands c [] [] → c.answer ≡ None → Made [] → HasFolded each Made limit base base no_progress 0 c
unfolding IsDistinct follows_start
first_folded each Made limit base c l h e none = record {
  follows = follows_start limit base no_progress c l h e;
  counted = refl;
  state = sym (took-zero base Library) ∙ sym (wrote_all-nothing (took base Library 0));
  made = none;
  names = refl;
  own = tt;
}

-- before the first item
pub folded_start : (each : Progress → LibraryItem → Written) (Made : List CellEntry → Type 0) (limit : ℕ) (base : DeskState)
    (p : Progress) (c : CellCursor)
    → c.limit ≡ limit → Stands c [] [] → c.answer ≡ None → p ≡ no_progress → Made [] → HasFolded each Made limit base base p 0 c
folded_start each Made limit base p c l h e fresh none =
    subst (λ q. HasFolded each Made limit base base q 0 c) (sym fresh) (first_folded each Made limit base c l h e none)

-- after one more item
pub folded_next : (each : Progress → LibraryItem → Written) (Made More : List CellEntry
    → Type 0) (limit : ℕ) (base now next new : DeskState) (p q : Progress)
    (n : ℕ) (c d : CellCursor) (x : LibraryItem)
    → HasFolded each Made limit base now p n c → Moves c d now next (x ∷ []) → (IsAtEnd c now → IsAtEnd d next)
    → new ≡ wrote_all next (each p x)
    → ((cells : List CellEntry) → Made cells → More (cells ++ item_kept p x)) → q ≡ after_item p x
    → HasFolded each More limit base new q (n + 1) d
unfolding follows_next
folded_next each Made More limit base now next new p q n c d x h m a w more e =
    let f = h.follows in
    let state = more_state base now next f.taken m.taken (written_for_all each no_progress f.items) h.state m.takes.state in
    let kept = kept_cells-more no_progress p f.items x f.progress in
    let size = length-append f.items (x ∷ []) in
    record {
      follows = follows_next limit (base.left Library) now next new no_progress p q c d x f m a
          (left_written next new (each p x) w) e;
      counted = omega (arith, size, h.counted);
      state = wrote_on _ next new (written_for_all each no_progress f.items) (each p x) state w
          ∙ ap (wrote_all (took base Library (length (f.taken ++ m.taken)))) (all-more each no_progress p f.items x f.progress);
      made = subst More kept (more (kept_cells no_progress f.items) h.made);
      names = ap cell_names (sym kept) ∙ item_named p x (kept_cells no_progress f.items) h.names ∙ sym (ap (λ r. r.names) e);
      own = subst (λ r. AreDistinct r.names) (sym e) (item_apart p x h.own);
    }

-- The exits.

-- what was given is written
cells_held : (each : Progress → LibraryItem → Written) (base : DeskState) (taken : List ℕ) (items : List LibraryItem)
    (text : Written) → HasGiven taken items
    → IsFront (base.left Library) taken → IsPart (written_for_all each no_progress items) text
    → IfSome (base.left Library) (λ all. HoldsCells each no_progress all (length taken) text)
cells_held each base taken items text given front part =
    IfSome-map (base.left Library) (λ all. (taken ≡ take (length taken) all) × (length taken ≤ length all))
    (λ all. HoldsCells each no_progress all (length taken) text)
    (λ all front. given_held each no_progress taken all items text given front.0 part) front

-- also after one more call of the cursor
held_still : (each : Progress → LibraryItem → Written) (Made : List CellEntry → Type 0) (limit : ℕ) (base now next : DeskState)
    (p : Progress) (n : ℕ) (c d : CellCursor)
    (given : List LibraryItem) (text : Written) (h : HasFolded each Made limit base now p n c) (m : Moves c d now next given)
    → IsPart (written_for_all each no_progress h.follows.items) text
    → IfSome (base.left Library) (λ all. HoldsCells each no_progress all (length (h.follows.taken ++ m.taken)) text)
held_still each Made limit base now next p n c d given text h m part =
    let f = h.follows in
    cells_held each base (f.taken ++ m.taken) f.items text (m.given_before f.taken f.items f.stands)
    (front_moved (base.left Library) now next f.taken m.taken f.rest f.told m.takes) part

-- a stop before anything was read
pub folds_first : (each : Progress → LibraryItem → Written) (Made : List CellEntry → Type 0) (limit : ℕ) (base : DeskState)
    (after : Progress) (r : Result Ending Stop)
    → IsErr r → FoldsItems each Made limit base base after r
folds_first each Made limit base after r e = record {
  taken = 0;
  items = [];
  text = nothing_written;
  state = sym (took-zero base Library) ∙ sym (wrote_all-nothing (took base Library 0));
  part = IsPart-nothing nothing_written;
  first = IfSome-always (base.left Library) (λ all. IsFrontOf [] (items_within limit all))
      (λ all. (items_within limit all, refl));
  cells = IfSome-always (base.left Library) (λ all. HoldsCells each no_progress all 0 nothing_written)
      (λ all. no_cell_owed each no_progress all nothing_written);
  whole = IfOk-err r _ e;
}

-- after the next item was sought in vain, where this is known of the end
sought : (each : Progress → LibraryItem → Written) (Made Now : List CellEntry → Type 0) (limit : ℕ) (base now next : DeskState)
    (p after : Progress) (n : ℕ) (c d : CellCursor)
    (r : Result Ending Stop) (h : HasFolded each Made limit base now p n c) → Moves c d now next []
    → IfOk r (IsWholeFold each Now limit (base.left Library) after h.follows.items
    (written_for_all each no_progress h.follows.items))
    → FoldsItems each Now limit base next after r
sought each Made Now limit base now next p after n c d r h m whole =
    let f = h.follows in
    record {
      taken = length (f.taken ++ m.taken);
      items = f.items;
      text = written_for_all each no_progress f.items;
      state = more_state base now next f.taken m.taken (written_for_all each no_progress f.items) h.state m.takes.state;
      part = IsPart-all _;
      first = IfSome-each (base.left Library) (λ all. IsFrontOf f.items (items_within limit all)) (λ all is.
          first_given limit (base.left Library) now no_progress p c all f is);
      cells = held_still each Made limit base now next p n c d [] _ h m (IsPart-all _);
      whole = whole;
    }

-- a stop where the next item is sought
pub folds_seeking : (each : Progress → LibraryItem → Written) (Made Now : List CellEntry
    → Type 0) (limit : ℕ) (base now next : DeskState) (p after : Progress)
    (n : ℕ) (c d : CellCursor) (r : Result Ending Stop)
    → HasFolded each Made limit base now p n c → Moves c d now next [] → IsErr r → FoldsItems each Now limit base next after r
folds_seeking each Made Now limit base now next p after n c d r h m e =
    sought each Made Now limit base now next p after n c d r h m (IfOk-err r _ e)

-- a stop within an item
pub folds_within : {S : Type 0} (each : Progress → LibraryItem → Written) (Made Now : List CellEntry
    → Type 0) (limit : ℕ) (base now next new : DeskState) (p after : Progress)
    (n : ℕ) (c d : CellCursor) (x : LibraryItem) (y : Stop) (r : Result Ending Stop)
    → HasFolded each Made limit base now p n c → Moves c d now next (x ∷ []) → (IsAtEnd c now → IsAtEnd d next)
    → Writes {T = S} next new (each p x) (Err y) → IsErr r
    → FoldsItems each Now limit base new after r
folds_within each Made Now limit base now next new p after n c d x y r h m a w e =
    let f = h.follows in
    let state = more_state base now next f.taken m.taken (written_for_all each no_progress f.items) h.state m.takes.state in
    let within = IsPart-after (written_for_all each no_progress f.items) w.part.part (each p x) w.part.is_part in
    record {
      taken = length (f.taken ++ m.taken);
      items = f.items ++ x ∷ [];
      text = joined (written_for_all each no_progress f.items) w.part.part;
      state = wrote_on _ next new (written_for_all each no_progress f.items) w.part.part state w.part.state;
      part = rw (all-more each no_progress p f.items x f.progress) at within;
      first = IfSome-each (base.left Library) (λ all. IsFrontOf (f.items ++ x ∷ []) (items_within limit all)) (λ all is.
          next_given limit (base.left Library) now next no_progress p c d x all f m a is);
      cells = held_still each Made limit base now next p n c d (x ∷ []) _ h m
          (IsPart-front _ (written_for_all each no_progress f.items) w.part.part (IsPart-all _));
      whole = IfOk-err r _ e;
    }

-- at the end
pub folds_all : (each : Progress → LibraryItem → Written) (Made : List CellEntry → Type 0) (limit : ℕ) (base now after : DeskState)
    (p : Progress) (n : ℕ) (c d : CellCursor) (end : End) (e : Ending) → e ≡ ending_by end
    → HasFolded each Made limit base now p n c → Moves c d now after [] → (IsAtEnd c now → IsAtEnd d after)
    → IsAnswered d (Ok (nexts.Ended end)) → FoldsItems each Made limit base after p (Ok e)
folds_all each Made limit base now after p n c d end e same h m a t =
    sought each Made Made limit base now after p p n c d (Ok e) h m (record {
      same_text = refl;
      same_progress = h.follows.progress;
      made = h.made;
      own = subst AreDistinct (sym h.names) h.own;
      told = IfSome-each (base.left Library) (λ bytes. (h.follows.items ≡ items_within limit bytes) × (e ≡ ending_of limit bytes))
          (λ bytes left.
          (let all = all_given limit (base.left Library) now after no_progress p c d end bytes h.follows m a t left in
          (all.0, same ∙ all.1)));
    })

-- The cells alone.

made_of : (Made : List CellEntry → Type 0) (limit : ℕ) (left : Option (List ℕ)) (after : Progress) (items : List LibraryItem)
    (text : Written)
    (each : Progress → LibraryItem → Written) (e : Ending) → IsWholeFold each Made limit left after items text e
    → IsMadeOf Made limit left e
made_of Made limit left after items text each e h = record {
  cells = kept_cells no_progress items;
  made = h.made;
  own = h.own;
  told = IfSome-map left (λ bytes. (items ≡ items_within limit bytes) × (e ≡ ending_of limit bytes))
      (λ bytes. (kept_cells no_progress items ≡ kept_cells no_progress (items_within limit bytes)) × (e ≡ ending_of limit bytes))
      (λ bytes same. (ap (kept_cells no_progress) same.0, same.1)) h.told;
}

-- where nothing is written
pub folds_cells : (Made : List CellEntry → Type 0) (limit : ℕ) (old new : DeskState) (after : Progress) (r : Result Ending Stop)
    → FoldsItems (written_for (λ p group. nothing_written) nothing_written) Made limit old new after r
    → FoldsCells Made limit old new r
folds_cells Made limit old new after r h = record {
  taken = h.taken;
  state = h.state ∙ ap (wrote_all (took old Library h.taken)) (nothing_part no_progress h.items h.text h.part)
      ∙ wrote_all-nothing (took old Library h.taken);
  cells = IfOk-map r _ (IsMadeOf Made limit (old.left Library))
      (λ e whole. made_of Made limit (old.left Library) after h.items h.text _ e whole) h.whole;
}
