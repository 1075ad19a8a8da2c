-- What is written for the items of a library, one after another.
use Rattle.std.proofs.Common.{◌≡◌, ℕ, ◌+◌, ◌≤◌, List, [], ◌∷◌, ◌++◌, take, length, Result, Ok, Err, refl, sym, ap, ◌∙◌}
use Rattle.std.proofs.Common.{append_assoc, arith}
use Rattle.std.proofs.lemmas.List.{append-nil, take-take}
use Rattle.text_io.specs.Desk.{DeskState, IsPrefix}
use Rattle.cell_cursor.specs.declared.item.LibraryItem.{LibraryItem}
use Rattle.cell_cursor.specs.declared.item.LibraryItem.TheVariants as item
use Rattle.cell_cursor.specs.Given.{closed_items, most_beyond, HasGiven}
use Rattle.run_outcome.specs.Written.{Written, nothing_written, joined, IsPart, wrote_all, Writes}
use Rattle.run_outcome.proofs.WrittenLaws.{IsPart-all, IsPart-front}
use Rattle.library_reader.specs.declared.progress.Progress.{Progress}
use Rattle.library_reader.specs.Progress.{after_item, progress_after}
use Rattle.library_reader.specs.WrittenItems.{written_for, written_for_all, HoldsCells}

-- a call after which all was appended, however it ended
pub writes_whole : {T E : Type 0} (old new : DeskState) (text : Written) (r : Result T E) → new ≡ wrote_all old text
    → Writes old new text r
writes_whole old new text (Ok x) e = record { whole = e; part = tt }
writes_whole old new text (Err y) e = record { whole = tt; part = record { part = text; is_part = IsPart-all text; state = e } }

joined-nothing : (a : Written) → joined a nothing_written ≡ a
joined-nothing a = λ i. record { verilog = append-nil a.verilog i; vital = append-nil a.vital i; report = append-nil a.report i }

joined_assoc : (a b c : Written) → joined (joined a b) c ≡ joined a (joined b c)
joined_assoc a b c = λ i. record {
  verilog = append_assoc a.verilog b.verilog c.verilog i;
  vital = append_assoc a.vital b.vital c.vital i;
  report = append_assoc a.report b.report c.report i;
}

-- what is written for some items, and then for others
all-append : (each : Progress → LibraryItem → Written) (p : Progress) (xs ys : List LibraryItem)
    → written_for_all each p (xs ++ ys) ≡ joined (written_for_all each p xs) (written_for_all each (progress_after p xs) ys)
all-append each p [] ys = refl
all-append each p (x ∷ xs) ys =
    ap (joined (each p x)) (all-append each (after_item p x) xs ys) ∙ sym (joined_assoc (each p x) _ _)

-- one item more
pub all-more : (each : Progress → LibraryItem → Written) (p q : Progress) (xs : List LibraryItem) (x : LibraryItem)
    → q ≡ progress_after p xs
    → joined (written_for_all each p xs) (each q x) ≡ written_for_all each p (xs ++ x ∷ [])
all-more each p q xs x e =
    ap (λ r. joined (written_for_all each p xs) (each r x)) e
    ∙ ap (joined (written_for_all each p xs)) (sym (joined-nothing (each (progress_after p xs) x)))
    ∙ sym (all-append each p xs (x ∷ []))

-- what is written for the first items is a part of what is written for all
first_part : (each : Progress → LibraryItem → Written) (p : Progress) (text : Written) (xs others all : List LibraryItem)
    → xs ++ others ≡ all
    → IsPart text (written_for_all each p xs) → IsPart text (written_for_all each p all)
first_part each p text xs others all e h =
    rw (← e) (rw (all-append each p xs others)
    (IsPart-front text (written_for_all each p xs) (written_for_all each (progress_after p xs) others) h))

-- Where nothing is written.

nothing_for_all : (p : Progress) (items : List LibraryItem)
    → written_for_all (written_for (λ q group. nothing_written) nothing_written) p items ≡ nothing_written
nothing_for_all p [] = refl
nothing_for_all p (item.Cell group ∷ items) = nothing_for_all (after_item p (item.Cell group)) items
nothing_for_all p (item.Unit line ∷ items) = nothing_for_all (after_item p (item.Unit line)) items
nothing_for_all p (item.LeftOut at ∷ items) = nothing_for_all (after_item p (item.LeftOut at)) items
nothing_for_all p (item.BusType group ∷ items) = nothing_for_all (after_item p (item.BusType group)) items

empty_part : (xs : List ℕ) → IsPrefix xs [] → xs ≡ []
empty_part [] h = refl
empty_part (x ∷ xs) h = absurd (let e : x ∷ (xs ++ h.0) ≡ [] = h.1 in cc)

-- a part of it is nothing
pub nothing_part : (p : Progress) (items : List LibraryItem) (text : Written)
    → IsPart text (written_for_all (written_for (λ q group. nothing_written) nothing_written) p items) → text ≡ nothing_written
nothing_part p items text h =
    let part : IsPart text nothing_written = rw (nothing_for_all p items) at h in
    λ i. record {
      verilog = empty_part text.verilog part.verilog i;
      vital = empty_part text.vital part.vital i;
      report =
          empty_part text.report part.report i;
    }

-- The cells that are written whole.

prefix_of_prefix : (a b c : List ℕ) → IsPrefix a b → IsPrefix b c → IsPrefix a c
prefix_of_prefix a b c p q = (p.0 ++ q.0, sym (append_assoc a p.0 q.0) ∙ ap (λ t. t ++ q.0) p.1 ∙ q.1)

part_of_part : (a b c : Written) → IsPart a b → IsPart b c → IsPart a c
part_of_part a b c p q = record {
  verilog = prefix_of_prefix a.verilog b.verilog c.verilog p.verilog q.verilog;
  vital = prefix_of_prefix a.vital b.vital c.vital p.vital q.vital;
  report = prefix_of_prefix a.report b.report c.report p.report q.report;
}

-- the first bytes of those that were taken
taken_front : (taken all : List ℕ) (e : ℕ) → taken ≡ take (length taken) all → e + most_beyond ≤ length taken
    → take e taken ≡ take e all
taken_front taken all e front h =
    ap (take e) front ∙ take-take e (length taken) all (omega (arith, h))

-- what was given is written
pub given_held : (each : Progress → LibraryItem → Written) (p : Progress) (taken all : List ℕ) (items : List LibraryItem)
    (text : Written)
    → HasGiven taken items → taken ≡ take (length taken) all → IsPart (written_for_all each p items) text
    → HoldsCells each p all (length taken) text
given_held each p taken all items text given front part = λ e h.
    let first = given e h in
    let closed = ap (λ bytes. closed_items bytes ++ first.0) (sym (taken_front taken all e front h)) ∙ first.1 in
    part_of_part _ (written_for_all each p items) text
    (first_part each p _ (closed_items (take e all)) first.0 items closed (IsPart-all _)) part

-- nothing was taken
pub no_cell_owed : (each : Progress → LibraryItem → Written) (p : Progress) (bytes : List ℕ) (text : Written)
    → HoldsCells each p bytes 0 text
no_cell_owed each p bytes text = λ e h. absurd (omega (arith, h))
