-- Which cells a cursor has given, run after run of bytes.
use Rattle.std.proofs.Common.{◌≡◌, ◌⊎◌, inl, inr, ℕ, ◌+◌, ◌-◌, ◌<◌, ◌≤◌, nat_lt, Bool, true, false, List, [], ◌++◌, take, drop}
use Rattle.std.proofs.Common.{length, refl, sym, ap, subst, ◌∙◌, arith, length-append}
use Rattle.std.proofs.lemmas.Bool.Decides.{nat_tests}
use Rattle.std.proofs.lemmas.List.{append-nil, append_assoc, take-append-le, length-take-le, take-append-drop}
use Rattle.std.proofs.Math.Seq.{take-append_seam, take-append-add}
use Rattle.grammar_rules.specs.Reading.{read}
use Rattle.liberty_text.specs.declared.token.Token.{Token}
use Rattle.liberty_text.specs.declared.token.Stop.{Stop}
use Rattle.liberty_text.specs.declared.scanner.Mode.{Mode}
use Rattle.liberty_text.specs.Scanner.{scan_of}
use Rattle.liberty_groups.specs.Lexeme.{lexemes_behind}
use Rattle.liberty_groups.specs.Library.{header}
use Rattle.cell_cursor.specs.declared.cursor.CellCursor.{CellCursor}
use Rattle.cell_cursor.specs.declared.item.LibraryItem.{LibraryItem}
use Rattle.cell_cursor.specs.declared.part.Place.{Place}
use Rattle.cell_cursor.specs.declared.part.Place.TheVariants as place
use Rattle.cell_cursor.specs.Braces.{has_outer, ShowsOuter, kinds_of, lexeme_kinds}
use Rattle.cell_cursor.specs.Finish.{part_outcome}
use Rattle.cell_cursor.specs.Given.{up_to_last_cell, closed_items, IsFrontOf, most_beyond, HasSeen, HasGiven}
use Rattle.cell_cursor.specs.Items.{rest_inside, library_end, rest_at, items_in, items_outcome, items_of_bytes}
use Rattle.cell_cursor.specs.Leads.{LeadTo, is_start}
use Rattle.cell_cursor.specs.Progress.{scanned_by}
use Rattle.cell_cursor.specs.Scanned.{AreScanned, NoneOuter}
use Rattle.cell_cursor.specs.Stands.{Keeps, Goes, GoesBy}
use Rattle.cell_cursor.proofs.Depths.{lexeme_kinds_behind}
use Rattle.cell_cursor.proofs.EndsLemmas.{part_items}
use Rattle.cell_cursor.proofs.LeadsLemmas.{leads_here}
use Rattle.cell_cursor.proofs.LastCell.{no_cell_behind, last_cell_front, front_of_more}
use Rattle.cell_cursor.proofs.RunTokens.{closing_outer}
use Rattle.cell_cursor.proofs.OpenParts.{part_no_cell}
use Rattle.cell_cursor.proofs.ScannedLemmas.{scan_splits}

-- more bytes, and more items

pub seen_more : (n : ℕ) (bytes xs : List ℕ) (items : List LibraryItem) → n ≤ length bytes + 1 → HasSeen n bytes items
    → HasSeen n (bytes ++ xs) items
seen_more n bytes xs items l h e less =
    let within : e ≤ length bytes = omega (arith, l, less) in
    subst (λ (b : List ℕ). IsFrontOf (up_to_last_cell (items_of_bytes b)) items) (sym (take-append-le e bytes xs within))
    (h e less)

pub seen_items : (n : ℕ) (bytes : List ℕ) (items more : List LibraryItem) → HasSeen n bytes items
    → HasSeen n bytes (items ++ more)
seen_items n bytes items more h e less = front_of_more (closed_items (take e bytes)) items more (h e less)

pub given_items : (bytes : List ℕ) (items more : List LibraryItem) → HasGiven bytes items → HasGiven bytes (items ++ more)
given_items bytes items more h e far = front_of_more (closed_items (take e bytes)) items more (h e far)

last_or_less : (e n : ℕ) → e < n + 1 → (e < n) ⊎ (e ≡ n)
last_or_less e n h = by_test (nat_lt e n) refl
  where
    by_test : (b : Bool) → nat_lt e n ≡ b → (e < n) ⊎ (e ≡ n)
    by_test true t = inl (grind (arith, nat_tests, t))
    by_test false t = inr (grind (arith, nat_tests, t, h))

pub seen_next : (n : ℕ) (bytes : List ℕ) (items : List LibraryItem) → HasSeen n bytes items
    → IsFrontOf (closed_items (take n bytes)) items → HasSeen (n + 1) bytes items
seen_next n bytes items h i e less =
    elim (last_or_less e n less) [
      | inl l ↦ h e l
      | inr same ↦ subst (λ (k : ℕ). IsFrontOf (up_to_last_cell (items_of_bytes (take k bytes))) items) (sym same) i
    ]

-- what was taken and is not scanned is little
pub given_seen : (n : ℕ) (bytes : List ℕ) (items : List LibraryItem) → HasSeen n bytes items → length bytes < n + most_beyond
    → HasGiven bytes items
given_seen n bytes items h l e far = h e (omega (arith, l, far))

-- A part

pub part_closed : (before bytes : List ℕ) (tokens : List Token) (mode : Mode) (here : Place) (items : List LibraryItem)
    → LeadTo before bytes here items → AreScanned bytes tokens mode →
    has_outer here (kinds_of tokens) ≡ false → closed_items (before ++ bytes) ≡ up_to_last_cell items
unfolding part_outcome
part_closed before bytes tokens mode here items leads scanned none =
    let outer : has_outer here (lexeme_kinds (lexemes_behind (length before) bytes (scan_of bytes).0)) ≡ false =
    ap (has_outer here) (lexeme_kinds_behind (length before) bytes (scan_of bytes).0)
    ∙ ap (λ (p : List Token × Stop). has_outer here (kinds_of p.0)) (scan_splits bytes tokens mode scanned)
    ∙ closing_outer here tokens mode (length bytes) none in
    ap up_to_last_cell (sym (part_items before bytes here items leads))
    ∙ no_cell_behind items (items_in (part_outcome here (length before) bytes))
    (part_no_cell here (lexemes_behind (length before) bytes (scan_of bytes).0) outer)

none_follows : (there : Place) (items : List LibraryItem) → is_start there ≡ false
    → items_in (read (rest_at there items) []) ≡ items
unfolding rest_inside library_end
none_follows place.Start items e = absurd cc
none_follows place.Inside items e = refl
none_follows place.Behind items e = refl

-- statements have ended with the last byte
pub place_closed : (before : List ℕ) (there : Place) (items : List LibraryItem) → LeadTo before [] there items
    → is_start there ≡ false → closed_items before ≡ up_to_last_cell items
place_closed before there items leads e =
    ap closed_items (sym (append-nil before)) ∙ ap (λ o. up_to_last_cell (items_in o)) leads.outcome
    ∙ ap up_to_last_cell (none_follows there items e)

pub none_closed : closed_items [] ≡ []
unfolding items_outcome header
none_closed = refl

-- The cursor

pub keeps_front : (c : CellCursor) (bytes : List ℕ) (items : List LibraryItem) (k : Keeps c bytes items)
    → take (scanned_by c) bytes ≡ k.before ++ c.part.bytes
keeps_front c bytes items k =
    let size : scanned_by c ≡ length (k.before ++ c.part.bytes) = ap (λ (n : ℕ). n + length c.part.bytes) k.size
    ∙ sym (length-append k.before c.part.bytes) in
    ap (take (scanned_by c)) (k.split ∙ sym (append_assoc k.before c.part.bytes c.piece))
    ∙ ap (λ (n : ℕ). take n ((k.before ++ c.part.bytes) ++ c.piece)) size
    ∙ take-append_seam (k.before ++ c.part.bytes) c.piece

pub front_same : (bytes : List ℕ) (items : List LibraryItem) → closed_items bytes ≡ up_to_last_cell items
    → IsFrontOf (closed_items bytes) items
front_same bytes items e = subst (λ (l : List LibraryItem). IsFrontOf l items) (sym e) (last_cell_front items)

-- no outer brace is in its part
pub goes_open : (c : CellCursor) (bytes : List ℕ) (items : List LibraryItem) → Keeps c bytes items
    → AreScanned c.part.bytes c.part.tokens c.part.mode →
    has_outer c.place (kinds_of c.part.tokens) ≡ false → HasSeen (scanned_by c) bytes items → Goes c bytes items
goes_open c bytes items k scanned none seen = record {
  keeps = k;
  inner = none;
  seen = seen_next (scanned_by c) bytes items seen
      (front_same (take (scanned_by c) bytes) items
      (ap closed_items (keeps_front c bytes items k)
      ∙ part_closed k.before c.part.bytes c.part.tokens c.part.mode c.place items
      (leads_here k.before c.part.bytes c.place items k.leads) scanned none));
}

-- as far as no outer brace has ended since
seen_within : (o : CellCursor) (count : ℕ) (bytes : List ℕ) (items : List LibraryItem)
    → NoneOuter o.place o.part.bytes o.piece count → Goes o bytes items → HasSeen (scanned_by o + count) bytes items
seen_within o count bytes items none g e less = by_test (nat_lt e (scanned_by o + 1)) refl
  where
    behind : (j : ℕ) → e ≡ scanned_by o + j → j < count → IsFrontOf (closed_items (take e bytes)) items
    behind j e_is within =
        let k = g.keeps in
        let front = k.before ++ o.part.bytes in
        let size : scanned_by o ≡ length front = ap (λ (n : ℕ). n + length o.part.bytes) k.size
        ∙ sym (length-append k.before o.part.bytes) in
        let same : take e bytes ≡ k.before ++ (o.part.bytes ++ take j o.piece) =
        ap (λ (n : ℕ). take n bytes) (e_is ∙ ap (λ (n : ℕ). n + j) size)
        ∙ ap (take (length front + j)) (k.split ∙ sym (append_assoc k.before o.part.bytes o.piece))
        ∙ take-append-add front o.piece j
        ∙ append_assoc k.before o.part.bytes (take j o.piece) in
        let there = none j within in
        front_same (take e bytes) items
        (ap closed_items same ∙ part_closed k.before (o.part.bytes ++ take j o.piece) there.0 there.1 o.place items
        (k.leads (take j o.piece)) there.2 there.3)

    by_test : (b : Bool) → nat_lt e (scanned_by o + 1) ≡ b → IsFrontOf (closed_items (take e bytes)) items
    by_test true t = g.seen e (grind (arith, nat_tests, t))
    by_test false t =
        let far : scanned_by o + 1 ≤ e = grind (arith, nat_tests, t) in
        behind (e - scanned_by o) (omega (arith, far)) (omega (arith, far, less))

-- more bytes are scanned
pub goes_run : (o n : CellCursor) (may : Bool) (count : ℕ) (bytes : List ℕ) (items : List LibraryItem) → n.place ≡ o.place
    → n.part.before ≡ o.part.before → n.part.bytes ≡ o.part.bytes ++ take count o.piece →
    n.piece ≡ drop count o.piece → count ≤ length o.piece → AreScanned n.part.bytes n.part.tokens n.part.mode
    → (has_outer o.place (kinds_of o.part.tokens) ≡ false → NoneOuter o.place o.part.bytes o.piece count) →
    (has_outer o.place (kinds_of o.part.tokens) ≡ false → ShowsOuter may o.place (kinds_of n.part.tokens)) → Goes o bytes items
    → GoesBy may n bytes items
goes_run o n may count bytes items place_is before_is bytes_are piece_is within scanned none outer g =
    by_answer may (subst (λ (p : Place). ShowsOuter may p (kinds_of n.part.tokens)) (sym place_is) (outer g.inner))
  where
    keeps : Keeps n bytes items
    keeps = record {
      before = g.keeps.before;
      split =
          g.keeps.split
          ∙ ap (λ (s : List ℕ). g.keeps.before ++ (o.part.bytes ++ s)) (sym (take-append-drop count o.piece))
          ∙ ap (λ (s : List ℕ). g.keeps.before ++ s) (sym (append_assoc o.part.bytes (take count o.piece) (drop count o.piece)))
          ∙ ap (λ (s : List ℕ). g.keeps.before ++ (s ++ drop count o.piece)) (sym bytes_are)
          ∙ ap (λ (s : List ℕ). g.keeps.before ++ (n.part.bytes ++ s)) (sym piece_is);
      size = before_is ∙ g.keeps.size;
      leads = λ more.
          subst (λ (p : Place). LeadTo g.keeps.before (n.part.bytes ++ more) p items) (sym place_is)
          (subst (λ (b : List ℕ). LeadTo g.keeps.before b o.place items)
          (sym (ap (λ (s : List ℕ). s ++ more) bytes_are ∙ append_assoc o.part.bytes (take count o.piece) more))
          (g.keeps.leads (take count o.piece ++ more)));
    }

    so_many : scanned_by n ≡ scanned_by o + count
    so_many = let size = ap length bytes_are
        in omega (arith, before_is, size, length-append o.part.bytes (take count o.piece), length-take-le count o.piece within)

    seen : HasSeen (scanned_by n) bytes items
    seen = subst (λ (k : ℕ). HasSeen k bytes items) (sym so_many) (seen_within o count bytes items (none g.inner) g)

    by_answer : (a : Bool) → ShowsOuter a n.place (kinds_of n.part.tokens) → GoesBy a n bytes items
    by_answer false inner = goes_open n bytes items keeps scanned inner seen
    by_answer true last = record { keeps = keeps; last = last; seen = seen }

-- as found by the code, which has a second name for what was not scanned

pub goes_as : (b : Bool) (o n : CellCursor) (may : Bool) (count : ℕ) (unread : List ℕ) → may ≡ b → unread ≡ o.piece
    → n.place ≡ o.place → n.part.before ≡ o.part.before → n.part.bytes ≡ o.part.bytes ++ take count unread →
    n.piece ≡ drop count o.piece → count ≤ length unread → AreScanned n.part.bytes n.part.tokens n.part.mode
    → (has_outer o.place (kinds_of o.part.tokens) ≡ false → NoneOuter o.place o.part.bytes unread count) →
    (has_outer o.place (kinds_of o.part.tokens) ≡ false → ShowsOuter may o.place (kinds_of n.part.tokens))
    → (bytes : List ℕ) (items : List LibraryItem) → Goes o bytes items → GoesBy b n bytes items
goes_as b o n may count unread e same place_is before_is bytes_are piece_is within scanned none outer bytes items g =
    subst (λ (x : Bool). GoesBy x n bytes items) e
    (goes_run o n may count bytes items place_is before_is (bytes_are ∙ ap (λ (s : List ℕ). o.part.bytes ++ take count s) same)
    piece_is (subst (λ (s : List ℕ). count ≤ length s) same within) scanned
    (subst (λ (s : List ℕ). has_outer o.place (kinds_of o.part.tokens) ≡ false
    → NoneOuter o.place o.part.bytes s count) same none) outer g)

-- what was scanned and what is left are all
pub sizes_of : (bytes bytes' piece piece' : List ℕ) (count : ℕ) (unread : List ℕ) → unread ≡ piece
    → bytes' ≡ bytes ++ take count unread → piece' ≡ drop count piece → count ≤ length unread →
    (length bytes' ≡ length bytes + count) × (length piece' + count ≡ length piece)
sizes_of bytes bytes' piece piece' count unread same bytes_are piece_is within =
    let size : length (take count unread) ≡ count = length-take-le count unread within in
    let all = ap length bytes_are in
    let left = ap length piece_is in
    let both : length piece ≡ length (take count piece) + length (drop count piece) =
    ap length (sym (take-append-drop count piece)) ∙ length-append (take count piece) (drop count piece) in
    let front : length (take count piece) ≡ count = ap (λ (s : List ℕ). length (take count s)) (sym same) ∙ size in
    (omega (arith, all, size, length-append bytes (take count unread)), omega (arith, left, both, front))
