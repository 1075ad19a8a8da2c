-- One step of a cursor.
use Rattle.std.proofs.Common.{◌≡◌, ℕ, zero, suc, ◌+◌, ◌≤◌, ◌==◌, Bool, true, false, List, [], ◌∷◌, ◌++◌, reverse, length, drop}
use Rattle.std.proofs.Common.{Option, Some, None, Result, Ok, Err, IfSome, refl, sym, ap, subst, ◌∙◌, arith, length-append}
use Rattle.std.proofs.lemmas.List.{append-nil}
use Rattle.std.specs.Option.{option_map}
use Rattle.text_io.specs.declared.slots.InSlot.TheVariants.{Library}
use Rattle.text_io.specs.declared.stop.Stop.{Stop}
use Rattle.text_io.specs.Desk.{DeskState}
use Rattle.text_io.proofs.Took.{left_after}
use Rattle.cell_cursor.specs.declared.cursor.Answer.{Answer}
use Rattle.cell_cursor.specs.declared.cursor.Answer.TheVariants as answer
use Rattle.cell_cursor.specs.declared.cursor.CellCursor.{CellCursor}
use Rattle.cell_cursor.specs.declared.item.LibraryItem.{LibraryItem}
use Rattle.cell_cursor.specs.Ends.{AreFirst}
use Rattle.cell_cursor.specs.Finish.{part_outcome, answer_at}
use Rattle.cell_cursor.specs.Given.{HasGiven}
use Rattle.cell_cursor.specs.Items.{items_in}
use Rattle.cell_cursor.specs.Stands.{is_going, is_ended, NothingLeft, Goes, GoesBy, Knows, Stands, Advances, Moves}
use Rattle.cell_cursor.specs.Taking.{Takes}
use Rattle.cell_cursor.proofs.SeekingLemmas.{front_goes}
use Rattle.cell_cursor.proofs.TakingLemmas.{takes_none}
use Rattle.cell_cursor.proofs.StandsLemmas.{stands_by, goes_of, taken_within, going_size, given_of_going, goes_read, knows_end}
use Rattle.cell_cursor.proofs.StandsLemmas.{knows_limit, stands_going, first_more, first_of_going}

-- what is left at the end

nothing_dropped : (n : ℕ) → ◌≡◌ {A = List ℕ} (drop n []) []
nothing_dropped zero = refl
nothing_dropped (suc n) = refl

left_nothing : (left : Option (List ℕ)) (n : ℕ) → IfSome left (λ l. l ≡ []) → IfSome (option_map (drop n) left) (λ l. l ≡ [])
left_nothing None n h = tt
left_nothing (Some l) n h = ap (drop n) h ∙ nothing_dropped n

nothing_after : (s t : DeskState) (xs : List ℕ) → Takes s t xs → NothingLeft s → NothingLeft t
nothing_after s t xs h e = rw (left_after s t Library (length xs) h.state) (left_nothing (s.left Library) (length xs) e)

never_ended : {P : Type 0} (a : Option Answer) → is_ended a ≡ false → is_ended a ≡ true → P
never_ended a e h = let f : false ≡ true = sym e ∙ h in absurd cc

pub going_on : {P : Type 0} (a : Option Answer) → is_going a ≡ true → is_ended a ≡ true → P
going_on None e h = absurd cc
going_on (Some a) e h = absurd cc

pub advance_fails : (o n : CellCursor) (s t : DeskState) (xs : List ℕ) (f : Stop) → Takes s t xs → n.limit ≡ o.limit
    → n.waiting.items ≡ [] → length xs ≤ 16384 →
    o.part.before + (length o.part.bytes + length o.piece) + length xs ≤ o.limit + 1 → Advances (Err f) o n s t
advance_fails o n s t xs f h limit_is none few most = record {
  taken = xs;
  takes = h;
  limit = limit_is;
  stands = λ bytes items g. (
    none,
    subst (λ (l : ℕ). AreFirst l (bytes ++ xs) items) (sym limit_is)
        (first_more o.limit bytes xs items (first_of_going o bytes items o.limit refl g)),
    (let k = going_size o bytes items g.keeps in let j = length-append bytes xs in omega (arith, k, j, most, limit_is)),
  );
  given = λ bytes items g. given_of_going o bytes xs items few g;
  ended = tt;
}

pub advance_failed : (r : Result (Unit {0}) Stop) (f : Stop) (o n : CellCursor) (s t : DeskState) (xs : List ℕ)
    → r ≡ Err f → Takes s t xs → n.limit ≡ o.limit → n.waiting.items ≡ [] → length xs ≤ 16384 →
    o.part.before + (length o.part.bytes + length o.piece) + length xs ≤ o.limit + 1 → Advances r o n s t
advance_failed r f o n s t xs e h limit_is none few most =
    subst (λ (v : Result (Unit {0}) Stop). Advances v o n s t) (sym e)
    (advance_fails o n s t xs f h limit_is none few most)

-- statements were taken, or it was seen whether a token is refused
pub advance_takes : (found : Bool) (o m n : CellCursor) (s : DeskState)
    → ((bytes : List ℕ) (items : List LibraryItem) → Goes o bytes items → GoesBy found m bytes items) →
    m.limit ≡ o.limit → n.limit ≡ m.limit →
    ((bytes : List ℕ) (items : List LibraryItem) → GoesBy found m bytes items → Stands n bytes items) → is_ended n.answer ≡ false
    → Advances (Ok tt) o n s s
advance_takes found o m n s scans limit_is limit_on takes goes = record {
  taken = [];
  takes = takes_none s;
  limit = limit_on ∙ limit_is;
  stands = λ bytes items g. subst (λ (b : List ℕ). Stands n b items) (sym (append-nil bytes))
      (takes bytes items (scans bytes items g));
  given = λ bytes items g. given_of_going o bytes [] items (omega arith) g;
  ended = never_ended n.answer goes;
}

-- a piece was read
pub advance_reads : (o m n : CellCursor) (s t : DeskState) (xs : List ℕ)
    → ((bytes : List ℕ) (items : List LibraryItem) → Goes o bytes items → Goes m bytes items) → m.limit ≡ o.limit → m.piece ≡ []
    → Takes s t xs → n.limit ≡ m.limit → n.answer ≡ None → n.waiting.items ≡ [] →
    n.part ≡ m.part → n.place ≡ m.place → n.piece ≡ xs → Advances (Ok tt) o n s t
advance_reads o m n s t xs scans limit_is none h limit_on going no_item part_is place_is piece_is = record {
  taken = xs;
  takes = h;
  limit = limit_on ∙ limit_is;
  stands = λ bytes items g.
      (let there = goes_read m n bytes xs items none part_is place_is piece_is (scans bytes items g) in
      let k = taken_within n (bytes ++ xs) items n.limit there.keeps n.within in
      stands_going n (bytes ++ xs) items going no_item there (omega (arith, k)));
  given = λ bytes items g. given_of_going o bytes xs items (subst (λ (b : List ℕ). length b ≤ 16384) piece_is n.at_once) g;
  ended = never_ended n.answer (ap is_ended going);
}

none_few : (xs : List ℕ) → xs ≡ [] → length xs ≤ 16384
none_few xs e = let k = ap length e in omega (arith, k)

one_few : (xs : List ℕ) (y : ℕ) → xs ≡ y ∷ [] → length xs ≤ 16384
one_few xs y e = let k = ap length e in omega (arith, k)

-- the library ended
pub advance_ends : (o m n : CellCursor) (s t : DeskState) (xs : List ℕ)
    → ((bytes : List ℕ) (items : List LibraryItem) → Goes o bytes items → Goes m bytes items) → m.limit ≡ o.limit → m.piece ≡ []
    → Takes s t xs → xs ≡ [] → n.limit ≡ m.limit →
    n.answer ≡ Some (answer_at m.place m.part.before m.part.bytes true)
    → n.waiting.items ≡ reverse (items_in (part_outcome m.place m.part.before m.part.bytes)) → NothingLeft s
    → Advances (Ok tt) o n s t
advance_ends o m n s t xs scans limit_is none h nothing limit_on answer_is waits source = record {
  taken = xs;
  takes = h;
  limit = limit_on ∙ limit_is;
  stands = λ bytes items g.
      (let k = taken_within m bytes items m.limit (scans bytes items g).keeps m.within in
      let same : bytes ++ xs ≡ bytes = ap (λ (b : List ℕ). bytes ++ b) nothing ∙ append-nil bytes in
      subst (λ (b : List ℕ). Stands n b items) (sym same)
      (stands_by n (Some (answer_at m.place m.part.before m.part.bytes true)) bytes items
      (items_in (part_outcome m.place m.part.before m.part.bytes)) answer_is waits
      (knows_end m n bytes items none limit_on (scans bytes items g).keeps) (omega (arith, k, limit_on))
      (subst (λ (b : List ℕ). HasGiven b items) same (given_of_going o bytes xs items (none_few xs nothing) g))));
  given = λ bytes items g. given_of_going o bytes xs items (none_few xs nothing) g;
  ended = λ _. nothing_after s t xs h source;
}

-- the library goes on behind the limit
pub advance_stops : (o m n : CellCursor) (s t : DeskState) (xs : List ℕ) (y : ℕ)
    → ((bytes : List ℕ) (items : List LibraryItem) → Goes o bytes items → Goes m bytes items) → m.limit ≡ o.limit → m.piece ≡ []
    → m.part.before + length m.part.bytes ≡ m.limit → Takes s t xs → xs ≡ y ∷ [] → n.limit ≡ m.limit →
    n.answer ≡ Some (answer_at m.place m.part.before m.part.bytes false)
    → n.waiting.items ≡ reverse (items_in (part_outcome m.place m.part.before m.part.bytes)) → Advances (Ok tt) o n s t
advance_stops o m n s t xs y scans limit_is none full h one limit_on answer_is waits = record {
  taken = xs;
  takes = h;
  limit = limit_on ∙ limit_is;
  stands = λ bytes items g.
      (let k = taken_within m bytes items m.limit (scans bytes items g).keeps m.within in
      let j = length-append bytes (y ∷ []) in
      subst (λ (b : List ℕ). Stands n (bytes ++ b) items) (sym one)
      (stands_by n (Some (answer_at m.place m.part.before m.part.bytes false)) (bytes ++ y ∷ []) items
      (items_in (part_outcome m.place m.part.before m.part.bytes)) answer_is waits
      (knows_limit m n bytes y items none limit_on full (scans bytes items g).keeps) (omega (arith, k, j, limit_on))
      (subst (λ (b : List ℕ). HasGiven (bytes ++ b) items) one (given_of_going o bytes xs items (one_few xs y one) g))));
  given = λ bytes items g. given_of_going o bytes xs items (one_few xs y one) g;
  ended = never_ended n.answer (ap is_ended answer_is ∙ front_goes m.place m.part.before m.part.bytes);
}

-- a byte behind the limit, or none
pub advance_limit : (o m n : CellCursor) (s t : DeskState) (xs : List ℕ) (count : ℕ)
    → ((bytes : List ℕ) (items : List LibraryItem) → Goes o bytes items → Goes m bytes items) → m.limit ≡ o.limit → m.piece ≡ []
    → m.part.before + length m.part.bytes ≡ m.limit → Takes s t xs → length xs ≡ count → count ≤ 1 → n.limit ≡ m.limit →
    n.answer ≡ Some (answer_at m.place m.part.before m.part.bytes (count == 0))
    → n.waiting.items ≡ reverse (items_in (part_outcome m.place m.part.before m.part.bytes)) → (count ≡ 0 → NothingLeft s)
    → Advances (Ok tt) o n s t
advance_limit o m n s t [] count scans limit_is none full h size most limit_on answer_is waits source =
    advance_ends o m n s t [] scans limit_is none h refl limit_on
    (subst (λ (c : ℕ). n.answer ≡ Some (answer_at m.place m.part.before m.part.bytes (c == 0))) (sym size) answer_is) waits
    (source (sym size))
advance_limit o m n s t (y ∷ []) count scans limit_is none full h size most limit_on answer_is waits source =
    advance_stops o m n s t (y ∷ []) y scans limit_is none full h refl limit_on
    (subst (λ (c : ℕ). n.answer ≡ Some (answer_at m.place m.part.before m.part.bytes (c == 0))) (sym size) answer_is) waits
advance_limit o m n s t (y ∷ z ∷ xs) count scans limit_is none full h size most limit_on answer_is waits source =
    absurd (omega (arith, size, most))

-- a step that stopped settles the cursor
pub settles_stop : (o m n : CellCursor) (s t : DeskState) (f : Stop) → o.answer ≡ None → o.waiting.items ≡ []
    → Advances (Err f) o m s t → n.limit ≡ m.limit → n.answer ≡ Some (answer.Stopped f)
    → n.waiting.items ≡ m.waiting.items → Moves o n s t []
settles_stop o m n s t f going none a limit_on answer_is waits = record {
  taken = a.taken;
  takes = a.takes;
  limit = limit_on ∙ a.limit;
  stands = λ bytes items st.
      (let g = goes_of o bytes items going none st in
      let k = a.stands bytes items g in
      subst (λ (l : List LibraryItem). Stands n (bytes ++ a.taken) l) (sym (append-nil items))
      (stands_by n (Some (answer.Stopped f)) (bytes ++ a.taken) items [] answer_is (waits ∙ k.0)
      (subst (λ (l : ℕ). AreFirst l (bytes ++ a.taken) (items ++ [])) (sym limit_on)
      (subst (λ (m' : List LibraryItem). AreFirst m.limit (bytes ++ a.taken) m') (sym (append-nil items)) k.1))
      (let j = k.2 in omega (arith, j, limit_on))
      (a.given bytes items g)));
  given_before = λ bytes items st. a.given bytes items (goes_of o bytes items going none st);
  ended = λ _. never_ended n.answer (ap is_ended answer_is);
}

-- a step that did not fail
pub settles_step : (o n : CellCursor) (s t : DeskState) → o.answer ≡ None → o.waiting.items ≡ [] → Advances (Ok tt) o n s t
    → Moves o n s t []
settles_step o n s t going none a = record {
  taken = a.taken;
  takes = a.takes;
  limit = a.limit;
  stands = λ bytes items st. subst (λ (l : List LibraryItem). Stands n (bytes ++ a.taken) l) (sym (append-nil items))
      (a.stands bytes items (goes_of o bytes items going none st));
  given_before = λ bytes items st. a.given bytes items (goes_of o bytes items going none st);
  ended = λ _. a.ended;
}

-- a step after some scanning
pub advance_scanned : (r : Result (Unit {0}) Stop) (o m n : CellCursor) (s t : DeskState)
    → ((bytes : List ℕ) (items : List LibraryItem) → Goes o bytes items → Goes m bytes items) →
    m.limit ≡ o.limit → Advances r m n s t → Advances r o n s t
advance_scanned r o m n s t scans limit_is a = record {
  taken = a.taken;
  takes = a.takes;
  limit = a.limit ∙ limit_is;
  stands = λ bytes items g. a.stands bytes items (scans bytes items g);
  given = λ bytes items g. a.given bytes items (scans bytes items g);
  ended = a.ended;
}

pub nil_of : (xs : List ℕ) → length xs ≡ 0 → xs ≡ []
nil_of [] e = refl
nil_of (x ∷ xs) e = absurd (omega (arith, e))
