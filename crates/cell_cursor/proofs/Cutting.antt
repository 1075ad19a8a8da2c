-- A part is cut where a statement ended, before a token that is in it.
use Rattle.std.proofs.Common.{◌≡◌, ℕ, ◌+◌, ◌≤◌, false, List, [], ◌∷◌, ◌++◌, map, reverse, length, take, drop, Option, None, Some}
use Rattle.std.proofs.Common.{IfSome, refl, sym, ap, subst, ◌∙◌, arith, length-append}
use Rattle.std.proofs.lemmas.List.{append-nil, append_assoc, append_cancel_left, take-append-drop, length-take-le, map-append}
use Rattle.std.proofs.Math.Seq.{take-append_seam, drop-append_seam}
use Rattle.grammar_rules.specs.Reading.{and_then, read}
use Rattle.liberty_text.specs.declared.token.Token.{Token}
use Rattle.liberty_text.specs.declared.token.Stop.{Stop}
use Rattle.liberty_text.specs.declared.token.Stop.TheVariants.{End}
use Rattle.liberty_text.specs.declared.scanner.Mode.{Mode}
use Rattle.liberty_text.specs.declared.scanner.Mode.TheVariants.{Between}
use Rattle.liberty_text.specs.Scanner.{run, closing, after_tokens, scan_of}
use Rattle.liberty_text.specs.Tokens.{Lexes, Reads}
use Rattle.liberty_text.specs.Tokens as lex
use Rattle.liberty_text.proofs.Complete.{one_reading}
use Rattle.liberty_text.proofs.Sound.{reads, sound}
use Rattle.liberty_groups.specs.Lexeme.{Lexeme, behind, lexeme_behind, lexemes_of, lexemes_behind, LieInside}
use Rattle.liberty_groups.specs.Answer.{is_last}
use Rattle.liberty_groups.proofs.Around.{around}
use Rattle.liberty_groups.proofs.Lexemes.{inside_reads}
use Rattle.cell_cursor.specs.declared.cursor.CellCursor.{CellCursor}
use Rattle.cell_cursor.specs.declared.item.LibraryItem.{LibraryItem}
use Rattle.cell_cursor.specs.declared.part.Place.{Place}
use Rattle.cell_cursor.specs.declared.part.Place.TheVariants as place
use Rattle.cell_cursor.specs.Braces.{has_outer, kinds_of}
use Rattle.cell_cursor.specs.Cut.{IsCut}
use Rattle.cell_cursor.specs.Given.{HasSeen, HasGiven}
use Rattle.cell_cursor.specs.Items.{statements_after, library_end, rest_inside, rest_at, items_outcome}
use Rattle.cell_cursor.specs.Leads.{LeadTo}
use Rattle.cell_cursor.specs.Progress.{scanned_by}
use Rattle.cell_cursor.specs.Reached.{ReadsOn, ReadsUpTo}
use Rattle.cell_cursor.specs.Scanned.{Scanned, AreScanned, stop_behind}
use Rattle.cell_cursor.specs.Stands.{Keeps, Goes, Stands}
use Rattle.cell_cursor.proofs.GivenLemmas.{seen_items}
use Rattle.cell_cursor.proofs.LeadsLemmas.{stop_twice}
use Rattle.cell_cursor.proofs.Prefix.{prefixed, rest_prefixed, rest_behind}
use Rattle.cell_cursor.proofs.ScannedLemmas.{scan_splits}
use Rattle.cell_cursor.proofs.Shift.{all_moved, scan_behind, lexemes_moved, lexemes_longer, lexemes_split}
use Rattle.cell_cursor.proofs.StandsLemmas.{stands_by, stands_same, going_still, taken_within, given_of_going}

-- bytes after a token are read as they would be alone
pub record Restarts (b : List ℕ) (front : List Token) (n : ℕ) : Type 0 where
  pub scanned : scan_of b ≡ after_tokens front (run (Between false) n (drop n b))
  pub within : n ≤ length b
  pub inside : LieInside (take n b) front

pub restarts : (b : List ℕ) (E : List Token) (t : Token) (V : List Token) → (scan_of b).0 ≡ E ++ t ∷ V
    → Restarts b (E ++ t ∷ []) t.end
restarts b E t V e =
    let c = around (reads b (scan_of b).0 (scan_of b).1 refl refl) E t V e in
    let head = c.q ++ c.w in
    let size : t.end ≡ length head = (let p = c.place in let l = c.long in let k = length-append c.q c.w in omega arith) in
    let whole : b ≡ head ++ c.r = c.split ∙ sym (append_assoc c.q c.w c.r) in
    let left : drop t.end b ≡ c.r = ap (λ (n : ℕ). drop n b) size ∙ ap (drop (length head)) whole ∙ drop-append_seam head c.r in
    let first : take t.end b ≡ head = ap (λ (n : ℕ). take n b) size ∙ ap (take (length head)) whole ∙ take-append_seam head c.r in
    let us = (run (Between false) t.end c.r).0 in
    let stop = (run (Between false) t.end c.r).1 in
    let lexes : Lexes 0 false b (E ++ t ∷ us) stop =
    subst (λ (s : List ℕ). Lexes 0 false s (E ++ t ∷ us) stop) (sym c.split)
    (c.goes (c.w ++ c.r) (t ∷ us) stop (c.begins c.r) (c.spells c.r us stop c.ends (sound c.r (Between false) t.end))) in
    let short : Reads head (E ++ t ∷ []) End =
    subst (λ (s : List ℕ). Lexes 0 false s (E ++ t ∷ []) End) (ap (λ (s : List ℕ). c.q ++ s) (append-nil c.w))
    (c.goes (c.w ++ []) (t ∷ []) End (c.begins []) (c.spells [] [] End (λ _. refl) lex.end)) in
    record {
      scanned =
          (one_reading b (E ++ t ∷ us) stop).0 lexes
          ∙ ap (λ (ts : List Token). (ts, stop)) (sym (append_assoc E (t ∷ []) us))
          ∙ ap (λ (s : List ℕ). after_tokens (E ++ t ∷ []) (run (Between false) t.end s)) (sym left);
      within = (let k = ap length whole in let j = length-append head c.r in omega arith);
      inside = subst (λ (s : List ℕ). LieInside s (E ++ t ∷ [])) (sym first) (inside_reads short);
    }

drop_more : (n : ℕ) (xs ys : List ℕ) → n ≤ length xs → drop n (xs ++ ys) ≡ drop n xs ++ ys
drop_more n xs ys h =
    let size : length (take n xs) ≡ n = length-take-le n xs h in
    ap (λ (s : List ℕ). drop n (s ++ ys)) (sym (take-append-drop n xs))
    ∙ ap (drop n) (append_assoc (take n xs) (drop n xs) ys)
    ∙ ap (λ (k : ℕ). drop k (take n xs ++ (drop n xs ++ ys))) (sym size)
    ∙ drop-append_seam (take n xs) (drop n xs ++ ys)

-- the bytes before the cut lead on
leads_past : (before front tail : List ℕ) (ts : List Token) (items all : List LibraryItem)
    → LeadTo before (front ++ tail) place.Inside items →
    scan_of (front ++ tail) ≡ after_tokens ts (all_moved (length front) (scan_of tail)) → LieInside front ts →
    read (rest_at place.Inside []) (lexemes_behind (length before) front ts
    ++ lexemes_behind (length before + length front) tail (scan_of tail).0) ≡ read (rest_at place.Inside all)
    (lexemes_behind (length before + length front) tail (scan_of tail).0) →
    LeadTo (before ++ front) tail place.Inside (items ++ all)
leads_past before front tail ts items all leads scanned inside comes = record {
  outcome =
      ap items_outcome (append_assoc before front tail)
      ∙ leads.outcome
      ∙ ap (read (rest_at place.Inside items))
      (ap (λ (p : List Token × Stop). lexemes_behind (length before) (front ++ tail) p.0) scanned
      ∙ lexemes_split (length before) front tail ts (scan_of tail).0 inside)
      ∙ rest_behind place.Inside items
      (lexemes_behind (length before) front ts ++ lexemes_behind (length before + length front) tail (scan_of tail).0)
      ∙ ap (prefixed items) comes
      ∙ sym (rest_prefixed place.Inside items all (lexemes_behind (length before + length front) tail (scan_of tail).0))
      ∙ ap (λ (n : ℕ). read (rest_at place.Inside (items ++ all)) (lexemes_behind n tail (scan_of tail).0))
      (sym (length-append before front));
  stop =
      ap (λ (b : List ℕ). (scan_of b).1) (append_assoc before front tail)
      ∙ leads.stop
      ∙ ap (λ (p : List Token × Stop). stop_behind (length before) p.1) scanned
      ∙ stop_twice (length before) (length front) (scan_of tail).1
      ∙ ap (λ (n : ℕ). stop_behind n (scan_of tail).1) (sym (length-append before front));
  several = λ e. ap (λ (b : List ℕ). is_last (lexemes_of b (scan_of b).0)) (append_assoc before front tail) ∙ leads.several refl;
  begins = λ e. absurd cc;
}

-- statements that end before a token, with others behind it
reads_past : (all : List LibraryItem) (s k others : List Lexeme) → ReadsOn [] (s ++ k) all k →
    read (rest_at place.Inside []) (s ++ (k ++ others)) ≡ read (rest_at place.Inside all) (k ++ others)
unfolding rest_inside
reads_past all s k others h =
    ap (λ (l : List Lexeme). and_then (read (statements_after []) l) (λ found m. read (library_end found) m))
    (sym (append_assoc s k others))
    ∙ ap (λ o. and_then o (λ found m. read (library_end found) m)) (h others)

-- of lists of one length the ends of a list are equal
same_end : {T : Type 0} (a b c d : List T) → a ++ b ≡ c ++ d → length b ≡ length d → (a ≡ c) × (b ≡ d)
same_end [] b [] d e h = (refl, e)
same_end [] b (y ∷ c) d e h = absurd (let k = ap length e in let j = length-append c d in omega arith)
same_end (x ∷ a) b [] d e h = absurd (let k = ap length e in let j = length-append a b in omega arith)
same_end {T} (x ∷ a) b (y ∷ c) d e h =
    let i = same_end a b c d (tails e) h in
    (ap (λ (l : List T). x ∷ l) i.0 ∙ ap (λ (z : T). z ∷ c) (heads e), i.1)
  where
    tails : {x y : T} {s t : List T} → x ∷ s ≡ y ∷ t → s ≡ t
    tails e = cc

    heads : {x y : T} {s t : List T} → x ∷ s ≡ y ∷ t → x ≡ y
    heads e = cc

length_map : (n : ℕ) (text : List ℕ) (ts : List Token) → length (lexemes_behind n text ts) ≡ length ts
length_map n text [] = refl
length_map n text (t ∷ ts) = let k = length_map n text ts in omega arith

inside_back : (text : List ℕ) (ts us : List Token) → LieInside text (ts ++ us) → LieInside text us
inside_back text [] us h = h
inside_back text (t ∷ ts) us h = inside_back text ts us h.2

-- what stands behind the cut, whatever follows
cut_leads : (before bytes more : List ℕ) (E : List Token) (t : Token) (back : List Token) (mode : Mode)
    (items all : List LibraryItem) →
    LeadTo before (bytes ++ more) place.Inside items → AreScanned bytes ((E ++ t ∷ []) ++ back) mode
    → LieInside bytes ((E ++ t ∷ []) ++ back) →
    ReadsUpTo [] (lexemes_behind (length before) bytes ((E ++ t ∷ []) ++ back)) all (length back) →
    LeadTo (before ++ take t.end bytes) (drop t.end bytes ++ more) place.Inside (items ++ all)
cut_leads before bytes more E t back mode items all leads scanned inside (s, k, split, size, on) =
    let front = E ++ t ∷ [] in
    let nb = length before in
    let short : Restarts bytes front t.end =
    restarts bytes E t (back ++ (closing mode (length bytes)).0)
    (ap (λ (p : List Token × Stop). p.0) (scan_splits bytes (front ++ back) mode scanned)
    ∙ append_assoc front back (closing mode (length bytes)).0
    ∙ append_assoc E (t ∷ []) (back ++ (closing mode (length bytes)).0)) in
    let us = (run mode (length bytes) more).0 in
    let tokens : (scan_of (bytes ++ more)).0 ≡ front ++ (back ++ us) = ap (λ (p : List Token × Stop). p.0) (scanned more)
    ∙ append_assoc front back us in
    let long : Restarts (bytes ++ more) front t.end =
    restarts (bytes ++ more) E t (back ++ us) (tokens ∙ append_assoc E (t ∷ []) (back ++ us)) in
    let head = take t.end bytes in
    let tail = drop t.end bytes ++ more in
    let head_size : length head ≡ t.end = length-take-le t.end bytes short.within in
    let whole : bytes ++ more ≡ head ++ tail = ap (λ (b : List ℕ). b ++ more) (sym (take-append-drop t.end bytes))
    ∙ append_assoc head (drop t.end bytes) more in
    let again : scan_of (bytes ++ more) ≡ after_tokens front (all_moved (length head) (scan_of tail)) =
    long.scanned
    ∙ ap (λ (b : List ℕ). after_tokens front (run (Between false) t.end b)) (drop_more t.end bytes more short.within)
    ∙ ap (λ (n : ℕ). after_tokens front (run (Between false) n tail)) (sym head_size)
    ∙ ap (after_tokens front) (scan_behind (length head) tail) in
    let moved : map (behind (length head)) (scan_of tail).0 ≡ back ++ us =
    append_cancel_left front (map (behind (length head)) (scan_of tail).0) (back ++ us)
    (sym (ap (λ (p : List Token × Stop). p.0) again) ∙ tokens) in
    let others = lexemes_behind nb (bytes ++ more) us in
    let behind_all : lexemes_behind (nb + length head) tail (scan_of tail).0 ≡ lexemes_behind nb bytes back ++ others =
    sym (lexemes_moved nb head tail (scan_of tail).0)
    ∙ ap (λ (b : List ℕ). lexemes_behind nb b (map (behind (length head)) (scan_of tail).0)) (sym whole)
    ∙ ap (lexemes_behind nb (bytes ++ more)) moved
    ∙ map-append (lexeme_behind nb (bytes ++ more)) back us
    ∙ ap (λ (l : List Lexeme). l ++ others) (lexemes_longer nb bytes more back (inside_back bytes front back inside)) in
    let parts : (lexemes_behind nb bytes front ≡ s) × (lexemes_behind nb bytes back ≡ k) =
    same_end (lexemes_behind nb bytes front) (lexemes_behind nb bytes back) s k
    (sym (map-append (lexeme_behind nb bytes) front back) ∙ split) (length_map nb bytes back ∙ sym size) in
    let front_same : lexemes_behind nb head front ≡ s =
    sym (lexemes_longer nb head (drop t.end bytes) front short.inside)
    ∙ ap (λ (b : List ℕ). lexemes_behind nb b front) (take-append-drop t.end bytes) ∙ parts.0 in
    let on' : ReadsOn [] (s ++ k) all k = subst (λ (l : List Lexeme). ReadsOn [] l all k) split on in
    let all_same : lexemes_behind (nb + length head) tail (scan_of tail).0 ≡ k ++ others =
    behind_all ∙ ap (λ (l : List Lexeme). l ++ others) parts.1 in
    leads_past before head tail front items all (subst (λ (b : List ℕ). LeadTo before b place.Inside items) whole leads)
    (ap scan_of (sym whole) ∙ again) short.inside
    (ap (λ (l : List Lexeme). read (rest_at place.Inside []) (l ++ lexemes_behind (nb + length head) tail (scan_of tail).0))
    front_same
    ∙ ap (λ (l : List Lexeme). read (rest_at place.Inside []) (s ++ l)) all_same
    ∙ reads_past all s k others on'
    ∙ ap (read (rest_at place.Inside all)) (sym all_same))

end_within : (text : List ℕ) (E : List Token) (t : Token) (back : List Token) → LieInside text ((E ++ t ∷ []) ++ back)
    → t.end ≤ length text
end_within text [] t back h = h.1
end_within text (u ∷ E) t back h = end_within text E t back h.2

-- statements were taken before a name, and what is behind them was scanned anew
pub stands_past : (o n : CellCursor) (front back E : List Token) (t : Token) (all : List LibraryItem) → o.answer ≡ None
    → o.place ≡ place.Inside →
    AreScanned o.part.bytes o.part.tokens o.part.mode → LieInside o.part.bytes o.part.tokens → o.part.tokens ≡ front ++ back
    → front ≡ E ++ t ∷ [] →
    ReadsUpTo [] (lexemes_behind o.part.before o.part.bytes o.part.tokens) all (length back) →
    n.limit ≡ o.limit → n.answer ≡ o.answer → n.place ≡ o.place → n.piece ≡ o.piece → n.part.before ≡ o.part.before + t.end
    → n.part.bytes ≡ drop t.end o.part.bytes →
    has_outer place.Inside (kinds_of n.part.tokens) ≡ false → n.waiting.items ≡ reverse all
    → (bytes : List ℕ) (items : List LibraryItem) → Goes o bytes items → Stands n bytes items
stands_past o n front back E t all going here scanned inside split last reach limit_is answer_is place_is piece_is before_is
    bytes_are none waits bytes items goes =
    let g = goes.keeps in
    let tokens : o.part.tokens ≡ (E ++ t ∷ []) ++ back = split ∙ ap (λ (l : List Token). l ++ back) last in
    let scanned' : AreScanned o.part.bytes ((E ++ t ∷ []) ++ back) o.part.mode =
    subst (λ (l : List Token). AreScanned o.part.bytes l o.part.mode) tokens scanned in
    let inside' : LieInside o.part.bytes ((E ++ t ∷ []) ++ back) =
    subst (λ (l : List Token). LieInside o.part.bytes l) tokens inside in
    let reach' : ReadsUpTo [] (lexemes_behind (length g.before) o.part.bytes ((E ++ t ∷ []) ++ back)) all (length back) =
    subst (λ (k : ℕ). ReadsUpTo [] (lexemes_behind k o.part.bytes ((E ++ t ∷ []) ++ back)) all (length back)) g.size
    (subst (λ (l : List Token). ReadsUpTo [] (lexemes_behind o.part.before o.part.bytes l) all (length back)) tokens reach) in
    let within : t.end ≤ length o.part.bytes = end_within o.part.bytes E t back inside' in
    let head = take t.end o.part.bytes in
    let head_size : length head ≡ t.end = length-take-le t.end o.part.bytes within in
    let sizes : length o.part.bytes ≡ t.end + length n.part.bytes =
    (let k = ap length (take-append-drop t.end o.part.bytes) in let j = ap length bytes_are
    in omega (arith, k, j, head_size, length-append head (drop t.end o.part.bytes))) in
    let same : scanned_by o ≡ scanned_by n = omega (arith, before_is, sizes) in
    let keeps : Keeps n bytes (items ++ all) = record {
      before = g.before ++ head;
      split =
          g.split
          ∙ ap (λ (b : List ℕ). g.before ++ (b ++ o.piece)) (sym (take-append-drop t.end o.part.bytes))
          ∙ ap (λ (b : List ℕ). g.before ++ b) (append_assoc head (drop t.end o.part.bytes) o.piece)
          ∙ sym (append_assoc g.before head (drop t.end o.part.bytes ++ o.piece))
          ∙ ap (λ (b : List ℕ). (g.before ++ head) ++ (b ++ o.piece)) (sym bytes_are)
          ∙ ap (λ (b : List ℕ). (g.before ++ head) ++ (n.part.bytes ++ b)) (sym piece_is);
      size = (let k = g.size in let j = length-append g.before head in omega (arith, before_is, k, j, head_size));
      leads = λ more.
          subst (λ (p : Place). LeadTo (g.before ++ head) (n.part.bytes ++ more) p (items ++ all)) (sym (place_is ∙ here))
          (subst (λ (b : List ℕ). LeadTo (g.before ++ head) (b ++ more) place.Inside (items ++ all)) (sym bytes_are)
          (cut_leads g.before o.part.bytes more E t back o.part.mode items all
          (subst (λ (p : Place). LeadTo g.before (o.part.bytes ++ more) p items) here (g.leads more)) scanned' inside'
          reach'));
    } in
    let k = taken_within o bytes items o.limit g o.within in
    stands_by n None bytes items all (answer_is ∙ going) waits
    (record {
      keeps = keeps;
      inner = subst (λ (p : Place). has_outer p (kinds_of n.part.tokens) ≡ false) (sym (place_is ∙ here)) none;
      seen = subst (λ (m : ℕ). HasSeen (m + 1) bytes (items ++ all)) same
          (seen_items (scanned_by o + 1) bytes items all goes.seen);
    })
    (omega (arith, k, limit_is))
    (subst (λ (b : List ℕ). HasGiven b items) (append-nil bytes) (given_of_going o bytes [] items (omega arith) goes))

-- as found by the code

some_cut : (here : Place) (part rest : Scanned) (all : List LibraryItem) (found : Option Scanned)
    → IfSome found (λ r. IsCut here part r all) → found ≡ Some rest → IsCut here part rest all
some_cut here part rest all found h e = subst (λ (v : Option Scanned). IfSome v (λ r. IsCut here part r all)) e h

pub stands_cut : (o n : CellCursor) (part rest : Scanned) (all : List LibraryItem) (found : Option Scanned) → o.answer ≡ None
    → part ≡ o.part → IfSome found (λ r. IsCut o.place part r all) → found ≡ Some rest → n.part ≡ rest →
    n.limit ≡ o.limit → n.answer ≡ o.answer → n.place ≡ o.place → n.piece ≡ o.piece → n.waiting.items ≡ reverse all
    → (bytes : List ℕ) (items : List LibraryItem) → Goes o bytes items → Stands n bytes items
stands_cut o n part rest all found going part_is cut is rest_is limit_is answer_is place_is piece_is waits bytes items goes =
    let c : IsCut o.place o.part n.part all =
    subst (λ (p : Scanned). IsCut o.place o.part p all) (sym rest_is)
    (subst (λ (p : Scanned). IsCut o.place p rest all) part_is (some_cut o.place part rest all found cut is)) in
    stands_past o n (c.before_last ++ c.last ∷ []) c.back c.before_last c.last all going c.inside_library c.scanned c.lie_inside
    c.split refl c.reach limit_is answer_is place_is piece_is c.before c.bytes c.inner waits bytes items goes

-- a cut takes no byte and adds none
pub cut_size : (here : Place) (part rest : Scanned) (all : List LibraryItem) (found : Option Scanned)
    → IfSome found (λ r. IsCut here part r all) → found ≡ Some rest →
    rest.before + length rest.bytes ≡ part.before + length part.bytes
cut_size here part rest all found h e =
    let c = some_cut here part rest all found h e in
    let within : c.last.end ≤ length part.bytes =
    end_within part.bytes c.before_last c.last c.back
    (subst (λ (l : List Token). LieInside part.bytes l) c.split c.lie_inside) in
    let head_size : length (take c.last.end part.bytes) ≡ c.last.end = length-take-le c.last.end part.bytes within in
    let k = ap length (take-append-drop c.last.end part.bytes) in
    let j = ap length c.bytes in
    let b = c.before in
    omega (arith, k, j, b, head_size, length-append (take c.last.end part.bytes) (drop c.last.end part.bytes))

pub going_as : (o n : CellCursor) → o.answer ≡ None → o.waiting.items ≡ [] → n.limit ≡ o.limit → n.place ≡ o.place
    → n.piece ≡ o.piece → n.part ≡ o.part → n.answer ≡ o.answer → n.waiting.items ≡ o.waiting.items →
    (bytes : List ℕ) (items : List LibraryItem) → Goes o bytes items → Stands n bytes items
going_as o n going no_item limit_is place_is piece_is part_is answer_is waits bytes items g =
    stands_same o n bytes items limit_is place_is piece_is part_is answer_is waits (going_still o going no_item bytes items g)
