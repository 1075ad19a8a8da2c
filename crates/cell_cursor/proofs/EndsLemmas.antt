-- How a library ends, from where its last part begins.
use Rattle.std.proofs.Common.{◌≡◌, ◌≢◌, ℕ, ◌+◌, ◌≤◌, ◌==◌, nat_lt, Bool, true, false, not, ◌&&◌, ◌||◌, cond, List, [], ◌∷◌, ◌++◌}
use Rattle.std.proofs.Common.{length, Option, Some, None, is_some, Ok, Err, refl, sym, ap, subst, ◌∙◌, arith, length-append}
use Rattle.std.proofs.lemmas.Bool.Decides.{nat_tests}
use Rattle.std.proofs.lemmas.List.{append_assoc}
use Rattle.std.proofs.Math.Bool.{and-false as and_false}
use Rattle.grammar_rules.specs.Reading.{read}
use Rattle.grammar_rules.proofs.Steps.{rest_of}
use Rattle.grammar_rules.proofs.Fronts.{UsesUp}
use Rattle.liberty_text.specs.declared.token.Stop.{Stop}
use Rattle.liberty_text.specs.declared.token.Stop.TheVariants.{End, BadByte, OpenText, OpenComment, OpenContinuation}
use Rattle.liberty_text.specs.declared.token.Token.{Token}
use Rattle.liberty_text.specs.declared.token.TokenKind.{TokenKind}
use Rattle.liberty_text.specs.declared.token.TokenKind.TheVariants.{Word, Text, Brace, Colon, Semicolon, Comma}
use Rattle.liberty_text.specs.declared.scanner.Mode.{Mode}
use Rattle.liberty_text.specs.Scanner.{scan_of}
use Rattle.liberty_groups.specs.declared.fault.LibraryFault.{LibraryFault}
use Rattle.liberty_groups.specs.declared.fault.Refusal.{Refusal}
use Rattle.liberty_groups.specs.declared.read.End.{End as Ending}
use Rattle.liberty_groups.specs.declared.read.End.TheVariants.{Whole, Cut, Fault}
use Rattle.liberty_groups.specs.declared.read.Halt.{Halt}
use Rattle.liberty_groups.specs.declared.read.Halt.TheVariants as halt
use Rattle.liberty_groups.specs.declared.outline.Standing.{Standing}
use Rattle.liberty_groups.specs.declared.outline.Standing.TheVariants.{Start}
use Rattle.liberty_groups.specs.Outline.{stands, has_outline}
use Rattle.liberty_groups.specs.Lexeme.{Lexeme, lexemes_of, lexemes_behind, LieInside}
use Rattle.liberty_groups.specs.Fault.{fault_at}
use Rattle.liberty_groups.specs.Library.{library, is_word}
use Rattle.liberty_groups.specs.Answer.{is_nil, is_last, is_end, is_unfinished, may_become_other, halt_at, fault_of, closed_text}
use Rattle.liberty_groups.specs.Answer.{closed_has_outline, goes_on_after, end_by, end_of, end_of_bytes, EndsSo}
use Rattle.liberty_groups.specs.Answer as whole
use Rattle.liberty_groups.proofs.Completions.{used_stands, stands_used}
use Rattle.liberty_groups.proofs.Exactly.{reads_so}
use Rattle.cell_cursor.specs.declared.cursor.Answer.{Answer}
use Rattle.cell_cursor.specs.declared.cursor.Answer.TheVariants as answer
use Rattle.cell_cursor.specs.declared.item.LibraryItem.{LibraryItem}
use Rattle.cell_cursor.specs.declared.part.Place.{Place}
use Rattle.cell_cursor.specs.declared.part.Place.TheVariants as place
use Rattle.cell_cursor.specs.Items.{rest_at, items_in, items_outcome, items_of_bytes}
use Rattle.cell_cursor.specs.Finish.{part_outcome, left_in, halt_in, part_halt, goes_on_closed, goes_on_from, may_go_on}
use Rattle.cell_cursor.specs.Finish.{answer_by, answer_at}
use Rattle.cell_cursor.specs.Leads.{LeadTo, is_start}
use Rattle.cell_cursor.specs.Reached.{is_settled}
use Rattle.cell_cursor.specs.Scanned.{AreScanned, stop_behind}
use Rattle.cell_cursor.proofs.Closed.{refuses_on}
use Rattle.cell_cursor.proofs.Gathers.{listed, library_listed, outcome_listed, halt_listed}
use Rattle.cell_cursor.proofs.LeadsLemmas.{leads_here, lexemes_zero, part_lexemes}
use Rattle.cell_cursor.proofs.Prefix.{Told, prefixed, rest_behind, items_prefixed}

abbrev tokens_of : List ℕ → List Lexeme
tokens_of b = lexemes_of b (scan_of b).0

-- the end of a library, by its items in order
ends_so : (b : List ℕ) (w : Bool)
    → end_of_bytes b w ≡ end_of b w (halt_in (length b) (is_last (tokens_of b)) (items_outcome b)) (scan_of b).1
ends_so b w =
    ap (λ o. end_of b w (whole.halt_of (length b) (is_last (tokens_of b)) o) (scan_of b).1) (outcome_listed b)
    ∙ ap (λ (h : Halt). end_of b w h (scan_of b).1) (halt_listed (length b) (is_last (tokens_of b)) (items_outcome b))

-- a refused token

below : (a e len : ℕ) → nat_lt a e ≡ true → e ≤ len → (a == len) ≡ false
below a e len h i = grind (arith, nat_tests, h, i)

final_word : (k : TokenKind) (a e len : ℕ) (c : Bool) → (not (is_word k) || nat_lt a e) ≡ true → e ≤ len
    → (is_word k && (a == len && c)) ≡ false
final_word Word a e len c h i = ap (λ (x : Bool). x && c) (below a e len h i)
final_word Text a e len c h i = refl
final_word (Brace b) a e len c h i = refl
final_word Colon a e len c h i = refl
final_word Semicolon a e len c h i = refl
final_word Comma a e len c h i = refl

final_finished : (e len : ℕ) (is_only : Bool) (x : Lexeme) (m others : List Lexeme) → is_settled e x m ≡ true → e ≤ len
    → is_unfinished len is_only (x ∷ (m ++ others)) ≡ false
final_finished e len is_only x [] [] h i = final_word x.token.kind x.token.end e len (may_become_other is_only x.bytes) h i
final_finished e len is_only x [] (y ∷ others) h i = refl
final_finished e len is_only x (y ∷ m) others h i = refl

stays_refused : (b : List ℕ) (w : Bool) (k : Refusal) (at : ℕ) (u : Bool) (stop : Stop) → u ≡ false
    → end_of b w (halt.Refused k at u) stop ≡ Fault (fault_at k at)
stays_refused b true k at u stop e = refl
stays_refused b false k at u stop e =
    ap (λ (x : Bool). cond (is_end stop && x) Cut (Fault (fault_at k at))) e
    ∙ ap (λ (x : Bool). cond x Cut (Fault (fault_at k at))) (and_false (is_end stop))

refused_end : (b : List ℕ) (w : Bool) (items : List LibraryItem) (k : Refusal) (x : Lexeme) (m others : List Lexeme) (e : ℕ)
    → items_outcome b ≡ Err ((items, k), x ∷ (m ++ others)) →
    is_settled e x m ≡ true → e ≤ length b → end_of_bytes b w ≡ Fault (fault_at k x.token.at)
refused_end b w items k x m others e h f i =
    ends_so b w
    ∙ ap (λ (o : Told). end_of b w (halt_in (length b) (is_last (tokens_of b)) o) (scan_of b).1) h
    ∙ stays_refused b w k x.token.at (is_unfinished (length b) (is_last (tokens_of b)) (x ∷ (m ++ others))) (scan_of b).1
    (final_finished e (length b) (is_last (tokens_of b)) x m others f i)

-- a token of a part that is refused is refused whatever follows the part
pub refused_on : (before bytes : List ℕ) (tokens : List Token) (mode : Mode) (here : Place) (items all : List LibraryItem)
    (k : Refusal) (x : Lexeme) (m : List Lexeme) (more : List ℕ) →
    ((tail : List ℕ) → LeadTo before (bytes ++ tail) here items) → AreScanned bytes tokens mode → LieInside bytes tokens
    → read (rest_at here []) (lexemes_behind (length before) bytes tokens) ≡ Err ((all, k), x ∷ m) →
    (others : List Lexeme) × (items_outcome (before ++ (bytes ++ more)) ≡ Err ((items ++ all, k), x ∷ (m ++ others)))
refused_on before bytes tokens mode here items all k x m more leads scanned inside e =
    let split = part_lexemes (length before) bytes tokens mode more scanned inside in (
      split.0,
      (leads more).outcome
          ∙ ap (read (rest_at here items)) split.1
          ∙ rest_behind here items (lexemes_behind (length before) bytes tokens ++ split.0)
          ∙ ap (prefixed items) (refuses_on (rest_at here []) (lexemes_behind (length before) bytes tokens)
          (all, k) x m split.0 e),
    )

pub refused_reads : (before bytes : List ℕ) (tokens : List Token) (mode : Mode) (here : Place) (items all : List LibraryItem)
    (k : Refusal) (x : Lexeme) (m : List Lexeme) (more : List ℕ) →
    ((tail : List ℕ) → LeadTo before (bytes ++ tail) here items) → AreScanned bytes tokens mode → LieInside bytes tokens
    → read (rest_at here []) (lexemes_behind (length before) bytes tokens) ≡ Err ((all, k), x ∷ m) →
    is_settled (length before + length bytes) x m ≡ true →
    (items ++ all ≡ items_of_bytes (before ++ (bytes ++ more)))
    × ((w : Bool) → end_of_bytes (before ++ (bytes ++ more)) w ≡ Fault (fault_at k x.token.at))
refused_reads before bytes tokens mode here items all k x m more leads scanned inside e f =
    let on = refused_on before bytes tokens mode here items all k x m more leads scanned inside e in
    let size : length before + length bytes ≤ length (before ++ (bytes ++ more)) =
    omega (arith, length-append before (bytes ++ more), length-append bytes more) in (
      sym (ap items_in on.1),
      λ w. refused_end (before ++ (bytes ++ more)) w (items ++ all) k x m on.0 (length before + length bytes) on.1 f size,
    )

-- the end of the last part

halt_prefixed : (len : ℕ) (is_only : Bool) (pre : List LibraryItem) (o : Told)
    → halt_in len is_only (prefixed pre o) ≡ halt_in len is_only o
halt_prefixed len is_only pre (Ok p) = refl
halt_prefixed len is_only pre (Err e) = refl

left_prefixed : (pre : List LibraryItem) (o : Told) → left_in (prefixed pre o) ≡ left_in o
left_prefixed pre (Ok p) = refl
left_prefixed pre (Err e) = refl

part_read : (before bytes : List ℕ) (here : Place) (items : List LibraryItem) → LeadTo before bytes here items
    → items_outcome (before ++ bytes) ≡ prefixed items (part_outcome here (length before) bytes)
unfolding part_outcome
part_read before bytes here items leads =
    leads.outcome ∙ rest_behind here items (lexemes_behind (length before) bytes (scan_of bytes).0)

only_token : (before bytes : List ℕ) (here : Place) (items : List LibraryItem) → LeadTo before bytes here items →
    is_last (tokens_of (before ++ bytes)) ≡ (is_start here && is_last (lexemes_behind (length before) bytes (scan_of bytes).0))
only_token before bytes place.Start items leads =
    let none : before ≡ [] = leads.begins refl in
    ap (λ (b : List ℕ). is_last (tokens_of (b ++ bytes))) none
    ∙ ap is_last (lexemes_zero bytes (scan_of bytes).0)
    ∙ ap (λ (b : List ℕ). is_last (lexemes_behind (length b) bytes (scan_of bytes).0)) (sym none)
only_token before bytes place.Inside items leads = leads.several refl
only_token before bytes place.Behind items leads = leads.several refl

part_halts : (before bytes : List ℕ) (here : Place) (items : List LibraryItem) → LeadTo before bytes here items →
    halt_in (length (before ++ bytes)) (is_last (tokens_of (before ++ bytes))) (items_outcome (before ++ bytes)) ≡ part_halt here
    (length before) bytes
unfolding part_halt
part_halts before bytes here items leads =
    ap (halt_in (length (before ++ bytes)) (is_last (tokens_of (before ++ bytes)))) (part_read before bytes here items leads)
    ∙ halt_prefixed (length (before ++ bytes)) (is_last (tokens_of (before ++ bytes))) items
    (part_outcome here (length before) bytes)
    ∙ ap (λ (n : ℕ). halt_in n (is_last (tokens_of (before ++ bytes))) (part_outcome here (length before) bytes))
    (length-append before bytes)
    ∙ ap (λ (x : Bool). halt_in (length before + length bytes) x (part_outcome here (length before) bytes))
    (only_token before bytes here items leads)

part_ends : (before bytes : List ℕ) (here : Place) (items : List LibraryItem) (w : Bool) → LeadTo before bytes here items →
    end_of_bytes (before ++ bytes) w ≡ end_of (before ++ bytes) w (part_halt here (length before) bytes)
    (stop_behind (length before) (scan_of bytes).1)
part_ends before bytes here items w leads =
    ends_so (before ++ bytes) w
    ∙ ap (λ (h : Halt). end_of (before ++ bytes) w h (scan_of (before ++ bytes)).1) (part_halts before bytes here items leads)
    ∙ ap (end_of (before ++ bytes) w (part_halt here (length before) bytes)) (leads.stop)

pub part_items : (before bytes : List ℕ) (here : Place) (items : List LibraryItem) → LeadTo before bytes here items →
    items ++ items_in (part_outcome here (length before) bytes) ≡ items_of_bytes (before ++ bytes)
part_items before bytes here items leads =
    sym (ap items_in (part_read before bytes here items leads) ∙ items_prefixed items (part_outcome here (length before) bytes))

-- a part that ends in an open text goes on where the whole does

rest_listed : (o : Told) → rest_of (listed o) ≡ left_in o
rest_listed (Ok p) = refl
rest_listed (Err e) = refl

nil_left : (s : List Lexeme) → s ≡ [] → is_nil s ≡ true
nil_left s e = ap is_nil e

some_standing : (s : List Lexeme) (v : Option Standing) → stands Start s ≡ v
    → is_some v ≡ is_nil (left_in (read (rest_at place.Start []) s))
some_standing s (Some p) e =
    sym (nil_left (left_in (read (rest_at place.Start []) s))
    (sym (rest_listed (read (rest_at place.Start []) s)) ∙ ap rest_of (sym (library_listed s)) ∙ stands_used s p e))
some_standing s None e = none_left (left_in (read (rest_at place.Start []) s)) refl
  where
    none_left : (left : List Lexeme) → left_in (read (rest_at place.Start []) s) ≡ left → false ≡ is_nil left
    none_left [] f =
        (let used : UsesUp (read library s) = ap rest_of (library_listed s) ∙ rest_listed (read (rest_at place.Start []) s) ∙ f in
        let there = used_stands s used in
        let g : None ≡ Some there.0 = sym e ∙ there.1 in
        absurd cc)
    none_left (x ∷ left) f = refl

outline_is : (b : List ℕ) → has_outline (tokens_of b) ≡ is_nil (left_in (items_outcome b))
unfolding items_outcome
outline_is b = some_standing (tokens_of b) (stands Start (tokens_of b)) refl

closed_same : (before bytes : List ℕ) (here : Place) (items : List LibraryItem) → LeadTo before (closed_text bytes) here items →
    closed_has_outline (before ++ bytes) ≡ goes_on_closed here (length before) bytes
closed_same before bytes here items leads =
    ap (λ (b : List ℕ). has_outline (tokens_of b)) (append_assoc before bytes (32 ∷ 34 ∷ []))
    ∙ outline_is (before ++ closed_text bytes)
    ∙ ap (λ (o : Told). is_nil (left_in o)) (part_read before (closed_text bytes) here items leads)
    ∙ ap is_nil (left_prefixed items (part_outcome here (length before) (closed_text bytes)))

goes_on_same : (before bytes : List ℕ) (here : Place) (items : List LibraryItem) (stop : Stop)
    → LeadTo before (closed_text bytes) here items →
    goes_on_after (before ++ bytes) (stop_behind (length before) stop) ≡ goes_on_from here (length before) bytes stop
goes_on_same before bytes here items End leads = refl
goes_on_same before bytes here items (BadByte at) leads = refl
goes_on_same before bytes here items (OpenText at) leads = closed_same before bytes here items leads
goes_on_same before bytes here items (OpenComment at) leads = refl
goes_on_same before bytes here items (OpenContinuation at) leads = refl

end_same : (n : ℕ) (stop : Stop) → is_end (stop_behind n stop) ≡ is_end stop
end_same n End = refl
end_same n (BadByte at) = refl
end_same n (OpenText at) = refl
end_same n (OpenComment at) = refl
end_same n (OpenContinuation at) = refl

may_same : (before bytes : List ℕ) (here : Place) (items : List LibraryItem) (h : Halt) (stop : Stop)
    → LeadTo before (closed_text bytes) here items →
    whole.may_go_on (before ++ bytes) h (stop_behind (length before) stop) ≡ may_go_on here (length before) bytes h stop
may_same before bytes here items halt.Whole stop leads = goes_on_same before bytes here items stop leads
may_same before bytes here items (halt.Short k) stop leads = goes_on_same before bytes here items stop leads
may_same before bytes here items (halt.Refused k at u) stop leads = ap (λ (x : Bool). x && u) (end_same (length before) stop)

-- the answer for a library that ends so
abbrev pub answer_for : Bool → Ending → Answer
answer_for true Whole = answer.End
answer_for false Whole = answer.Over
answer_for w Cut = answer.Over
answer_for true (Fault f) = answer.Fault f
answer_for false (Fault f) = answer.Refused f

by_fault : (w : Bool) (o : Option LibraryFault) → answer_by w o ≡ answer_for w (end_by o)
by_fault true None = refl
by_fault false None = refl
by_fault true (Some f) = refl
by_fault false (Some f) = refl

by_front : (x : Bool) (o : Option LibraryFault)
    → cond x answer.Over (answer_by false o) ≡ answer_for false (cond x Cut (end_by o))
by_front true o = refl
by_front false o = by_fault false o

ends_part : (before bytes : List ℕ) (here : Place) (items : List LibraryItem) (w : Bool)
    → LeadTo before (closed_text bytes) here items →
    answer_at here (length before) bytes w ≡ answer_for w
    (end_of (before ++ bytes) w (part_halt here (length before) bytes) (stop_behind (length before) (scan_of bytes).1))
unfolding answer_at
ends_part before bytes here items true leads =
    ap (λ (n : ℕ). answer_by true (fault_of n (part_halt here (length before) bytes)
    (stop_behind (length before) (scan_of bytes).1))) (sym (length-append before bytes))
    ∙ by_fault true (fault_of (length (before ++ bytes)) (part_halt here (length before) bytes)
    (stop_behind (length before) (scan_of bytes).1))
ends_part before bytes here items false leads =
    ap (λ (x : Bool). cond x answer.Over
    (answer_by false (fault_of (length before + length bytes) (part_halt here (length before) bytes)
    (stop_behind (length before) (scan_of bytes).1))))
    (sym (may_same before bytes here items (part_halt here (length before) bytes) (scan_of bytes).1 leads))
    ∙ ap (λ (n : ℕ). cond (whole.may_go_on (before ++ bytes) (part_halt here (length before) bytes)
    (stop_behind (length before) (scan_of bytes).1)) answer.Over
    (answer_by false (fault_of n (part_halt here (length before) bytes) (stop_behind (length before) (scan_of bytes).1))))
    (sym (length-append before bytes))
    ∙ by_front (whole.may_go_on (before ++ bytes) (part_halt here (length before) bytes)
    (stop_behind (length before) (scan_of bytes).1))
    (fault_of (length (before ++ bytes)) (part_halt here (length before) bytes)
    (stop_behind (length before) (scan_of bytes).1))

-- the answer at the end of a part is that of the library
pub part_answers : (before bytes : List ℕ) (here : Place) (items : List LibraryItem) (w : Bool)
    → ((more : List ℕ) → LeadTo before (bytes ++ more) here items) →
    answer_at here (length before) bytes w ≡ answer_for w (end_of_bytes (before ++ bytes) w)
part_answers before bytes here items w leads =
    ends_part before bytes here items w (leads (32 ∷ 34 ∷ []))
    ∙ ap (answer_for w) (sym (part_ends before bytes here items w (leads_here before bytes here items leads)))

pub never_whole : (b : List ℕ) → end_of_bytes b false ≢ Whole
never_whole b e =
    let r = reads_so b false in
    subst (λ (x : Ending). EndsSo b false (lexemes_of b r.tokens) r.stop x) e r.ends

pub never_cut : (b : List ℕ) → end_of_bytes b true ≢ Cut
never_cut b e =
    let r = reads_so b true in
    subst (λ (x : Ending). EndsSo b true (lexemes_of b r.tokens) r.stop x) e r.ends
