-- The tokens that some bytes give, of which at most the last one is a brace of a group or a semicolon.
use Rattle.std.proofs.Common.{◌≡◌, ℕ, suc, ◌+◌, ◌-◌, ◌<◌, ◌≤◌, ◌==◌, ◌&&◌, ◌||◌, not, Bool, true, false, List, [], ◌∷◌, ◌++◌}
use Rattle.std.proofs.Common.{take, get_or, length, Option, Some, None, cond, ◌⊎◌, inl, inr, refl, sym, ap, subst, ◌∙◌, arith}
use Rattle.std.proofs.lemmas.List.{append_assoc, append-nil, length-take-le, take-take}
use Rattle.std.proofs.Math.Bool.{or-false as or_false}
use Rattle.liberty_text.specs.declared.token.TokenKind.{TokenKind}
use Rattle.liberty_text.specs.declared.token.TokenKind.TheVariants.{Word, Text, Brace}
use Rattle.liberty_text.specs.declared.token.Token.{Token}
use Rattle.liberty_text.specs.declared.class.Class.{Class}
use Rattle.liberty_text.specs.declared.class.Class.TheVariants.{LineEnd, Blank, Mark, Quote, Backslash, WordByte, Bad}
use Rattle.liberty_text.specs.declared.scanner.Mode.{Mode}
use Rattle.liberty_text.specs.declared.scanner.Mode.TheVariants.{Between, InWord, InText, InComment, InContinuation, Stopped}
use Rattle.liberty_text.specs.Scanner.{class_of, token, opened_by, after_token, in_word_by, comment_in_word, in_continuation}
use Rattle.liberty_text.specs.Scanner.{step, closing}
use Rattle.cell_cursor.specs.declared.part.Place.{Place}
use Rattle.cell_cursor.specs.Braces.{begins_group, ends_group, depth_behind, depth_after, is_outer, shows, has_outer, ShowsOuter}
use Rattle.cell_cursor.specs.Braces.{kinds_of}
use Rattle.liberty_text.specs.Runs.{mode_behind, tokens_ended, is_group_mark, has_mark}
use Rattle.liberty_text.proofs.Marked.{has_mark_append}
use Rattle.cell_cursor.specs.Scanned.{mark_of, last_mark}
use Rattle.cell_cursor.proofs.Marks.{step_closes}
use Rattle.cell_cursor.proofs.Depths.{IsPlain, left_false, right_false, depth_append, shows_append, kinds_append, plain_depth}
use Rattle.cell_cursor.proofs.Depths.{plain_outer, word_last}

-- these are no braces of groups
abbrev pub ArePlain : List TokenKind → Type 0
ArePlain [] = Unit {0}
ArePlain (k ∷ kinds) = IsPlain k × ArePlain kinds

kind_plain : (k : TokenKind) → is_group_mark k ≡ false → IsPlain k
kind_plain (Brace byte) h = (left_false (byte == 123) (byte == 125) h, right_false (byte == 123) (byte == 125) h)
kind_plain _ h = (refl, refl)

pub unmarked_plain : (ts : List Token) → has_mark ts ≡ false → ArePlain (kinds_of ts)
unmarked_plain [] h = tt
unmarked_plain (t ∷ ts) h = (
  kind_plain t.kind (left_false (is_group_mark t.kind) (has_mark ts) h),
  unmarked_plain ts (right_false (is_group_mark t.kind) (has_mark ts) h),
)

plain_depths : (d : ℕ) (kinds : List TokenKind) → ArePlain kinds → depth_after d kinds ≡ d
plain_depths d [] p = refl
plain_depths d (k ∷ kinds) (p, ps) = ap (λ (n : ℕ). depth_after n kinds) (plain_depth d k p) ∙ plain_depths d kinds ps

plain_shows : (here : Place) (d : ℕ) (kinds : List TokenKind) → ArePlain kinds → shows (is_outer here) d kinds ≡ false
plain_shows here d [] p = refl
plain_shows here d (k ∷ kinds) (p, ps) =
    ap (λ (x : Bool). x || shows (is_outer here) (depth_behind d k) kinds) (plain_outer here d k p)
    ∙ plain_shows here (depth_behind d k) kinds ps

-- such tokens behind others change nothing
pub plain_last : (here : Place) (u more : List TokenKind) → ArePlain more → has_outer here (u ++ more) ≡ has_outer here u
plain_last here u more p =
    shows_append (is_outer here) 0 u more
    ∙ ap (λ (x : Bool). shows (is_outer here) 0 u || x) (plain_shows here (depth_after 0 u) more p)
    ∙ or_false (shows (is_outer here) 0 u)

-- no brace of a group and no semicolon, or one, which is the last
abbrev pub EndWith : Option TokenKind → List TokenKind → Type 0
EndWith None kinds = ArePlain kinds
EndWith (Some k) kinds = (front : List TokenKind) × ArePlain front × (kinds ≡ front ++ k ∷ [])

-- the tokens are such
abbrev pub AreFew : List Token → Type 0
AreFew new = EndWith (last_mark new) (kinds_of new)

abbrev GiveFew : Mode × List Token → Type 0
GiveFew p = AreFew p.1

single : (t : Token) → AreFew (t ∷ [])
single t = by_test (is_group_mark t.kind) refl
  where
    by_test : (x : Bool) → is_group_mark t.kind ≡ x → EndWith (cond x (Some t.kind) None) (t.kind ∷ [])
    by_test true h = ([], tt, refl)
    by_test false h = (kind_plain t.kind h, tt)

kind_before : (o : Option TokenKind) (kinds : List TokenKind) (k : TokenKind) → IsPlain k → EndWith o kinds
    → EndWith o (k ∷ kinds)
kind_before None kinds k p few = (p, few)
kind_before (Some m) kinds k p (front, plain, e) = (k ∷ front, (p, plain), ap (λ (l : List TokenKind). k ∷ l) e)

one_before : (t : Token) (rest : List Token) → is_group_mark t.kind ≡ false → AreFew rest → AreFew (t ∷ rest)
one_before t [] h few = single t
one_before t (u ∷ us) h few = kind_before (last_mark (u ∷ us)) (kinds_of (u ∷ us)) t.kind (kind_plain t.kind h) few

some_before : (first rest : List Token) → has_mark first ≡ false → AreFew rest → AreFew (first ++ rest)
some_before [] rest h few = few
some_before (t ∷ ts) rest h few =
    one_before t (ts ++ rest) (left_false (is_group_mark t.kind) (has_mark ts) h)
    (some_before ts rest (right_false (is_group_mark t.kind) (has_mark ts) h) few)

-- the last of some tokens
pub last_at : (ts : List Token) (t u : Token) → 1 ≤ length ts → t ≡ get_or ts (length ts - 1) u → mark_of t.kind ≡ last_mark ts
last_at [] t u h e = absurd (omega (arith, h))
last_at (x ∷ []) t u h e = ap (λ (y : Token). mark_of y.kind) e
last_at (x ∷ y ∷ ts) t u h e =
    let before : length (x ∷ y ∷ ts) - 1 ≡ suc (length (y ∷ ts) - 1) = omega arith in
    last_at (y ∷ ts) t u (omega arith) (e ∙ ap (λ (n : ℕ). get_or (x ∷ y ∷ ts) n u) before)

pub none_unmarked : (ts : List Token) → ts ≡ [] → has_mark ts ≡ false
none_unmarked ts e = ap has_mark e

opened_few : (line : Bool) (at b : ℕ) (c : Class) → GiveFew (opened_by line at b c)
opened_few line at b LineEnd = tt
opened_few line at b Blank = tt
opened_few line at b (Mark kind) = single (token kind at (at + 1) line)
opened_few line at b Quote = tt
opened_few line at b Backslash = tt
opened_few line at b WordByte = tt
opened_few line at b Bad = tt

word_few : (begun at b : ℕ) (line : Bool) (c : Class) → GiveFew (after_token (token Word begun at line) (opened_by false at b c))
word_few begun at b line (Mark kind) =
    one_before (token Word begun at line) (token kind at (at + 1) false ∷ []) refl (single (token kind at (at + 1) false))
word_few begun at b line _ = single (token Word begun at line)

in_word_few : (begun at b : ℕ) (line : Bool) (c : Class) → GiveFew (in_word_by begun line at b c)
in_word_few begun at b line WordByte = tt
in_word_few begun at b line _ = word_few begun at b line (class_of b)

choice_few : (x : Bool) (p q : Mode × List Token) → GiveFew p → GiveFew q → GiveFew (cond x p q)
choice_few true p q h i = h
choice_few false p q h i = i

continuation_few : (begun : ℕ) (line : Bool) (c : Class) → GiveFew (in_continuation begun line c)
continuation_few begun line LineEnd = tt
continuation_few begun line Blank = tt
continuation_few begun line (Mark kind) = tt
continuation_few begun line Quote = tt
continuation_few begun line Backslash = tt
continuation_few begun line WordByte = tt
continuation_few begun line Bad = tt

step_few : (mode : Mode) (at b : ℕ) → AreFew (step mode at b).1
step_few (Between line) at b = opened_few line at b (class_of b)
step_few (InWord begun line None) at b = in_word_few begun at b line (class_of b)
step_few (InWord begun line (Some slash)) at b =
    choice_few (b == 42) (comment_in_word begun line slash) (in_word_by begun line at b (class_of b))
    (choice_few (begun == slash) (InComment slash line false, []) (InComment slash false false, token Word begun slash line ∷ [])
    tt (single (token Word begun slash line)))
    (in_word_few begun at b line (class_of b))
step_few (InText begun line escaped) at b =
    choice_few (b == 34 && not escaped) (Between false, token Text begun (at + 1) line ∷ []) (InText begun line (b == 92), [])
    (single (token Text begun (at + 1) line)) tt
step_few (InComment begun line star) at b =
    choice_few (b == 47 && star) (Between line, []) (InComment begun (line || b == 10) (b == 42), []) tt tt
step_few (InContinuation begun line) at b = continuation_few begun line (class_of b)
step_few (Stopped begun) at b = tt

-- how many groups are open behind the tokens of a byte
abbrev pub depth_with : ℕ → Option TokenKind → ℕ
depth_with d None = d
depth_with d (Some k) = depth_behind d k

few_depth : (d : ℕ) (o : Option TokenKind) (kinds : List TokenKind) → EndWith o kinds → depth_after d kinds ≡ depth_with d o
few_depth d None kinds plain = plain_depths d kinds plain
few_depth d (Some k) kinds (front, plain, e) =
    ap (depth_after d) e ∙ depth_append d front (k ∷ []) ∙ ap (λ (n : ℕ). depth_behind n k) (plain_depths d front plain)

-- Bytes with which no brace of a group and no semicolon ends but with the last of them

-- none ends with the first of these bytes, as far as they are fewer than all
abbrev pub NoneBefore : Mode → ℕ → List ℕ → Type 0
NoneBefore mode at bytes = (n : ℕ) → n < length bytes → has_mark (tokens_ended mode at (take n bytes)) ≡ false

first_none : (mode : Mode) (at b c : ℕ) (bs : List ℕ) → NoneBefore mode at (b ∷ c ∷ bs) → has_mark (step mode at b).1 ≡ false
first_none mode at b c bs h = ap has_mark (sym (append-nil (step mode at b).1)) ∙ h 1 (omega arith)

rest_none : (mode : Mode) (at b c : ℕ) (bs : List ℕ) → NoneBefore mode at (b ∷ c ∷ bs)
    → NoneBefore (step mode at b).0 (at + 1) (c ∷ bs)
rest_none mode at b c bs h n less =
    let rest = tokens_ended (step mode at b).0 (at + 1) (take n (c ∷ bs)) in
    right_false (has_mark (step mode at b).1) (has_mark rest)
    (sym (has_mark_append (step mode at b).1 rest) ∙ h (suc n) (omega (arith, less)))

pub run_few : (mode : Mode) (at : ℕ) (bytes : List ℕ) → NoneBefore mode at bytes → AreFew (tokens_ended mode at bytes)
run_few mode at [] h = tt
run_few mode at (b ∷ []) h = subst AreFew (sym (append-nil (step mode at b).1)) (step_few mode at b)
run_few mode at (b ∷ c ∷ bs) h =
    some_before (step mode at b).1 (tokens_ended (step mode at b).0 (at + 1) (c ∷ bs)) (first_none mode at b c bs h)
    (run_few (step mode at b).0 (at + 1) (c ∷ bs) (rest_none mode at b c bs h))

last_tail : (t : Token) (rest : List Token) (k : TokenKind) → is_group_mark t.kind ≡ false → last_mark (t ∷ rest) ≡ Some k
    → last_mark rest ≡ Some k
last_tail t [] k h e =
    let none : cond false (Some t.kind) None ≡ Some k =
    ap (λ (x : Bool). cond x (Some t.kind) None) (sym h) ∙ e in
    absurd cc
last_tail t (u ∷ us) k h e = e

last_behind : (first rest : List Token) (k : TokenKind) → has_mark first ≡ false → last_mark (first ++ rest) ≡ Some k
    → last_mark rest ≡ Some k
last_behind [] rest k h e = e
last_behind (t ∷ ts) rest k h e =
    last_behind ts rest k (right_false (is_group_mark t.kind) (has_mark ts) h)
    (last_tail t (ts ++ rest) k (left_false (is_group_mark t.kind) (has_mark ts) h) e)

-- where such a mark ends with the last of them nothing stands open behind it
pub run_closes : (mode : Mode) (at : ℕ) (bytes : List ℕ) (k : TokenKind) → NoneBefore mode at bytes
    → last_mark (tokens_ended mode at bytes) ≡ Some k → mode_behind mode at bytes ≡ Between false
run_closes mode at [] k h e = absurd cc
run_closes mode at (b ∷ []) k h e = step_closes mode at b k (ap last_mark (sym (append-nil (step mode at b).1)) ∙ e)
run_closes mode at (b ∷ c ∷ bs) k h e =
    run_closes (step mode at b).0 (at + 1) (c ∷ bs) k (rest_none mode at b c bs h)
    (last_behind (step mode at b).1 (tokens_ended (step mode at b).0 (at + 1) (c ∷ bs)) k (first_none mode at b c bs h) e)

-- with names of the code: the first of more bytes
pub none_before_of : (mode : Mode) (at : ℕ) (more : List ℕ) (count : ℕ) → count ≤ length more
    → ((n : ℕ) → n < count → has_mark (tokens_ended mode at (take n more)) ≡ false) → NoneBefore mode at (take count more)
none_before_of mode at more count within h n less =
    let size : length (take count more) ≡ count = length-take-le count more within in
    let l : n < count = omega (arith, less, size) in
    ap (λ (l : List ℕ). has_mark (tokens_ended mode at l)) (take-take n count more (omega (arith, l))) ∙ h n l

pub more_depth : (ts ts' new : List Token) (o : Option TokenKind) → ts' ≡ ts ++ new → o ≡ last_mark new → AreFew new
    → depth_after 0 (kinds_of ts') ≡ depth_with (depth_after 0 (kinds_of ts)) o
more_depth ts ts' new o e f few =
    ap (λ (l : List Token). depth_after 0 (kinds_of l)) e
    ∙ ap (depth_after 0) (kinds_append ts new)
    ∙ depth_append 0 (kinds_of ts) (kinds_of new)
    ∙ few_depth (depth_after 0 (kinds_of ts)) o (kinds_of new)
    (subst (λ (l : Option TokenKind). EndWith l (kinds_of new)) (sym f) few)

pub depth_more : (d : ℕ) (k : TokenKind) → depth_behind d k ≤ d + 1
depth_more d k = by_kind (begins_group k) (ends_group k)
  where
    by_kind : (x y : Bool) → cond x (d + 1) (cond y (d - 1) d) ≤ d + 1
    by_kind true y = omega arith
    by_kind false true = omega arith
    by_kind false false = omega arith

with_word : (here : Place) (kinds : List TokenKind) → has_outer here kinds ≡ false → has_outer here (kinds ++ Word ∷ []) ≡ false
with_word here kinds h = word_last here 0 kinds ∙ h

one_outer : (here : Place) (kinds : List TokenKind) (k : TokenKind) → has_outer here kinds ≡ false
    → is_outer here (depth_after 0 kinds) k ≡ false → has_outer here (kinds ++ k ∷ []) ≡ false
one_outer here kinds k h i =
    shows_append (is_outer here) 0 kinds (k ∷ []) ∙ ap (λ (x : Bool). x || (is_outer here (depth_after 0 kinds) k || false)) h
    ∙ or_false (is_outer here (depth_after 0 kinds) k) ∙ i

front_depth : (kinds front : List TokenKind) → ArePlain front → depth_after 0 (kinds ++ front) ≡ depth_after 0 kinds
front_depth kinds front plain = depth_append 0 kinds front ∙ plain_depths (depth_after 0 kinds) front plain

abbrev pub AskedOuter : Place → ℕ → Bool → Option TokenKind → Type 0
AskedOuter here d may None = may ≡ false
AskedOuter here d may (Some k) = may ≡ false → is_outer here d k ≡ false

few_outer : (here : Place) (kinds kinds' more : List TokenKind) (o : Option TokenKind) (may : Bool) → EndWith o more
    → kinds' ≡ kinds ++ more → has_outer here kinds ≡ false →
    AskedOuter here (depth_after 0 kinds) may o → ShowsOuter may here kinds'
few_outer here kinds kinds' more None false plain e h asked = ap (has_outer here) e ∙ plain_last here kinds more plain ∙ h
few_outer here kinds kinds' more None true plain e h asked = absurd cc
few_outer here kinds kinds' more (Some k) false (front, plain, f) e h asked =
    ap (has_outer here) (e ∙ ap (λ (l : List TokenKind). kinds ++ l) f ∙ sym (append_assoc kinds front (k ∷ [])))
    ∙ one_outer here (kinds ++ front) k (plain_last here kinds front plain ∙ h)
    (ap (λ (d : ℕ). is_outer here d k) (front_depth kinds front plain) ∙ asked refl)
few_outer here kinds kinds' more (Some k) true (front, plain, f) e h asked = (
  kinds ++ front,
  k,
  e ∙ ap (λ (l : List TokenKind). kinds ++ l) f ∙ sym (append_assoc kinds front (k ∷ [])),
  plain_last here kinds front plain ∙ h,
)

more_outer : (here : Place) (ts ts' new : List Token) (o : Option TokenKind) (may : Bool) → ts' ≡ ts ++ new → o ≡ last_mark new
    → AreFew new →
    AskedOuter here (depth_after 0 (kinds_of ts)) may o → has_outer here (kinds_of ts) ≡ false
    → ShowsOuter may here (kinds_of ts')
more_outer here ts ts' new o may e f few asked h =
    few_outer here (kinds_of ts) (kinds_of ts') (kinds_of new) o may
    (subst (λ (l : Option TokenKind). EndWith l (kinds_of new)) (sym f) few)
    (ap kinds_of e ∙ kinds_append ts new) h asked

closing_few : (mode : Mode) (at : ℕ) → (kinds_of (closing mode at).0 ≡ []) ⊎ (kinds_of (closing mode at).0 ≡ Word ∷ [])
closing_few (Between line) at = inl refl
closing_few (InWord begun line slash) at = inr refl
closing_few (InText begun line escaped) at = inl refl
closing_few (InComment begun line star) at = inl refl
closing_few (InContinuation begun line) at = inl refl
closing_few (Stopped begun) at = inl refl

-- what is open at the end of the bytes adds no brace
pub closing_outer : (here : Place) (ts : List Token) (mode : Mode) (at : ℕ) → has_outer here (kinds_of ts) ≡ false
    → has_outer here (kinds_of (ts ++ (closing mode at).0)) ≡ false
closing_outer here ts mode at h =
    ap (has_outer here) (kinds_append ts (closing mode at).0)
    ∙ elim (closing_few mode at) [
      | inl e ↦ (ap (λ (l : List TokenKind). has_outer here (kinds_of ts ++ l)) e ∙ ap (has_outer here) (append-nil (kinds_of ts))
          ∙ h)
      | inr e ↦ (ap (λ (l : List TokenKind). has_outer here (kinds_of ts ++ l)) e ∙ with_word here (kinds_of ts) h)
    ]

-- with the names of the code: how many groups are open behind the last token, of whose kind there are two names

pub counted_some : (ts ts' new : List Token) (d d' : ℕ) (k kind : TokenKind) → ts' ≡ ts ++ new → Some k ≡ last_mark new
    → AreFew new →
    d ≡ depth_after 0 (kinds_of ts) → kind ≡ k → d' ≡ depth_behind d kind → d' ≡ depth_after 0 (kinds_of ts')
counted_some ts ts' new d d' k kind e f few g same h =
    h ∙ ap (λ (n : ℕ). depth_behind n kind) g ∙ ap (depth_behind (depth_after 0 (kinds_of ts))) same
    ∙ sym (more_depth ts ts' new (Some k) e f few)

pub counted_none : (ts ts' new : List Token) (d : ℕ) → ts' ≡ ts ++ new → None ≡ last_mark new → AreFew new →
    d ≡ depth_after 0 (kinds_of ts) → d ≡ depth_after 0 (kinds_of ts')
counted_none ts ts' new d e f few g = g ∙ sym (more_depth ts ts' new None e f few)

pub outer_some : (here : Place) (ts ts' new : List Token) (d d' : ℕ) (k kind : TokenKind) (may : Bool) → ts' ≡ ts ++ new
    → Some k ≡ last_mark new → AreFew new →
    d ≡ depth_after 0 (kinds_of ts) → kind ≡ k → d' ≡ depth_behind d kind
    → (may ≡ false → (before : ℕ) → d' ≡ depth_behind before kind → is_outer here before kind ≡ false) →
    has_outer here (kinds_of ts) ≡ false → ShowsOuter may here (kinds_of ts')
outer_some here ts ts' new d d' k kind may e f few g same h asked none =
    more_outer here ts ts' new (Some k) may e f few
    (λ no. ap (λ (n : ℕ). is_outer here n k) (sym g) ∙ ap (is_outer here d) (sym same) ∙ asked no d h) none

pub outer_none : (here : Place) (ts ts' new : List Token) → ts' ≡ ts ++ new → None ≡ last_mark new → AreFew new
    → has_outer here (kinds_of ts) ≡ false → has_outer here (kinds_of ts') ≡ false
outer_none here ts ts' new e f few none = more_outer here ts ts' new None false e f few refl none
