-- What reading a text answers, by the grammar.
use Rattle.std.proofs.Common.{◌≡◌, ℕ, zero, suc, ◌+◌, ◌-◌, ◌<◌, ◌≤◌, Bool, true, false, nat_lt, List, [], ◌∷◌, ◌++◌, length, take}
use Rattle.std.proofs.Common.{drop, map, Option, None, Some, Result, Ok, Err, if◌then◌else◌, refl, sym, ap, subst, ◌∙◌, arith}
use Rattle.std.proofs.Common.{append_assoc, length-drop, unwrap_or, IfOk, IfErr, ◌⊎◌, inl, inr, ltb-true, ltb-false, lt-ltb}
use Rattle.std.proofs.lemmas.List.{length-map, take-append-drop}
use Rattle.std.proofs.lemmas.Bool.Decides.{nat_tests}
use Rattle.std.specs.Char.{is_ascii_digit}
use Rattle.std.specs.Result.{result_unwrap_or}
use Rattle.bool_functions.specs.declared.symbol.Symbol.{Symbol}
use Rattle.bool_functions.specs.declared.symbol.Symbol.TheVariants as symbol
use Rattle.bool_functions.specs.declared.tokens.Span.{Span}
use Rattle.bool_functions.specs.declared.tree.Node.{Node}
use Rattle.bool_functions.specs.declared.faults.FunctionFault.{FunctionFault}
use Rattle.bool_functions.specs.declared.faults.FunctionFault.TheVariants.{TooLong, Malformed, UnknownName, Memory}
use Rattle.bool_functions.specs.declared.texts.TheConstants.{MAX_LEN}
use Rattle.bool_functions.specs.NameList.{number_of}
use Rattle.bool_functions.specs.Tree.{name_bound}
use Rattle.bool_functions.specs.Token.{is_word_byte, digit_of, mark_of, symbol_of, symbols, spans, bytes_at, offset_of}
use Rattle.bool_functions.specs.Grammar.{IsText, IsFront, IsFault}
use Rattle.bool_functions.specs.Machine.{run, start, Gives}
use Rattle.bool_functions.specs.FunctionText.{FunctionText, MalformedAt, HasFault, unknown_in, free_names, reading, reading_of}
use Rattle.bool_functions.specs.FunctionText.{TreeOf, OrMemory, OrMemoryFree, FaultOrMemory, Answers, AnswersFree}
use Rattle.bool_functions.specs.FunctionText.{placed_in, known, StandsBeside}
use Rattle.bool_functions.proofs.Complete.{text_read}
use Rattle.bool_functions.proofs.Sound.{read_text}
use Rattle.bool_functions.proofs.Fronts.{stop_is_fault, stop_splits}
use Rattle.bool_functions.proofs.Bounds.{text_bound}
use Rattle.bool_functions.proofs.Appearances.{own_names_known}
use Rattle.bool_functions.proofs.Alike.{Alike, alike_text, alike_back, alike_fault}

alike_by : (names : List (List ℕ)) (b : ℕ) (s : List ℕ) (digit word : Bool) {t u : List Symbol} → Alike t u
    → Alike ((if digit then digit_of b s
    else (if word then symbol.Name (unwrap_or (number_of names (b ∷ s)) (length names)) else mark_of b)) ∷ t)
    ((if digit then digit_of b s else (if word then symbol.Name (unwrap_or (number_of [] (b ∷ s)) 0) else mark_of b)) ∷ u)
alike_by names b s true word a = Alike.equal a
alike_by names b s false true a = Alike.names a
alike_by names b s false false a = Alike.equal a

alike_symbol : (names : List (List ℕ)) (w : List ℕ) {t u : List Symbol} → Alike t u
    → Alike (symbol_of names w ∷ t) (symbol_of [] w ∷ u)
alike_symbol names [] a = Alike.equal a
alike_symbol names (b ∷ s) a = alike_by names b s (is_ascii_digit b) (is_word_byte b) a

alike_each : (names : List (List ℕ)) (text : List ℕ) (ts : List Span)
    → Alike (map (λ t. symbol_of names (bytes_at text t)) ts) (map (λ t. symbol_of [] (bytes_at text t)) ts)
alike_each names text [] = Alike.none
alike_each names text (t ∷ ts) = alike_symbol names (bytes_at text t) (alike_each names text ts)

-- the symbols of a text differ over two lists in the numbers of names alone
pub alike_symbols : (names : List (List ℕ)) (text : List ℕ) → Alike (symbols names text) (symbols [] text)
alike_symbols names text = alike_each names text (spans text)

symbols_length : (names : List (List ℕ)) (text : List ℕ) → length (symbols names text) ≡ length (spans text)
symbols_length names text = length-map (spans text) (λ t. symbol_of names (bytes_at text t))

take_twice : (n m : ℕ) (s : List Symbol) → n ≤ m → take n (take m s) ≡ take n s
take_twice zero m s le = refl
take_twice (suc n) zero s le = absurd (omega (arith, le))
take_twice (suc n) (suc m) [] le = refl
take_twice (suc n) (suc m) (x ∷ s) le = ap (λ u. x ∷ u) (take_twice n m s (omega (arith, le)))

-- a text's front is one, where a longer front is
shorter_front : (s : List Symbol) (n m : ℕ) → n ≤ m → IsFront (take m s) → IsFront (take n s)
shorter_front s n m le (more, f, t) =
    let split : take m s ≡ take n s ++ drop n (take m s) = sym (take-append-drop n (take m s))
    ∙ ap (λ u. u ++ drop n (take m s)) (take_twice n m s le) in (
      drop n (take m s) ++ more,
      f,
      subst (λ u. IsText u f)
          (ap (λ u. u ++ more) split ∙ append_assoc (take n s) (drop n (take m s)) more) t,
    )

own_front : (s : List Symbol) (f : Node) → IsText s f → (n : ℕ) → IsFront (take n s)
own_front s f t n = (drop n s, f, subst (λ u. IsText u f) (sym (take-append-drop n s)) t)

not_before : (s : List Symbol) (n m : ℕ) → IsFault s n → IsFault s m → n < m → ⊥
not_before s n m a b lt = a.first (omega (arith, b.within)) (shorter_front s (n + 1) m (omega arith) b.before)

-- a fault has one place
pub fault_place : (s : List Symbol) (n m : ℕ) → IsFault s n → IsFault s m → n ≡ m
fault_place s n m a b = let l : n < m → ⊥ = not_before s n m a b in let r : m < n → ⊥ = not_before s m n b a
    in omega (arith, l, r)

no_fault_at : (s : List Symbol) (f : Node) (n : ℕ) → IsText s f → IsFault s n → (n < length s) ⊎ (n ≡ length s) → ⊥
no_fault_at s f n t a (inl lt) = a.first lt (own_front s f t (n + 1))
no_fault_at s f n t a (inr is) = a.short is f t

below_or_at : (n m : ℕ) → n ≤ m → (n < m) ⊎ (n ≡ m)
below_or_at n m le = by (nat_lt n m) refl
  where
    by : (b : Bool) → nat_lt n m ≡ b → (n < m) ⊎ (n ≡ m)
    by true e = inl (ltb-true n m e)
    by false e = inr (let k : m ≤ n = ltb-false n m e in omega (arith, le, k))

-- a text has no fault
pub no_fault : (s : List Symbol) (f : Node) (n : ℕ) → IsText s f → IsFault s n → ⊥
no_fault s f n t a = no_fault_at s f n t a (below_or_at n (length s) a.within)

module _ (names : List (List ℕ)) (text : List ℕ) where
  fitting : length text ≤ MAX_LEN → reading_of names text ≡ reading text (unknown_in names text) (run start (symbols names text))
  fitting le = ap (λ b. if b then Err TooLong else reading text (unknown_in names text) (run start (symbols names text)))
      (let e : nat_lt MAX_LEN (length text) ≡ false = grind (arith, nat_tests) in e)

  too_long : MAX_LEN < length text → reading_of names text ≡ Err TooLong
  too_long lt = ap (λ b. if b then Err TooLong else reading text (unknown_in names text) (run start (symbols names text)))
      (lt-ltb MAX_LEN (length text) lt)

  -- what `reading` answers, by the grammar
  of_tree : (f : Node) (u : Option ℕ) (r : Result Node (List Symbol)) → length text ≤ MAX_LEN → unknown_in names text ≡ u
      → run start (symbols names text) ≡ r → reading text u r ≡ Ok f → FunctionText names text f
  of_tree f u (Err m) le a b e = absurd cc
  of_tree f None (Ok g) le a b e = let same : g ≡ f = cc
      in record { fits = le; tree = subst (IsText (symbols names text)) same (read_text (symbols names text) g b); known = a }
  of_tree f (Some at) (Ok g) le a b e = absurd cc

  malformed : (m : List Symbol) → run start (symbols names text) ≡ Err m
      → MalformedAt text (offset_of text (length (spans text) - length m))
  malformed m b =
      let cut = stop_splits (symbols names text) m b in
      let n = length (symbols names text) - length m in
      let fault : IsFault (symbols names text) n = stop_is_fault (symbols names text) n (omega arith) (b ∙ ap Err cut.1) in
      (n, alike_fault n (alike_symbols names text) fault, ap (λ k. offset_of text (k - length m)) (symbols_length names text))

  of_fault : (e : FunctionFault) (u : Option ℕ) (r : Result Node (List Symbol)) → length text ≤ MAX_LEN
      → unknown_in names text ≡ u → run start (symbols names text) ≡ r → reading text u r ≡ Err e → HasFault names text e
  of_fault e u (Err m) le a b k = let same : Malformed (offset_of text (length (spans text) - length m)) ≡ e = cc
      in subst (HasFault names text) same (le, malformed m b)
  of_fault e None (Ok g) le a b k = absurd cc
  of_fault e (Some at) (Ok g) le a b k =
      let same : UnknownName at ≡ e = cc
      in subst (HasFault names text) same
      (le, alike_text (alike_symbols names text) g (read_text (symbols names text) g b), a)

  by_length : (P : Type 0) → (MAX_LEN < length text → P) → (length text ≤ MAX_LEN → P) → P
  by_length P long short = by (nat_lt MAX_LEN (length text)) refl
    where
      by : (b : Bool) → nat_lt MAX_LEN (length text) ≡ b → P
      by true e = long (ltb-true MAX_LEN (length text) e)
      by false e = short (ltb-false MAX_LEN (length text) e)

  -- a tree is read exactly where the text is a function text with it
  pub reading_tree : (f : Node) → reading_of names text ≡ Ok f → FunctionText names text f
  reading_tree f e = by_length (FunctionText names text f)
      (λ lt. absurd (let l = too_long lt in cc))
      (λ le. of_tree f (unknown_in names text) (run start (symbols names text)) le refl refl (sym (fitting le) ∙ e))

  pub tree_reading : (f : Node) → FunctionText names text f → reading_of names text ≡ Ok f
  tree_reading f t =
      fitting t.fits ∙ ap (λ u. reading text u (run start (symbols names text))) t.known
      ∙ ap (reading text None) (text_read (symbols names text) f t.tree)

  -- and a fault exactly where the text has it
  pub reading_fault : (e : FunctionFault) → reading_of names text ≡ Err e → HasFault names text e
  reading_fault e k = by_length (HasFault names text e)
      (λ lt. let l = too_long lt in let same : TooLong ≡ e = cc in subst (HasFault names text) same lt)
      (λ le. of_fault e (unknown_in names text) (run start (symbols names text)) le refl refl (sym (fitting le) ∙ k))

  stopped : (n at : ℕ) (r : Result Node (List Symbol)) → IsFault (symbols [] text) n → offset_of text n ≡ at
      → run start (symbols names text) ≡ r → reading text (unknown_in names text) r ≡ Err (Malformed at)
  stopped n at (Ok f) a off b = let t = alike_text (alike_symbols names text) f (read_text (symbols names text) f b)
      in absurd (no_fault (symbols [] text) t.0 n t.1 a)
  stopped n at (Err m) a off b =
      let (k, fault, is) = malformed m b in
      ap (λ o. Err (Malformed o)) (sym is ∙ ap (offset_of text) (fault_place (symbols [] text) k n fault a) ∙ off)

  pub fault_reading : (e : FunctionFault) → HasFault names text e → reading_of names text ≡ Err e
  fault_reading TooLong lt = too_long lt
  fault_reading (Malformed at) (le, (n, fault, off)) = fitting le ∙ stopped n at (run start (symbols names text)) fault off refl
  fault_reading (UnknownName at) (le, (f, t), u) =
      let (g, k) = alike_text (alike_back (alike_symbols names text)) f t in
      fitting le ∙ ap (λ o. reading text o (run start (symbols names text))) u
      ∙ ap (reading text (Some at)) (text_read (symbols names text) g k)
  fault_reading Memory h = absurd h

module _ (names : List (List ℕ)) (text : List ℕ) where
  -- a fault at a symbol is that of the text
  pub placed : (n : ℕ) (at : ℕ) → length text ≤ MAX_LEN → n ≤ length (symbols names text)
      → run start (symbols names text) ≡ Err (drop n (symbols names text)) → offset_of text n ≡ at
      → reading_of names text ≡ Err (Malformed at)
  placed n at le within e off =
      let k : length (spans text) - length (drop n (symbols names text)) ≡ n =
      omega (arith, length-drop n (symbols names text), symbols_length names text, within) in
      fitting names text le ∙ ap (reading text (unknown_in names text)) e ∙ ap (λ m. Err (Malformed (offset_of text m))) k
      ∙ ap (λ o. Err (Malformed o)) off

  -- what reading the symbols answers, with the offset of a fault
  pub of_run : (s : List Symbol) (read made : Result Node ℕ) → s ≡ symbols names text → Gives read s (run start s)
      → made ≡ placed_in text read → TreeOf names text made
  of_run s (Ok f) made is g e = subst (TreeOf names text) (sym e) (ap (run start) (sym is) ∙ g)
  of_run s (Err n) made is g e =
      let within : n ≤ length (symbols names text) = subst (λ (u : List Symbol). n ≤ length u) is g.1 in
      let stops = subst (λ (u : List Symbol). run start u ≡ Err (drop n u)) is g.0 in
      subst (TreeOf names text) (sym e) (n, within, stops, refl)

  judges : (r : Result Node ℕ) → length text ≤ MAX_LEN → TreeOf names text r
      → reading_of names text ≡ known (unknown_in names text) r
  judges (Ok f) le t = fitting names text le ∙ ap (reading text (unknown_in names text)) t ∙ as_known (unknown_in names text)
    where
      as_known : (u : Option ℕ) → reading text u (Ok f) ≡ known u (Ok f)
      as_known None = refl
      as_known (Some at) = refl
  judges (Err at) le (n, within, e, off) = placed n at le within e off

  -- a tree that was read is the text's, where all names are known
  pub over_read : (r : Result Node ℕ) (made : Result Node FunctionFault) → length text ≤ MAX_LEN → TreeOf names text r
      → made ≡ known (unknown_in names text) r → OrMemory made (reading_of names text)
  over_read r made le t e = as_wanted made (e ∙ sym (judges r le t))
    where
      as_wanted : (answer : Result Node FunctionFault) → answer ≡ reading_of names text → OrMemory answer (reading_of names text)
      as_wanted (Ok f) is = sym is
      as_wanted (Err TooLong) is = sym is
      as_wanted (Err (Malformed at)) is = sym is
      as_wanted (Err (UnknownName at)) is = sym is
      as_wanted (Err Memory) is = tt

  -- over a text's own names
  own_fault : (at : ℕ) → names ≡ free_names text → length text ≤ MAX_LEN → TreeOf names text (Err at)
      → OrMemoryFree (Err (Malformed at)) text
  own_fault at own le (n, within, e, off) = ap (λ l. reading_of l text) (sym own) ∙ placed n at le within e off

  own_tree : (f : Node) → names ≡ free_names text → length text ≤ MAX_LEN → run start (symbols names text) ≡ Ok f
      → reading_of (free_names text) text ≡ Ok f
  own_tree f own le e =
      ap (λ l. reading_of l text) (sym own) ∙ fitting names text le
      ∙ ap (λ u. reading text u (run start (symbols names text))) (ap (λ l. unknown_in l text) own ∙ own_names_known text)
      ∙ ap (reading text None) e

  pub own_read : {E : Type 0} (read : Result (Result Node ℕ) E) (made : Result (Result (Node × List (List ℕ)) FunctionFault) E)
      → names ≡ free_names text → length text ≤ MAX_LEN → IfOk read (TreeOf names text) → IfOk made (StandsBeside read names)
      → IfOk made (λ r. OrMemoryFree r text)
  own_read (Ok (Ok f)) (Ok (Ok both)) own le t h = (h.1 ∙ own, own_tree f own le t ∙ ap Ok (sym h.0))
  own_read (Ok (Ok f)) (Ok (Err fault)) own le t h = absurd h
  own_read (Ok (Err at)) (Ok r) own le t h = subst (λ a. OrMemoryFree a text) (sym h) (own_fault at own le t)
  own_read (Err e) (Ok r) own le t h = absurd h
  own_read read (Err e) own le t h = tt

  -- what an answer says, where it is that of the text or memory was wanted
  pub tree_clause : (r : Result Node FunctionFault) → OrMemory r (reading_of names text) → IfOk r (FunctionText names text)
  tree_clause (Ok f) h = reading_tree names text f h
  tree_clause (Err e) h = tt

  pub only_clause : (r : Result Node FunctionFault) → OrMemory r (reading_of names text) → (f : Node) → FunctionText names text f
      → Answers r f
  only_clause (Ok g) h f t = let k : reading_of names text ≡ Ok f = tree_reading names text f t in cc
  only_clause (Err TooLong) h f t = absurd (let k : reading_of names text ≡ Ok f = tree_reading names text f t in cc)
  only_clause (Err (Malformed at)) h f t = absurd (let k : reading_of names text ≡ Ok f = tree_reading names text f t in cc)
  only_clause (Err (UnknownName at)) h f t = absurd (let k : reading_of names text ≡ Ok f = tree_reading names text f t in cc)
  only_clause (Err Memory) h f t = tt

  pub fault_clause : (r : Result Node FunctionFault) → OrMemory r (reading_of names text) → IfErr r (FaultOrMemory names text)
  fault_clause (Ok f) h = tt
  fault_clause (Err TooLong) h = reading_fault names text TooLong h
  fault_clause (Err (Malformed at)) h = reading_fault names text (Malformed at) h
  fault_clause (Err (UnknownName at)) h = reading_fault names text (UnknownName at) h
  fault_clause (Err Memory) h = tt

  pub bound_clause : (r : Result Node FunctionFault) → OrMemory r (reading_of names text)
      → IfOk r (λ f. name_bound f ≤ length names)
  bound_clause (Ok f) h = text_bound names text f (reading_tree names text f h)
  bound_clause (Err e) h = tt

module _ (text : List ℕ) where
  pub own_tree_clause : (r : Result (Node × List (List ℕ)) FunctionFault) → OrMemoryFree r text
      → IfOk r (λ p. FunctionText (free_names text) text p.0)
  own_tree_clause (Ok p) h = reading_tree (free_names text) text p.0 h.1
  own_tree_clause (Err e) h = tt

  pub own_only_clause : (r : Result (Node × List (List ℕ)) FunctionFault) → OrMemoryFree r text → (f : Node)
      → FunctionText (free_names text) text f → AnswersFree r f
  own_only_clause (Ok p) h f t = let k : reading_of (free_names text) text ≡ Ok f = tree_reading (free_names text) text f t
      in let j = h.1 in cc
  own_only_clause (Err TooLong) h f t =
      absurd (let k : reading_of (free_names text) text ≡ Ok f = tree_reading (free_names text) text f t in cc)
  own_only_clause (Err (Malformed at)) h f t =
      absurd (let k : reading_of (free_names text) text ≡ Ok f = tree_reading (free_names text) text f t in cc)
  own_only_clause (Err (UnknownName at)) h f t = absurd h
  own_only_clause (Err Memory) h f t = tt

  pub own_fault_clause : (r : Result (Node × List (List ℕ)) FunctionFault) → OrMemoryFree r text
      → IfErr r (FaultOrMemory (free_names text) text)
  own_fault_clause (Ok f) h = tt
  own_fault_clause (Err TooLong) h = reading_fault (free_names text) text TooLong h
  own_fault_clause (Err (Malformed at)) h = reading_fault (free_names text) text (Malformed at) h
  own_fault_clause (Err (UnknownName at)) h = absurd h
  own_fault_clause (Err Memory) h = tt

  pub own_bound_clause : (r : Result (Node × List (List ℕ)) FunctionFault) → OrMemoryFree r text
      → IfOk r (λ p. name_bound p.0 ≤ length p.1)
  own_bound_clause (Ok p) h = rw h.0 (text_bound (free_names text) text p.0 (reading_tree (free_names text) text p.0 h.1))
  own_bound_clause (Err e) h = tt

-- What holds of a value holds of what is answered, where it holds of what is answered without one.
pub holds_or : {A E : Type 0} (P : A → Type 0) (r : Result A E) (other made : A) → made ≡ result_unwrap_or r other → IfOk r P
    → P other → P made
holds_or P (Ok a) other made e h o = subst P (sym e) h
holds_or P (Err x) other made e h o = subst P (sym e) o
