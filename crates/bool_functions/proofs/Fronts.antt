-- Where the reader stops is the first place with which no function text goes on.
use Rattle.std.proofs.Common.{◌≡◌, ℕ, ◌+◌, ◌-◌, ◌<◌, ◌≤◌, List, [], ◌∷◌, ◌++◌, length, take, drop, Option, None, Some, Ok, Err}
use Rattle.std.proofs.Common.{refl, sym, ap, subst, ◌∙◌, arith, append_assoc, length-append, length-drop}
use Rattle.std.proofs.Math.Seq.{take-append_seam, take-append-add, drop-append_seam}
use Rattle.bool_functions.specs.declared.symbol.Symbol.{Symbol}
use Rattle.bool_functions.specs.declared.symbol.Symbol.TheVariants as symbol
use Rattle.bool_functions.specs.declared.tree.Node.{Node}
use Rattle.bool_functions.specs.declared.tree.Node.TheVariants as node
use Rattle.bool_functions.specs.declared.reader.Pending.{Pending}
use Rattle.bool_functions.specs.declared.reader.Pending.TheVariants as pending
use Rattle.bool_functions.specs.Grammar.{AtOr, IsText, IsFront, IsFault}
use Rattle.bool_functions.specs.Machine.{finished, ended, next, step, State, run, start}
use Rattle.bool_functions.proofs.Complete.{Ends, ends_and, ends_xor, ends_not, skip_not, skip_xor, skip_and, skip_or, text_read}
use Rattle.bool_functions.proofs.Sound.{read_text}

-- brackets that close all open groups
closings : List Pending → List Symbol
closings [] = []
closings (pending.Group ∷ ps) = symbol.Close ∷ closings ps
closings (p ∷ ps) = closings ps

ends_closings : (ps : List Pending) → Ends AtOr (closings ps)
unfolding closings
ends_closings [] = tt
ends_closings (pending.Group ∷ ps) = tt
ends_closings (pending.Or f ∷ ps) = ends_closings ps
ends_closings (pending.And f ∷ ps) = ends_closings ps
ends_closings (pending.Xor f ∷ ps) = ends_closings ps
ends_closings (pending.Not ∷ ps) = ends_closings ps

-- after an operand they make a whole text
completes : (ps : List Pending) (g : Node) → (f : Node) × (run (ps, Some g) (closings ps) ≡ Ok f)
unfolding closings
completes [] g = (g, refl)
completes (pending.Group ∷ ps) g = completes ps g
completes (pending.Or h ∷ ps) g = let (f, e) = completes ps (node.Or h g)
    in (f, skip_or ps h g (closings ps) (ends_closings ps) ∙ e)
completes (pending.And h ∷ ps) g =
    let (f, e) = completes ps (node.And h g) in (f, skip_and ps h g (closings ps) (ends_and (closings ps) (ends_closings ps)) ∙ e)
completes (pending.Xor h ∷ ps) g =
    let (f, e) = completes ps (node.Xor h g)
    in (f, skip_xor ps h g (closings ps) (ends_xor (closings ps) (ends_and (closings ps) (ends_closings ps))) ∙ e)
completes (pending.Not ∷ ps) g =
    let (f, e) = completes ps (node.Not g) in (
      f,
      skip_not ps g (closings ps) (ends_not (closings ps) (ends_xor (closings ps) (ends_and (closings ps) (ends_closings ps))))
          ∙ e,
    )

-- from each state some symbols lead to a whole text
goes_on : (st : State) → (more : List Symbol) × (f : Node) × (run st more ≡ Ok f)
goes_on (ps, None) = let (f, e) = completes ps node.Zero in (symbol.Zero ∷ closings ps, f, e)
goes_on (ps, Some g) = let (f, e) = completes ps g in (closings ps, f, e)

-- the symbol, or the end, at which the reader stops
Bad : State → List Symbol → Type 0
Bad st [] = finished st ≡ None
Bad st (x ∷ s) = step st x ≡ None

record Stops (st : State) (t m : List Symbol) : Type 0 where
  pub front : List Symbol
  pub after : State
  pub splits : t ≡ front ++ m
  pub reads : (rest : List Symbol) → run st (front ++ rest) ≡ run after rest
  pub bad : Bad after m

at_end : (st : State) (m : List Symbol) (o : Option Node) → finished st ≡ o → ended o ≡ Err m → Stops st [] m
unfolding Bad
at_end st m None e k = let i : [] ≡ m = cc in record {
  front = [];
  after = st;
  splits = i;
  reads = λ rest. refl;
  bad = subst (λ l. Bad st l) i e;
}
at_end st m (Some f) e k = absurd cc

at_symbol : (st : State) (x : Symbol) (s m : List Symbol) (o : Option State) → step st x ≡ o
    → next o (x ∷ s) (λ a. run a s) ≡ Err m
    → ((a : State) → run a s ≡ Err m → Stops a s m) → Stops st (x ∷ s) m
unfolding Bad
at_symbol st x s m None e k later = let i : x ∷ s ≡ m = cc in record {
  front = [];
  after = st;
  splits = i;
  reads = λ rest. refl;
  bad = subst (λ l. Bad st l) i e;
}
at_symbol st x s m (Some a) e k later = let r = later a k in record {
  front = x ∷ r.front;
  after = r.after;
  splits = ap (λ l. x ∷ l) r.splits;
  reads = λ rest. ap (λ o. next o (x ∷ (r.front ++ rest)) (λ b. run b (r.front ++ rest))) e ∙ r.reads rest;
  bad = r.bad;
}

stops : (st : State) (t m : List Symbol) → run st t ≡ Err m → Stops st t m
stops st [] m e = at_end st m (finished st) refl e
stops st (x ∷ s) m e = at_symbol st x s m (step st x) refl e (λ a k. stops a s m k)

front_taken : (s front m : List Symbol) (at : ℕ) → s ≡ front ++ m → length front ≡ at → take at s ≡ front
front_taken s front m at e l = ap (λ n. take n s) (sym l) ∙ ap (take (length front)) e ∙ take-append_seam front m

longer_taken : (s front : List Symbol) (x : Symbol) (m : List Symbol) (at : ℕ) → s ≡ front ++ x ∷ m → length front ≡ at
    → take (at + 1) s ≡ front ++ x ∷ []
longer_taken s front x m at e l = ap (λ n. take (n + 1) s) (sym l) ∙ ap (take (length front + 1)) e
    ∙ take-append-add front (x ∷ m) 1

-- with the symbol at which the reader stops no text goes on
no_front : (s : List Symbol) (at : ℕ) (front : List Symbol) (after : State) (m : List Symbol) → s ≡ front ++ m → length front ≡ at
    → ((rest : List Symbol) → run start (front ++ rest) ≡ run after rest) → Bad after m → at < length s
    → IsFront (take (at + 1) s) → ⊥
unfolding Bad
no_front s at front after [] e l reads bad lt fronts = omega (arith, ap length e, length-append front [])
no_front s at front after (x ∷ m) e l reads bad lt (more, f, t) =
    let text : run start ((front ++ x ∷ []) ++ more) ≡ Ok f =
    ap (λ u. run start (u ++ more)) (sym (longer_taken s front x m at e l)) ∙ text_read (take (at + 1) s ++ more) f t in
    let joined_up : run start ((front ++ x ∷ []) ++ more) ≡ run start (front ++ x ∷ more) =
    ap (run start) (append_assoc front (x ∷ []) more) in
    let ends : run after (x ∷ more) ≡ Err (x ∷ more) = ap (λ o. next o (x ∷ more) (λ b. run b more)) bad in
    let known : run start (front ++ x ∷ more) ≡ run after (x ∷ more) = reads (x ∷ more) in
    absurd cc

no_text : (s m : List Symbol) (f : Node) → run start s ≡ Err m → IsText s f → ⊥
no_text s m f e t = let k : run start s ≡ Ok f = text_read s f t in absurd cc

of_stop : (s : List Symbol) (at : ℕ) → at ≤ length s → run start s ≡ Err (drop at s) → Stops start s (drop at s) → IsFault s at
of_stop s at le e r =
    let l : length r.front ≡ at = omega (arith, ap length r.splits, length-append r.front (drop at s), length-drop at s) in
    let (more, f, k) = goes_on r.after in
    record {
      within = le;
      before = subst IsFront (sym (front_taken s r.front (drop at s) at r.splits l))
          (more, f, read_text (r.front ++ more) f (r.reads more ∙ k));
      first = no_front s at r.front r.after (drop at s) r.splits l r.reads r.bad;
      short = λ _ g t. no_text s (drop at s) g e t;
    }

-- the place where the reader stops is the fault
pub stop_is_fault : (s : List Symbol) (at : ℕ) → at ≤ length s → run start s ≡ Err (drop at s) → IsFault s at
stop_is_fault s at le e = of_stop s at le e (stops start s (drop at s) e)

-- what the reader leaves is the rest of the symbols from one on
pub stop_splits : (s m : List Symbol) → run start s ≡ Err m → (length m ≤ length s) × (m ≡ drop (length s - length m) s)
stop_splits s m e =
    let r = stops start s m e in
    let n : length s ≡ length r.front + length m = ap length r.splits ∙ length-append r.front m in
    let l : length s - length m ≡ length r.front = omega (arith, n) in
    (omega (arith, n), sym (ap (λ k. drop k s) l ∙ ap (drop (length r.front)) r.splits ∙ drop-append_seam r.front m))
