-- The next token among the instances of a module.
use Rattle.std.proofs.Common.{◌≡◌, ℕ, ◌+◌, ◌-◌, ◌<◌, Ok, sym, ◌∙◌, Bool, true, false, ◌||◌, List, [], ◌∷◌, Option, Some, None}
use Rattle.std.proofs.Common.{Result, Err, if◌then◌else◌, codes, refl, ap}
use Rattle.std.specs.Result.{IsErrAnd}
use Rattle.std.specs.Str.{bytes_eq}
use Rattle.grammar_rules.specs.Rule.{Verdict, Fits, Misfit}
use Rattle.grammar_rules.specs.Reading.{Outcome, and_then, choose, judge_first, read, repeat}
use Rattle.udp_tables.specs.declared.table.Udp.{Udp}
use Rattle.verilog_tokens.specs.Tokens.{is_name}
use Rattle.grammar_reader.specs.declared.refusal.Refusal.{Refusal}
use Rattle.grammar_reader.specs.declared.refusal.Refusal.TheVariants.{Undefined}
use Rattle.grammar_reader.specs.declared.refusal.Stop.{Stop}
use Rattle.grammar_reader.specs.declared.refusal.Stop.TheVariants.{Memory, Refused}
use Rattle.grammar_reader.specs.Reading.{ReadsAs}
use Rattle.verilog_grammar.specs.VerilogModules.{begins_instance, of_primitive, primitive_number, one_instance, with_instance}
use Rattle.verilog_grammar.specs.specify_blocks.declared.model.Instance.{Instance}
use Rattle.verilog_grammar.specs.specify_blocks.declared.model.VModule.{VModule}
use Rattle.grammar_reader.proofs.Repeats.{turn}
use Rattle.verilog_reader.specs.Begun.{is_instance_start, instance_primitive, numbered}
use Rattle.grammar_reader.specs.Next.{next_bytes, rest}

abbrev begun_by : Bool → Bool → Option ℕ → Option (Verdict (Option ℕ) Refusal)
begun_by buffer name o = if buffer then Some (Fits None) else (if name then Some (of_primitive o) else None)

abbrev fits_of : Option ℕ → Option (Verdict (Option ℕ) Refusal)
fits_of o = Some (Fits o)

none_by : (buffer name : Bool) (o : Option ℕ) → (buffer || name) ≡ false → begun_by buffer name o ≡ None
none_by true name o e = absurd cc
none_by false true o e = absurd cc
none_by false false o e = refl

undefined_by : (buffer name : Bool) (o : Option ℕ) → (buffer || name) ≡ true → (if buffer then Some None else numbered o) ≡ None →
    begun_by buffer name o ≡ Some (Misfit Undefined)
undefined_by true name o e f = absurd cc
undefined_by false false o e f = absurd cc
undefined_by false true None e f = refl
undefined_by false true (Some j) e f = absurd cc

some_by : (buffer name : Bool) (o : Option ℕ) (p : Option ℕ) → (buffer || name) ≡ true
    → (if buffer then Some None else numbered o) ≡ Some p →
    begun_by buffer name o ≡ Some (Fits p)
some_by true name o None e f = refl
some_by true name o (Some j) e f = absurd cc
some_by false false o p e f = absurd cc
some_by false true None p e f = absurd cc
some_by false true (Some j) p e f = let same : Some j ≡ p = cc in ap fits_of same

none_at : (udps : List Udp) (x : List ℕ) → is_instance_start x ≡ false → begins_instance udps x ≡ None
none_at udps x e = none_by (bytes_eq x (codes "buf")) (is_name x) (primitive_number udps x) e

undefined_at : (udps : List Udp) (x : List ℕ) → is_instance_start x ≡ true → instance_primitive udps x ≡ None
    → begins_instance udps x ≡ Some (Misfit Undefined)
undefined_at udps x e f = undefined_by (bytes_eq x (codes "buf")) (is_name x) (primitive_number udps x) e f

some_at : (udps : List Udp) (x : List ℕ) (p : Option ℕ) → is_instance_start x ≡ true → instance_primitive udps x ≡ Some p
    → begins_instance udps x ≡ Some (Fits p)
some_at udps x p e f = some_by (bytes_eq x (codes "buf")) (is_name x) (primitive_number udps x) p e f

pub no_instance : {B : Type 0} (udps : List Udp) (s : List (List ℕ)) (go : Option ℕ → List (List ℕ) → Outcome (List ℕ) Refusal B)
    (other : Outcome (List ℕ) Refusal B) →
    is_instance_start (next_bytes s) ≡ false → choose (begins_instance udps) s go other ≡ other
no_instance udps [] go other e = refl
no_instance udps (x ∷ s) go other e = ap (λ o. judge_first o (λ a. go a s) (λ k. Err (k, x ∷ s)) other) (none_at udps x e)

pub undefined : {B : Type 0} (udps : List Udp) (s : List (List ℕ)) (go : Option ℕ → List (List ℕ) → Outcome (List ℕ) Refusal B)
    (other : Outcome (List ℕ) Refusal B) →
    is_instance_start (next_bytes s) ≡ true → instance_primitive udps (next_bytes s) ≡ None
    → choose (begins_instance udps) s go other ≡ Err (Undefined, s)
undefined udps [] go other e f = absurd cc
undefined udps (x ∷ s) go other e f = ap (λ o. judge_first o (λ a. go a s) (λ k. Err (k, x ∷ s)) other) (undefined_at udps x e f)

pub some_instance : {B : Type 0} (udps : List Udp) (s : List (List ℕ)) (go : Option ℕ → List (List ℕ)
    → Outcome (List ℕ) Refusal B) (other : Outcome (List ℕ) Refusal B)
    (p : Option ℕ) → is_instance_start (next_bytes s) ≡ true → instance_primitive udps (next_bytes s) ≡ Some p
    → choose (begins_instance udps) s go other ≡ go p (rest s)
some_instance udps [] go other p e f = absurd cc
some_instance udps (x ∷ s) go other p e f =
    ap (λ o. judge_first o (λ a. go a s) (λ k. Err (k, x ∷ s)) other) (some_at udps x p e f)

-- so many more turns of instances
abbrev pub turns : ℕ → VModule → List (List ℕ) → Outcome (List ℕ) Refusal VModule
turns n m s = repeat (λ (u : VModule). begins_instance u.udps) (λ u p r. read (one_instance u p) r) n m s

taken : (n i : ℕ) (m : VModule) (s left : List (List ℕ)) (p : Option ℕ) (j : Instance) → i < n
    → is_instance_start (next_bytes s) ≡ true →
    instance_primitive m.udps (next_bytes s) ≡ Some p → read (one_instance m p) (rest s) ≡ Ok (with_instance m j, left) →
    turns (n - (i + 1)) (with_instance m j) left ≡ turns (n - i) m s
taken n i m s left p j h e f g =
    let go : Option ℕ → List (List ℕ)
    → Outcome (List ℕ) Refusal VModule = λ q r. and_then (read (one_instance m q) r) (λ v t. turns (n - (i + 1)) v t) in
    sym (turn (λ (u : VModule). begins_instance u.udps) (λ u q r. read (one_instance u q) r) n i m s h
    ∙ some_instance m.udps s go (Ok (m, s)) p e f
    ∙ ap (λ (o : Outcome (List ℕ) Refusal VModule). and_then o (λ v t. turns (n - (i + 1)) v t)) g)

-- one more instance is read
pub preserved : (n i : ℕ) (m joined : VModule) (s left more : List (List ℕ)) (x y : List ℕ) (starts : Bool)
    (found : Option (Option ℕ))
    (p : Option ℕ) (j : Instance) (whole : Outcome (List ℕ) Refusal VModule) →
    i < n → x ≡ next_bytes s → starts ≡ is_instance_start x → starts ≡ true → y ≡ next_bytes s →
    found ≡ instance_primitive m.udps y → found ≡ Some p → more ≡ rest s
    → read (one_instance m p) more ≡ Ok (with_instance m j, left) →
    joined ≡ with_instance m j → turns (n - i) m s ≡ whole → turns (n - (i + 1)) joined left ≡ whole
preserved n i m joined s left more x y starts found p j whole h ex es et ey ef ep em er ej ew =
    let start : is_instance_start (next_bytes s) ≡ true = ap is_instance_start (sym ex) ∙ sym es ∙ et in
    let which : instance_primitive m.udps (next_bytes s) ≡ Some p = ap (λ (z : List ℕ). instance_primitive m.udps z) (sym ey)
    ∙ sym ef ∙ ep in
    let reads : read (one_instance m p) (rest s) ≡ Ok (with_instance m j, left) =
    ap (λ (q : List (List ℕ)). read (one_instance m p) q) (sym em) ∙ er in
    ap (λ (u : VModule). turns (n - (i + 1)) u left) ej ∙ taken n i m s left p j h start which reads ∙ ew

-- no primitive has the name that is next
pub undefined_exit : (n i : ℕ) (m : VModule) (s : List (List ℕ)) (x y : List ℕ) (starts : Bool) (found : Option (Option ℕ))
    (whole : Outcome (List ℕ) Refusal VModule) →
    i < n → x ≡ next_bytes s → starts ≡ is_instance_start x → starts ≡ true → y ≡ next_bytes s
    → found ≡ instance_primitive m.udps y → found ≡ None →
    turns (n - i) m s ≡ whole → whole ≡ Err (Undefined, s)
undefined_exit n i m s x y starts found whole h ex es et ey ef en ew =
    let go : Option ℕ → List (List ℕ)
    → Outcome (List ℕ) Refusal VModule = λ q r. and_then (read (one_instance m q) r) (λ v t. turns (n - (i + 1)) v t) in
    let start : is_instance_start (next_bytes s) ≡ true = ap is_instance_start (sym ex) ∙ sym es ∙ et in
    let which : instance_primitive m.udps (next_bytes s) ≡ None = ap (λ (z : List ℕ). instance_primitive m.udps z) (sym ey)
    ∙ sym ef ∙ en in
    sym ew
    ∙ turn (λ (u : VModule). begins_instance u.udps) (λ u q r. read (one_instance u q) r) n i m s h
    ∙ undefined m.udps s go (Ok (m, s)) start which

-- the instance that begins is refused
pub refused_exit : {B : Type 0} (n i : ℕ) (m : VModule) (s left more : List (List ℕ)) (x y : List ℕ) (starts : Bool)
    (found : Option (Option ℕ)) (p : Option ℕ)
    (whole : Outcome (List ℕ) Refusal VModule) (stop : Stop) (value : B → VModule) (result : Result B Stop) →
    i < n → x ≡ next_bytes s → starts ≡ is_instance_start x → starts ≡ true → y ≡ next_bytes s
    → found ≡ instance_primitive m.udps y → found ≡ Some p → more ≡ rest s →
    ReadsAs {B = Instance} (with_instance m) (read (one_instance m p) more) (Err stop) left → turns (n - i) m s ≡ whole
    → IsErrAnd result (λ made. made ≡ stop) →
    ReadsAs value whole result left
refused_exit n i m s left more x y starts found p whole stop value (Ok v) h ex es et ey ef ep em er ew made = absurd made
refused_exit n i m s left more x y starts found p whole Memory value (Err e) h ex es et ey ef ep em er ew made = rw made tt
refused_exit n i m s left more x y starts found p whole (Refused k) value (Err e) h ex es et ey ef ep em er ew made =
    let go : Option ℕ → List (List ℕ)
    → Outcome (List ℕ) Refusal VModule = λ q r. and_then (read (one_instance m q) r) (λ v t. turns (n - (i + 1)) v t) in
    let start : is_instance_start (next_bytes s) ≡ true = ap is_instance_start (sym ex) ∙ sym es ∙ et in
    let which : instance_primitive m.udps (next_bytes s) ≡ Some p = ap (λ (z : List ℕ). instance_primitive m.udps z) (sym ey)
    ∙ sym ef ∙ ep in
    let reads : read (one_instance m p) (rest s) ≡ Err (k, left) = ap (λ (q : List (List ℕ)). read (one_instance m p) q) (sym em)
    ∙ er in
    let all : whole ≡ Err (k, left) =
    sym ew
    ∙ turn (λ (u : VModule). begins_instance u.udps) (λ u q r. read (one_instance u q) r) n i m s h
    ∙ some_instance m.udps s go (Ok (m, s)) p start which
    ∙ ap (λ (o : Outcome (List ℕ) Refusal VModule). and_then o (λ v t. turns (n - (i + 1)) v t)) reads in
    rw made all
