-- The grammar of a library leads from its name to its end.
use Rattle.std.proofs.Common.{◌≡◌, ◌≢◌, ℕ, zero, suc, ◌+◌, ◌<◌, ◌==◌, nat_lt, Bool, true, false, not, List, [], ◌∷◌, ◌++◌, Option}
use Rattle.std.proofs.Common.{Some, None, refl, ap, subst, ◌∙◌, arith, cond, add-one}
use Rattle.std.proofs.lemmas.Bool.Decides.{nat_tests}
use Rattle.grammar_rules.specs.Rule.{Rule, Verdict, Fits, Foul, Misfit, Stops, Takes}
use Rattle.grammar_rules.specs.Rule as r
use Rattle.liberty_groups.specs.declared.fault.Expected.TheVariants as expected
use Rattle.liberty_groups.specs.declared.fault.Refusal.{Refusal}
use Rattle.liberty_groups.specs.declared.fault.Refusal.TheVariants.{Syntax, TooDeep, NotLibrary}
use Rattle.liberty_groups.specs.declared.outline.Standing.{Standing}
use Rattle.liberty_groups.specs.declared.outline.Standing.TheVariants.{Start, AfterLibrary, HeadArguments, AfterHead, Statements}
use Rattle.liberty_groups.specs.declared.outline.Standing.TheVariants.{AfterName, Arguments, AfterArguments, ValueStart, Value}
use Rattle.liberty_groups.specs.declared.outline.Standing.TheVariants.{Done}
use Rattle.liberty_groups.specs.declared.reader.Mark.{Mark}
use Rattle.liberty_groups.specs.declared.reader.Mark.TheVariants as mark
use Rattle.liberty_groups.specs.declared.reader.Place.{Place}
use Rattle.liberty_groups.specs.declared.reader.Place.TheVariants as place
use Rattle.liberty_groups.specs.declared.reader.Start.{Start as Begun}
use Rattle.liberty_groups.specs.declared.reader.Start.TheVariants as begun
use Rattle.liberty_groups.specs.declared.tree.Item.{Item}
use Rattle.liberty_groups.specs.declared.tree.Item.TheVariants as item
use Rattle.liberty_groups.specs.declared.tree.Value.{Value as Part}
use Rattle.liberty_groups.specs.Lexeme.{Lexeme}
use Rattle.liberty_groups.specs.Grammar.{Grammar, ◌>>=◌, is_mark, only_mark, expect, part_at, parts, arguments, goes_on, is_value}
use Rattle.liberty_groups.specs.Grammar.{ends_value, end_at, value_end, more_value, no_value, value, colon, simple, start_by}
use Rattle.liberty_groups.specs.Grammar.{begun_by, starts, one_more, some_statements, statements, opens, group_of}
use Rattle.liberty_groups.specs.Grammar.{complex_or_group, bracketed, after_name, body, statement}
use Rattle.liberty_groups.specs.Library.{Found, nothing_found, counted, levels_inside, is_library_name, library_name, header}
use Rattle.liberty_groups.specs.Library.{telling, counted_statement, counting, contents, rest_of_library, library}
use Rattle.liberty_groups.specs.Outline.{at_mark, in_arguments, among_statements, after_end}
use Rattle.liberty_groups.proofs.Guides.{next, Leads, Judges, Passes, Begins, IsOpen, step_same, leads_then, leads_marked}
use Rattle.liberty_groups.proofs.Guides.{leads_token, leads_peek, leads_choice, leads_many, leads_last}

-- a test that did not pass
pub failed : {A K : Type 0} (b : Bool) (v : Verdict A K) → cond b (Some v) None ≡ None → b ≡ false
failed true v e = absurd cc
failed false v e = refl

pub begins_if : (K : Type 0) {A : Type 0} (here : Standing) (q : A → Standing) (x : Lexeme) (b : Bool) (a : A)
    → (b ≡ true → next here x ≡ Some (q a)) →
    Begins {K = K} {A = A} here q x (cond b (Some (Fits a)) None)
begins_if K here q x true a h = h refl
begins_if K here q x false a h = tt

pub judges_mark : {K : Type 0} (here behind : Standing) (x : Lexeme) (b : Bool) (k : K) → next here x ≡ at_mark b behind →
    Judges {K = K} {A = Unit {0}} here behind x (cond b (Fits tt) (Misfit k))
judges_mark here behind x true k h = h
judges_mark here behind x false k h = h

pub passes_end : {K : Type 0} (here there : Standing) (x : Lexeme) (b : Bool) (k : K) → next here x ≡ cond b (next there x) None →
    Passes {K = K} {A = Unit {0}} here there x (cond b (Fits tt) (Misfit k))
passes_end here there x true k h = h
passes_end here there x false k h = h

pub stopped : {A K : Type 0} (f : Lexeme → Option (Verdict A K)) (s : List Lexeme) (x : Lexeme) (m : List Lexeme) → s ≡ x ∷ m
    → Stops f s → f x ≡ None
stopped f s x m e h = subst (Stops f) e h

leads_parts : (p : Place) (found : List Part) (here : Standing)
    → ((x : Lexeme) → goes_on p x.token ≡ true → next here x ≡ Some here) →
    (s : List Lexeme) → Leads (parts p found) here here s
leads_parts p found here h s =
    leads_many (λ _. part_at p) (λ found part. r.Gives (found ++ part)) found here (λ _. here)
    (λ w x. begins_if Refusal here (λ _. here) x (goes_on p x.token) _ (h x)) (λ w a m. refl) s

-- after a list of values no token goes on in it
parts_stop : (p : Place) (found out : List Part) (s m : List Lexeme) → Takes (parts p found) s out m
    → (x : Lexeme) (t : List Lexeme) → m ≡ x ∷ t → goes_on p x.token ≡ false
parts_stop p found out s m (n, t, h) x q e = failed (goes_on p x.token) _ (stopped (part_at p) m x q e h)

-- a mark that must stand here, and then nothing but a value
leads_closed : {A : Type 0} (m : Mark) (k : Refusal) (a : A) (here behind : Standing) → IsOpen here → (s : List Lexeme) →
    ((x : Lexeme) (q : List Lexeme) → s ≡ x ∷ q → next here x ≡ at_mark (is_mark m x.token.kind) behind) →
    Leads (expect m k >>= λ _. r.Gives a) here behind s
leads_closed {A} m k a here behind o s h =
    leads_then (expect m k) (λ _. r.Gives {K = Refusal} {A = A} a) here behind behind s
    (leads_token (only_mark m k) k here behind s o (λ x q e. judges_mark here behind x (is_mark m x.token.kind) k (h x q e)))
    (λ u q t. refl)

pub leads_arguments : (here behind : Standing) → IsOpen here → ((x : Lexeme) → next here x ≡ in_arguments here behind x.token) →
    (s : List Lexeme) → Leads arguments here behind s
unfolding arguments
leads_arguments here behind o h s =
    leads_then (parts place.Arguments []) (λ found. expect mark.Close (Syntax expected.Argument) >>= λ _. r.Gives found) here here
    behind s
    (leads_parts place.Arguments [] here (λ x e. h x ∙ (rw e refl)) s)
    (λ found m t. leads_closed mark.Close (Syntax expected.Argument) found here behind o m
    (λ x q e. h x ∙ (let n = parts_stop place.Arguments [] found s m t x q e in rw n refl)))

-- the end of a value, and then nothing but the value
leads_ended : {A : Type 0} (p : Place) (a : A) (here there : Standing) → IsOpen here → (s : List Lexeme) →
    ((x : Lexeme) (q : List Lexeme) → s ≡ x ∷ q → next here x ≡ cond (ends_value p x.token) (next there x) None) →
    Leads (value_end p >>= λ _. r.Gives a) here there s
leads_ended {A} p a here there o s h =
    leads_then (value_end p) (λ _. r.Gives {K = Refusal} {A = A} a) here there there s
    (leads_peek (end_at p) (Syntax expected.Value) here there s o
    (λ x q e. passes_end here there x (ends_value p x.token) (Syntax expected.Value) (h x q e)))
    (λ u q t. refl)

leads_more_value : (d : ℕ) (part : List Part) (s : List Lexeme) → Leads (more_value part) (Value d) (Statements d) s
unfolding more_value
leads_more_value d part s =
    leads_then (parts place.Value part) (λ found. value_end place.Value >>= λ _. r.Gives found) (Value d) (Value d)
    (Statements d) s
    (leads_parts place.Value part (Value d) (λ x e. rw e refl) s)
    (λ found m t. leads_ended place.Value found (Value d) (Statements d) refl m
    (λ x q e. let n = parts_stop place.Value part found s m t x q e in rw n refl))

leads_no_value : (d : ℕ) (s : List Lexeme) → Stops (part_at place.ValueStart) s → Leads no_value (ValueStart d) (Statements d) s
unfolding no_value
leads_no_value d s h =
    leads_ended place.ValueStart [] (ValueStart d) (Statements d) refl s
    (λ x q e. let n = failed (is_value x.token.kind) _ (stopped (part_at place.ValueStart) s x q e h) in rw n refl)

pub leads_value : (d : ℕ) (s : List Lexeme) → Leads value (ValueStart d) (Statements d) s
unfolding value
leads_value d s =
    leads_choice (part_at place.ValueStart) more_value no_value (ValueStart d) (Statements d) (λ _. Value d) s
    (λ x. begins_if Refusal (ValueStart d) (λ _. Value d) x (is_value x.token.kind) _ (λ e. rw e refl))
    (λ x part m e. leads_more_value d part m)
    (λ h. leads_no_value d s h)

pub leads_simple : (d : ℕ) (name : List ℕ) (at : ℕ) (s : List Lexeme) → Leads (simple name at) (ValueStart d) (Statements d) s
unfolding simple
leads_simple d name at s =
    leads_then value (λ found. r.Gives {K = Refusal} (item.Simple name found at)) (ValueStart d) (Statements d) (Statements d) s
    (leads_value d s) (λ found m t. refl)

-- where a token among statements leads
abbrev pub begun_at : ℕ → Option Lexeme → Standing
begun_at d None = Statements d
begun_at d (Some x) = AfterName d

begins_by : (K : Type 0) (d : ℕ) (x : Lexeme) (b : Begun) (ends : Bool) → next (Statements d) x ≡ among_statements d b ends →
    Begins {K = K} (Statements d) (begun_at d) x (begun_by b x)
begins_by K d x begun.Named ends h = h
begins_by K d x begun.Empty ends h = h
begins_by K d x begun.Other ends h = tt

pub begins_statement : (K : Type 0) (d : ℕ) (x : Lexeme) → Begins {K = K} (Statements d) (begun_at d) x (starts x)
begins_statement K d x = begins_by K d x (start_by x.token.kind) (is_mark mark.End x.token.kind) refl

pub is_other : {K : Type 0} (b : Begun) (x : Lexeme) → begun_by {K = K} b x ≡ None → b ≡ begun.Other
is_other begun.Named x e = absurd cc
is_other begun.Empty x e = absurd cc
is_other begun.Other x e = refl

-- where no statement begins, a closing brace ends them
pub ends_statements : (K : Type 0) (d : ℕ) (s : List Lexeme) → Stops (starts {K = K}) s → (x : Lexeme) (q : List Lexeme)
    → s ≡ x ∷ q →
    next (Statements d) x ≡ at_mark (is_mark mark.End x.token.kind) (after_end d)
ends_statements K d s h x q e = let n = is_other {K = K} (start_by x.token.kind) x (stopped (starts {K = K}) s x q e h)
    in rw n refl

leads_one_more : (rule : List ℕ → ℕ → Grammar Item) (d : ℕ)
    → ((name : List ℕ) (at : ℕ) (s : List Lexeme) → Leads (rule name at) (AfterName d) (Statements d) s) →
    (items : List Item) (start : Option Lexeme) (s : List Lexeme)
    → Leads (one_more rule items start) (begun_at d start) (Statements d) s
leads_one_more rule d h items None s = refl
leads_one_more rule d h items (Some x) s =
    leads_then (rule x.bytes x.token.at) (λ found. r.Gives {K = Refusal} (items ++ found ∷ [])) (AfterName d) (Statements d)
    (Statements d) s (h x.bytes x.token.at s) (λ found m t. refl)

pub leads_statements : (rule : List ℕ → ℕ → Grammar Item) (d : ℕ)
    → ((name : List ℕ) (at : ℕ) (s : List Lexeme) → Leads (rule name at) (AfterName d) (Statements d) s) →
    (s : List Lexeme) → Leads (statements rule) (Statements d) (after_end d) s
leads_statements rule d h s =
    leads_then (some_statements rule []) (λ items. expect mark.End (Syntax expected.Statement) >>= λ _. r.Gives items)
    (Statements d) (Statements d) (after_end d) s
    (leads_many (λ _. starts) (one_more rule) [] (Statements d) (begun_at d) (λ w x. begins_statement Refusal d x)
    (λ w a m. leads_one_more rule d h w a m) s)
    (λ items m (n, t, stop). leads_closed mark.End (Syntax expected.Statement) items (Statements d) (after_end d) refl m
    (ends_statements Refusal d m stop))

-- a brace that opens a group, at the depth that goes with the levels left
begins_group : (d : ℕ) (x : Lexeme) (begin below none : Bool) → below ≡ not none →
    next (AfterArguments d) x ≡ cond begin (cond below (Some (Statements (d + 1))) None) (next (Statements d) x) →
    Begins {K = Refusal} {A = Unit {0}} (AfterArguments d) (λ _. Statements (d + 1)) x
    (cond begin (cond none (Some (Misfit TooDeep)) (Some (Fits tt))) None)
begins_group d x false below none e h = tt
begins_group d x true true true e h = absurd cc
begins_group d x true true false e h = h
begins_group d x true false true e h = h
begins_group d x true false false e h = absurd cc

-- groups may be open to as many levels as the depth leaves
below_none : (d n : ℕ) → d + n ≡ levels_inside → nat_lt d levels_inside ≡ not (n == 0)
below_none d zero h = let e : d ≡ 31 = omega arith in rw e refl
below_none d (suc n) h = let e : d < 31 = omega arith in grind (arith, nat_tests)

not_zero : (begin : Bool) (n : ℕ) (u : Unit {0}) →
    ◌≡◌ {A = Option (Verdict (Unit {0}) Refusal)} (cond begin (cond (n == 0) (Some (Misfit TooDeep)) (Some (Fits tt))) None)
    (Some (Fits u)) → n ≢ 0
not_zero true zero u e = absurd cc
not_zero true (suc n) u e = λ h. absurd (omega arith)
not_zero false n u e = absurd cc

begin_stops : (begin none : Bool) →
    ◌≡◌ {A = Option (Verdict (Unit {0}) Refusal)} (cond begin (cond none (Some (Misfit TooDeep)) (Some (Fits tt))) None) None
    → begin ≡ false
begin_stops true true e = absurd cc
begin_stops true false e = absurd cc
begin_stops false none e = refl

-- a complex attribute, after which the statements go on
leads_complex : (d n : ℕ) (found : Item) (s : List Lexeme) → Stops (opens n) s
    → Leads {K = Refusal} (r.Gives found) (AfterArguments d) (Statements d) s
leads_complex d n found [] h = refl
leads_complex d n found (x ∷ m) h =
    let e = begin_stops (is_mark mark.Begin x.token.kind) (n == 0) h in
    step_same (AfterArguments d) (Statements d) x m (rw e refl)

leads_group : (d n : ℕ) → d + n ≡ levels_inside → (inside : Grammar (List Item))
    → (n ≢ 0 → (s : List Lexeme) → Leads inside (Statements (d + 1)) (Statements d) s) →
    (name : List ℕ) (arguments : List Part) (at : ℕ) (s : List Lexeme)
    → Leads (complex_or_group n inside name arguments at) (AfterArguments d) (Statements d) s
unfolding complex_or_group
leads_group d n sum inside h name arguments at s =
    leads_choice (opens n) (λ _. inside >>= λ items. r.Gives (group_of name arguments items at))
    (r.Gives (item.Complex name arguments at))
    (AfterArguments d) (Statements d) (λ _. Statements (d + 1)) s
    (λ x. begins_group d x (is_mark mark.Begin x.token.kind) (nat_lt d levels_inside) (n == 0) (below_none d n sum) refl)
    (λ x u m e. leads_then inside (λ items. r.Gives {K = Refusal} (group_of name arguments items at)) (Statements (d + 1))
    (Statements d) (Statements d) m
    (h (not_zero (is_mark mark.Begin x.token.kind) n u e) m) (λ items q t. refl))
    (λ stop. leads_complex d n (item.Complex name arguments at) s stop)

leads_bracketed : (d n : ℕ) → d + n ≡ levels_inside → (inside : Grammar (List Item))
    → (n ≢ 0 → (s : List Lexeme) → Leads inside (Statements (d + 1)) (Statements d) s) →
    (name : List ℕ) (at : ℕ) (s : List Lexeme) → Stops colon s → Leads (bracketed n inside name at) (AfterName d) (Statements d) s
unfolding bracketed
leads_bracketed d n sum inside h name at s stop =
    leads_then (expect mark.Open (Syntax expected.AfterName))
    (λ _. arguments >>= λ found. complex_or_group n inside name found at) (AfterName d) (Arguments d) (Statements d) s
    (leads_token (only_mark mark.Open (Syntax expected.AfterName)) (Syntax expected.AfterName) (AfterName d) (Arguments d) s refl
    (λ x q e. judges_mark (AfterName d) (Arguments d) x (is_mark mark.Open x.token.kind) (Syntax expected.AfterName)
    (let i = failed (is_mark mark.Colon x.token.kind) _ (stopped colon s x q e stop) in rw i refl)))
    (λ u m t. leads_then arguments (λ found. complex_or_group n inside name found at) (Arguments d) (AfterArguments d)
    (Statements d) m
    (leads_arguments (Arguments d) (AfterArguments d) refl (λ x. refl) m)
    (λ found q t. leads_group d n sum inside h name found at q))

leads_after_name : (d n : ℕ) → d + n ≡ levels_inside → (inside : Grammar (List Item))
    → (n ≢ 0 → (s : List Lexeme) → Leads inside (Statements (d + 1)) (Statements d) s) →
    (name : List ℕ) (at : ℕ) (s : List Lexeme) → Leads (after_name n inside name at) (AfterName d) (Statements d) s
leads_after_name d n sum inside h name at s =
    leads_choice colon (λ _. simple name at) (bracketed n inside name at) (AfterName d) (Statements d) (λ _. ValueStart d) s
    (λ x. begins_if Refusal (AfterName d) (λ _. ValueStart d) x (is_mark mark.Colon x.token.kind) tt (λ e. rw e refl))
    (λ x u m e. leads_simple d name at m)
    (λ stop. leads_bracketed d n sum inside h name at s stop)

leads_body : (d n : ℕ) → d + n ≡ levels_inside → n ≢ 0 → (s : List Lexeme) → Leads (body n) (Statements (d + 1)) (Statements d) s
unfolding body
leads_body d zero sum h s = absurd (h refl)
leads_body d (suc n) sum h s =
    let e : after_end (d + 1) ≡ Statements d = ap after_end (add-one d) in
    subst (λ q. Leads (statements (after_name n (body n))) (Statements (d + 1)) q s) e
    (leads_statements (after_name n (body n)) (d + 1)
    (leads_after_name (d + 1) n (omega arith) (body n) (λ i m. leads_body (d + 1) n (omega arith) i m)) s)

pub leads_statement : (name : List ℕ) (at : ℕ) (s : List Lexeme)
    → Leads (statement levels_inside name at) (AfterName 0) (Statements 0) s
leads_statement name at s =
    leads_after_name 0 levels_inside refl (body levels_inside) (λ h m. leads_body 0 levels_inside refl h m) name at s

leads_header : (s : List Lexeme) → Leads header Start (Statements 0) s
unfolding header
leads_header s =
    leads_then (r.Token library_name NotLibrary)
    (λ _. expect mark.Open (Syntax expected.Opening) >>= λ _. arguments >>= λ _. expect mark.Begin (Syntax expected.Opening))
    Start AfterLibrary (Statements 0) s
    (leads_token library_name NotLibrary Start AfterLibrary s refl
    (λ x q e. judges_mark Start AfterLibrary x (is_library_name x) NotLibrary refl))
    (λ u m t. leads_then (expect mark.Open (Syntax expected.Opening))
    (λ _. arguments >>= λ _. expect mark.Begin (Syntax expected.Opening)) AfterLibrary HeadArguments (Statements 0) m
    (leads_token (only_mark mark.Open (Syntax expected.Opening)) (Syntax expected.Opening) AfterLibrary HeadArguments m refl
    (λ x q e. judges_mark AfterLibrary HeadArguments x (is_mark mark.Open x.token.kind) (Syntax expected.Opening) refl))
    (λ u m t. leads_then arguments (λ _. expect mark.Begin (Syntax expected.Opening)) HeadArguments AfterHead (Statements 0) m
    (leads_arguments HeadArguments AfterHead refl (λ x. refl) m)
    (λ found q t. leads_token (only_mark mark.Begin (Syntax expected.Opening)) (Syntax expected.Opening) AfterHead
    (Statements 0) q refl
    (λ x q e. judges_mark AfterHead (Statements 0) x (is_mark mark.Begin x.token.kind) (Syntax expected.Opening) refl))))

leads_counting : (found : Found) (start : Option Lexeme) (s : List Lexeme)
    → Leads (counting found start) (begun_at 0 start) (Statements 0) s
unfolding counted_statement
leads_counting found None s = refl
leads_counting found (Some x) s =
    let p = statement levels_inside x.bytes x.token.at >>= λ item. r.Gives (counted found item) in
    leads_marked (λ k. (found, k)) p (AfterName 0) (Statements 0) s
    (leads_then (statement levels_inside x.bytes x.token.at) (λ item. r.Gives {K = Refusal} (counted found item)) (AfterName 0)
    (Statements 0) (Statements 0) s
    (leads_statement x.bytes x.token.at s) (λ item m t. refl))

leads_rest : (s : List Lexeme) → Leads rest_of_library (Statements 0) Done s
unfolding rest_of_library
leads_rest s =
    leads_then (contents nothing_found)
    (λ found. telling found (expect mark.End (Syntax expected.Statement)) >>= λ _. r.Last (λ _. (found, Syntax expected.FileEnd))
    found) (Statements 0) (Statements 0) Done s
    (leads_many (λ _. starts) counting nothing_found (Statements 0) (begun_at 0) (λ w x. begins_statement (Found × Refusal) 0 x)
    (λ w a m. leads_counting w a m) s)
    (λ found m (n, t, stop). leads_then (telling found (expect mark.End (Syntax expected.Statement)))
    (λ _. r.Last (λ _. (found, Syntax expected.FileEnd)) found) (Statements 0) Done Done m
    (leads_marked (λ k. (found, k)) (expect mark.End (Syntax expected.Statement)) (Statements 0) Done m
    (leads_token (only_mark mark.End (Syntax expected.Statement)) (Syntax expected.Statement) (Statements 0) Done m refl
    (λ x q e. judges_mark (Statements 0) Done x (is_mark mark.End x.token.kind) (Syntax expected.Statement)
    (ends_statements (Found × Refusal) 0 m stop x q e))))
    (λ u q t. leads_last (λ _. (found, Syntax expected.FileEnd)) found q))

pub leads_library : (s : List Lexeme) → Leads library Start Done s
unfolding library
leads_library s =
    leads_then (telling nothing_found header) (λ _. rest_of_library) Start (Statements 0) Done s
    (leads_marked (λ k. (nothing_found, k)) header Start (Statements 0) s (leads_header s))
    (λ u m t. leads_rest m)
