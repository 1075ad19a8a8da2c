-- The lines of a run, put one behind another as the simulator takes the changes.
use Rattle.std.proofs.Common.{◌≡◌, ℕ, ◌+◌, Bool, true, false, if◌then◌else◌, ◌<◌, ◌≤◌, List, [], ◌∷◌, ◌++◌, get_or, take, drop}
use Rattle.std.proofs.Common.{length, All, Option, Some, None, Result, Ok, Err, IsErr, flat_map, refl, sym, ◌∙◌, ap, subst}
use Rattle.std.proofs.Common.{append_assoc}
use Rattle.std.proofs.lemmas.List.{append-nil, drop_more, drop_all}
use Rattle.std.proofs.lemmas.List.Elements.{All-get_or}
use Rattle.text_io.specs.declared.outside.Failed.{Failed}
use Rattle.text_io.specs.declared.slots.OutSlot.TheVariants.{Report}
use Rattle.text_io.specs.declared.stop.Stop.{Stop}
use Rattle.text_io.specs.Desk.{DeskState, wrote, IsPrefix, WritesText}
use Rattle.text_io.specs.Line.{Gathers, StopsWithin, PutsText}
use Rattle.text_io.proofs.Wrote.{wrote-nil, wrote_more, IsPrefix-append, IsPrefix-front, flat_map-split}
use Rattle.text_io.proofs.LineLaws.{Gathers-Gathers, Gathers-stops, StopsWithin-more, flushes}
use Rattle.cell_machine.specs.declared.changes.Change.{Change}
use Rattle.cell_machine.specs.History.{IsProperFrom, ComesAfter}
use Rattle.stimulus.specs.declared.ports.Ports.{Ports}
use Rattle.stimulus.specs.DriveLines.{DriveLine, lines_after, lines_along}
use Rattle.stimulus.specs.TraceLine.{drive_line_text}
use Rattle.stimulus.specs.TraceText.{change_texts, trace_text}
use Rattle.stimulus.specs.Comparison.{Lines, lines_text, are_alike, compared_texts, compared_text, first_of, unlike_from}
use Rattle.stimulus.specs.Comparison.{first_unlike}
use Rattle.stimulus.specs.Writes.{WritesTrace, PutsTrace}

-- a call that stops before anything is put
pub puts_nothing : {T : Type 0} (s : DeskState) (l a n : List ℕ) (r : Result T Stop) → IsErr r → PutsTrace s s l a n r
puts_nothing s l a n (Ok x) e = absurd cc
puts_nothing s l a n (Err y) e =
    record { whole = tt; part = record { part = []; front = (l ++ a, refl); state = sym (wrote-nil s Report) } }

-- what is printed of changes that go on from a history, where this is printed after each history
abbrev pub texts_from : (List Change → List ℕ) → List Change → List Change → List ℕ
texts_from shown h [] = []
texts_from shown h (c ∷ cs) = shown (c ∷ h) ++ texts_from shown (c ∷ h) cs

-- How far a run has come. The simulators stand after a history, the rest of the changes goes on from there, and the text so
-- far, of which some waits, makes with that of the rest the whole text.
pub record Going (stands : List Change → Type 0) (shown : List Change → List ℕ) (n : ℕ) (s now : DeskState) (held : List ℕ)
    (rest : List Change) (whole : List ℕ) : Type 0 where
  pub history : List Change
  pub standing : stands history
  pub proper : IsProperFrom n history rest
  pub done : List ℕ
  pub gathered : Gathers s now Report [] done held
  pub joined : done ++ texts_from shown history rest ≡ whole

-- the run has begun: the text of the start was put
pub begins : (stands : List Change → Type 0) (shown : List Change → List ℕ) (n : ℕ) (s now : DeskState) (held : List ℕ)
    (changes : List Change) (whole : List ℕ)
    → stands [] → IsProperFrom n [] changes → Gathers s now Report [] (shown []) held
    → shown [] ++ texts_from shown [] changes ≡ whole
    → Going stands shown n s now held changes whole
begins stands shown n s now held changes whole start proper put same =
    record { history = []; standing = start; proper = proper; done = shown []; gathered = put; joined = same }

next_is : (xs : List Change) (i : ℕ) (x : Change) → i < length xs → x ≡ get_or xs i x → drop i xs ≡ x ∷ drop (i + 1) xs
next_is xs i x below is = drop_more xs i x below ∙ ap (λ y. y ∷ drop (i + 1) xs) (sym is)

-- it is of an input, and its time comes after the changes so far
pub next_proper : (n : ℕ) (h xs : List Change) (i : ℕ) (x : Change) → i < length xs → x ≡ get_or xs i x
    → IsProperFrom n h (drop i xs) → (x.pin < n) × ComesAfter x.at h
next_proper n h xs i x below is proper =
    let here : IsProperFrom n h (x ∷ drop (i + 1) xs) = subst (IsProperFrom n h) (next_is xs i x below is) proper in
    (here.0, here.1)

-- the next change was given, and its text put
pub goes_on : (stands later : List Change → Type 0) (shown : List Change → List ℕ) (n : ℕ) (s now next : DeskState)
    (held after : List ℕ) (xs : List Change) (i : ℕ) (x : Change) (whole : List ℕ)
    → i < length xs → x ≡ get_or xs i x → ((h : List Change) → stands h → later (x ∷ h))
    → Going stands shown n s now held (drop i xs) whole
    → ((h : List Change) → later (x ∷ h) → Gathers now next Report held (shown (x ∷ h)) after)
    → Going later shown n s next after (drop (i + 1) xs) whole
goes_on stands later shown n s now next held after xs i x whole below is steps g put =
    let rest = next_is xs i x below is in
    let proper : IsProperFrom n g.history (x ∷ drop (i + 1) xs) = subst (IsProperFrom n g.history) rest g.proper in
    let text = shown (x ∷ g.history) in
    let stood : later (x ∷ g.history) = steps g.history g.standing in
    record {
      history = x ∷ g.history;
      standing = stood;
      proper = proper.2;
      done = g.done ++ text;
      gathered = Gathers-Gathers s now next Report [] held after g.done text g.gathered (put g.history stood);
      joined = append_assoc g.done text (texts_from shown (x ∷ g.history) (drop (i + 1) xs))
          ∙ (ap (λ ys. g.done ++ texts_from shown g.history ys) (sym rest) ∙ g.joined);
    }

-- the next change was given, and its text not put whole
pub stops_in : {S T : Type 0} (stands later : List Change → Type 0) (shown : List Change
    → List ℕ) (n : ℕ) (s now next : DeskState) (held after : List ℕ) (xs : List Change) (i : ℕ) (x : Change) (whole : List ℕ)
    (y : Stop) (r : Result T Stop)
    → i < length xs → x ≡ get_or xs i x → ((h : List Change) → stands h → later (x ∷ h))
    → Going stands shown n s now held (drop i xs) whole
    → ((h : List Change) → later (x ∷ h) → PutsTrace {T = S} now next held (shown (x ∷ h)) after (Err y))
    → IsErr r → WritesTrace s next whole r
stops_in stands later shown n s now next held after xs i x whole y (Ok z) below is steps g put e = absurd cc
stops_in stands later shown n s now next held after xs i x whole y (Err z) below is steps g put e =
    let text = shown (x ∷ g.history) in
    let more = texts_from shown (x ∷ g.history) (drop (i + 1) xs) in
    let joined : g.done ++ (text ++ more) ≡ whole =
    ap (λ ys. g.done ++ texts_from shown g.history ys) (sym (next_is xs i x below is)) ∙ g.joined in
    let failed : StopsWithin now next Report (held ++ text) = (put g.history (steps g.history g.standing)).part in
    let stopped : StopsWithin s next Report (g.done ++ text) =
    Gathers-stops s now next Report [] held g.done text g.gathered failed in
    let part : StopsWithin s next Report (g.done ++ (text ++ more)) = StopsWithin-more s next Report g.done text more stopped in
    record { whole = tt; part = subst (StopsWithin s next Report) joined part }

-- all is put, and what waits is written
pub flushed : {S : Type 0} (stands : List Change → Type 0) (shown : List Change → List ℕ) (n : ℕ) (s now next : DeskState)
    (held : List ℕ) (xs : List Change) (i : ℕ) (whole : List ℕ) (r : Result S Failed)
    → length xs ≤ i → Going stands shown n s now held (drop i xs) whole → WritesText now next Report held r
    → WritesText s next Report whole r
flushed stands shown n s now next held xs i whole r over g w =
    let joined : g.done ≡ whole = sym (append-nil g.done)
    ∙ (ap (λ ys. g.done ++ texts_from shown g.history ys) (sym (drop_all i xs over)) ∙ g.joined) in
    subst (λ t. WritesText s next Report t r) joined (flushes s now next Report held g.done r g.gathered w)

-- What waits, and what is put behind it.

-- a text was put behind what waits, and nothing was written
pub appended : {T : Type 0} (s : DeskState) (l a n : List ℕ) (x : T) → n ≡ l ++ a → PutsText {T = T} s s Report l a n (Ok x)
appended s l a n x e = record { whole = record { written = []; state = sym (wrote-nil s Report); joined = sym e }; part = tt }

-- what waits was written
pub emptied : {S T : Type 0} (s t : DeskState) (l n : List ℕ) (x : S) (y : T) → n ≡ [] → WritesText {T = S} s t Report l (Ok x)
    → PutsText {T = T} s t Report l [] n (Ok y)
emptied s t l n x y e w =
    record { whole = record { written = l; state = w.whole; joined = ap (λ m. l ++ m) (sym e) }; part = tt }

pub not_emptied : {S T : Type 0} (s t : DeskState) (l n : List ℕ) (y : Failed) (r : Result T Failed)
    → WritesText {T = S} s t Report l (Err y) → IsErr r → PutsText s t Report l [] n r
not_emptied s t l n y (Ok x) w e = absurd cc
not_emptied s t l n y (Err z) w e = record {
  whole = tt;
  part = record {
    part = w.part.0;
    front = subst (IsPrefix w.part.0) (sym (append-nil l)) w.part.1;
    state = w.part.2;
  };
}

-- where nothing waits a text was written
pub written_alone : {T : Type 0} (s t : DeskState) (l a b n : List ℕ) (r : Result T Failed) → l ≡ [] → n ≡ l → a ≡ b
    → WritesText s t Report a r → PutsText s t Report l b n r
written_alone s t l a b n (Ok x) e f g w = record {
  whole = record {
    written = a;
    state = w.whole;
    joined = ap (λ m. m ++ b) e ∙ (sym g ∙ (sym (append-nil a) ∙ ap (λ m. a ++ m) (sym (f ∙ e))));
  };
  part = tt;
}
written_alone s t l a b n (Err y) e f g w = record {
  whole = tt;
  part = record {
    part = w.part.0;
    front = subst (IsPrefix w.part.0) (g ∙ ap (λ m. m ++ b) (sym e)) w.part.1;
    state = w.part.2;
  };
}

-- a text was put, as a trace's
pub put_whole : {S T : Type 0} (s t : DeskState) (l a b n : List ℕ) (x : S) (y : T) → a ≡ b
    → PutsText {T = S} s t Report l a n (Ok x) → PutsTrace {T = T} s t l b n (Ok y)
put_whole s t l a b n x y e p = record { whole = subst (λ u. Gathers s t Report l u n) e p.whole; part = tt }

pub put_stopped : {S T : Type 0} (s t : DeskState) (l a b n k : List ℕ) (y : Failed) (r : Result T Stop) → a ≡ b
    → PutsText {T = S} s t Report l a n (Err y) → IsErr r → PutsTrace s t l b k r
put_stopped s t l a b n k y (Ok x) e p f = absurd cc
put_stopped s t l a b n k y (Err z) e p f =
    record { whole = tt; part = subst (λ u. StopsWithin s t Report (l ++ u)) e p.part }

-- after one text, another
pub trace_on : {T : Type 0} (s t u : DeskState) (l m n a b : List ℕ) (r : Result T Stop) → Gathers s t Report l a m
    → PutsTrace t u m b n r → PutsTrace s u l (a ++ b) n r
trace_on s t u l m n a b (Ok x) p q = record { whole = Gathers-Gathers s t u Report l m n a b p q.whole; part = tt }
trace_on s t u l m n a b (Err y) p q = record { whole = tt; part = Gathers-stops s t u Report l m a b p q.part }

-- a stop within the first of two texts
pub trace_put_stops : {S T : Type 0} (s t : DeskState) (l m n a b : List ℕ) (y : Stop) (r : Result T Stop)
    → PutsTrace {T = S} s t l a m (Err y) → IsErr r → PutsTrace s t l (a ++ b) n r
trace_put_stops s t l m n a b y (Ok x) p e = absurd cc
trace_put_stops s t l m n a b y (Err z) p e = record { whole = tt; part = StopsWithin-more s t Report l a b p.part }

-- the same of one text
pub stays_stopped : {S T : Type 0} (s t : DeskState) (l a n k : List ℕ) (y : Stop) (r : Result T Stop)
    → PutsTrace {T = S} s t l a n (Err y) → IsErr r → PutsTrace s t l a k r
stays_stopped s t l a n k y (Ok x) p e = absurd cc
stays_stopped s t l a n k y (Err z) p e = record { whole = tt; part = p.part }

-- The text of one simulator.

abbrev pub newest : List Change → Option Change
newest [] = None
newest (c ∷ h) = Some c

abbrev pub one_shown : ℕ → Ports → (List Change → DriveLine) → List Change → List ℕ
one_shown tag ports line h = drive_line_text tag (newest h) ports.inputs ports.outputs (line h)

change_texts-are : (tag : ℕ) (ports : Ports) (line : List Change → DriveLine) (h cs : List Change)
    → texts_from (one_shown tag ports line) h cs ≡ change_texts tag ports cs (lines_after line h cs)
change_texts-are tag ports line h [] = refl
change_texts-are tag ports line h (c ∷ cs) =
    ap (λ t. drive_line_text tag (Some c) ports.inputs ports.outputs (line (c ∷ h)) ++ t)
    (change_texts-are tag ports line (c ∷ h) cs)

pub trace_text-is : (tag : ℕ) (ports : Ports) (line : List Change → DriveLine) (cs : List Change)
    → one_shown tag ports line [] ++ texts_from (one_shown tag ports line) [] cs ≡ trace_text tag ports cs (lines_along line cs)
trace_text-is tag ports line cs =
    ap (λ t. drive_line_text tag None ports.inputs ports.outputs (line []) ++ t) (change_texts-are tag ports line [] cs)

-- The text of three simulators.

abbrev pub three_shown : Ports → (List Change → Lines) → List Change → List ℕ
three_shown ports lines h = lines_text (newest h) ports (lines h)

compared_texts-are : (ports : Ports) (lines : List Change → Lines) (h cs : List Change)
    → texts_from (three_shown ports lines) h cs ≡ compared_texts ports cs (lines_after lines h cs)
compared_texts-are ports lines h [] = refl
compared_texts-are ports lines h (c ∷ cs) =
    ap (λ t. lines_text (Some c) ports (lines (c ∷ h)) ++ t) (compared_texts-are ports lines (c ∷ h) cs)

pub compared_text-is : (ports : Ports) (lines : List Change → Lines) (cs : List Change)
    → three_shown ports lines [] ++ texts_from (three_shown ports lines) [] cs ≡ compared_text ports cs lines
compared_text-is ports lines cs = ap (λ t. lines_text None ports (lines []) ++ t) (compared_texts-are ports lines [] cs)

-- the first number so far, or else the first one in the rest
abbrev pub or_later : Option ℕ → Option ℕ → Option ℕ
or_later (Some first) later = Some first
or_later None later = later

pub first_step : (alike : Bool) (first : Option ℕ) (number : ℕ) (later : Option ℕ)
    → or_later (first_of alike first number) later ≡ or_later first (if alike then later else Some number)
first_step true (Some first) number later = refl
first_step false (Some first) number later = refl
first_step true None number later = refl
first_step false None number later = refl

-- the three stand after this history
pub record Stand (liberty verilog vital : List Change → Type 0) (h : List Change) : Type 0 where
  pub of_liberty : liberty h
  pub of_verilog : verilog h
  pub of_vital : vital h

-- How far a run of three has come: as one, and the first number so far, or else that in the rest, is that of the whole.
pub record Comparing (stands : List Change → Type 0) (ports : Ports) (lines : List Change → Lines) (n : ℕ) (s now : DeskState)
    (held : List ℕ) (changes rest : List Change) (first : Option ℕ) (number : ℕ) : Type 0 where
  pub going : Going stands (three_shown ports lines) n s now held rest (compared_text ports changes lines)
  pub found : or_later first (unlike_from number (lines_after lines going.history rest)) ≡ first_unlike changes lines

pub compares : (stands later : List Change → Type 0) (ports : Ports) (lines : List Change
    → Lines) (n : ℕ) (s now next : DeskState) (held after : List ℕ) (xs : List Change) (i : ℕ) (x : Change) (first : Option ℕ)
    (number : ℕ) (alike : Bool)
    → i < length xs → x ≡ get_or xs i x → ((h : List Change) → stands h → later (x ∷ h))
    → Comparing stands ports lines n s now held xs (drop i xs) first number
    → ((h : List Change) → later (x ∷ h) → Gathers now next Report held (three_shown ports lines (x ∷ h)) after)
    → ((h : List Change) → later (x ∷ h) → alike ≡ are_alike (lines (x ∷ h)))
    → Comparing later ports lines n s next after xs (drop (i + 1) xs) (first_of alike first number) (number + 1)
unfolding goes_on
compares stands later ports lines n s now next held after xs i x first number alike below is steps c put shows =
    let rest = next_is xs i x below is in
    let h = c.going.history in
    let here : alike ≡ are_alike (lines (x ∷ h)) = shows h (steps h c.going.standing) in
    record {
      going = goes_on stands later (three_shown ports lines) n s now next held after xs i x (compared_text ports xs lines) below
          is steps c.going put;
      found = first_step alike first number (unlike_from (number + 1) (lines_after lines (x ∷ h) (drop (i + 1) xs)))
          ∙ (ap (λ b. or_later first (if b then unlike_from (number + 1) (lines_after lines (x ∷ h) (drop (i + 1) xs))
          else Some number)) here
          ∙ (ap (λ ys. or_later first (unlike_from number (lines_after lines h ys))) (sym rest) ∙ c.found));
    }

-- the run of three has begun: the text of the start was put
pub compares_first : (stands : List Change → Type 0) (ports : Ports) (lines : List Change → Lines) (n : ℕ) (s now : DeskState)
    (held : List ℕ) (cs : List Change) (first : Option ℕ) (alike : Bool)
    → stands [] → IsProperFrom n [] cs → Gathers s now Report [] (three_shown ports lines []) held → first ≡ first_of alike None 0
    → alike ≡ are_alike (lines [])
    → Comparing stands ports lines n s now held cs cs first 1
compares_first stands ports lines n s now held cs first alike start proper put e a = record {
  going = record {
    history = [];
    standing = start;
    proper = proper;
    done = three_shown ports lines [];
    gathered = put;
    joined =
        compared_text-is ports lines cs;
  };
  found = ap (λ f. or_later f (unlike_from 1 (lines_after lines [] cs))) e
      ∙ (first_step alike None 0 (unlike_from 1 (lines_after lines [] cs))
      ∙ ap (λ b. or_later None (if b then unlike_from 1 (lines_after lines [] cs) else Some 0)) a);
}

-- what is put and shown, where the machines stay the same
pub one_put : {S : Type 0} (later : List Change → Type 0) (tag : ℕ) (ports : Ports) (line shown : List Change
    → DriveLine) (now next : DeskState) (held after : List ℕ) (x : Change) (r : Result S Stop)
    → shown ≡ line → ((h : List Change) → later h
    → PutsTrace now next held (drive_line_text tag (Some x) ports.inputs ports.outputs (shown h)) after r)
    → (h : List Change) → later (x ∷ h) → PutsTrace now next held (one_shown tag ports line (x ∷ h)) after r
one_put later tag ports line shown now next held after x r same put h s =
    subst (λ l. PutsTrace now next held (drive_line_text tag (Some x) ports.inputs ports.outputs (l (x ∷ h))) after r) same
    (put (x ∷ h) s)

pub three_put : {S : Type 0} (liberty verilog vital : List Change → Type 0) (ports : Ports) (lines shown : List Change
    → Lines) (now next : DeskState) (held after : List ℕ) (x : Change) (r : Result S Stop)
    → shown ≡ lines → ((h : List Change) → liberty h → verilog h → vital h
    → PutsTrace now next held (lines_text (Some x) ports (shown h)) after r)
    → (h : List Change) → Stand liberty verilog vital (x ∷ h) → PutsTrace now next held (three_shown ports lines (x ∷ h)) after r
three_put liberty verilog vital ports lines shown now next held after x r same put h s =
    subst (λ l. PutsTrace now next held (lines_text (Some x) ports (l (x ∷ h))) after r) same
    (put (x ∷ h) s.of_liberty s.of_verilog s.of_vital)

pub three_alike : (liberty verilog vital : List Change → Type 0) (lines shown : List Change → Lines) (x : Change) (b : Bool)
    → shown ≡ lines → ((h : List Change) → liberty h → verilog h → vital h → b ≡ are_alike (shown h))
    → (h : List Change) → Stand liberty verilog vital (x ∷ h) → b ≡ are_alike (lines (x ∷ h))
three_alike liberty verilog vital lines shown x b same shows h s =
    subst (λ l. b ≡ are_alike (l (x ∷ h))) same (shows (x ∷ h) s.of_liberty s.of_verilog s.of_vital)

-- a text that was written but for its rest
pub written_part : {S T : Type 0} (s next : DeskState) (text : List ℕ) (y : Failed) (r : Result T Stop)
    → WritesText {T = S} s next Report text (Err y) → IsErr r → WritesTrace s next text r
written_part s next text y (Ok z) w e = absurd cc
written_part s next text y (Err z) w e =
    record { whole = tt; part = record { part = w.part.0; front = w.part.1; state = w.part.2 } }

-- behind one text that was appended, a call that appends another
pub behind : {T : Type 0} (s t u : DeskState) (a b : List ℕ) (r : Result T Stop) → t ≡ wrote s Report a → WritesTrace t u b r
    → WritesTrace s u (a ++ b) r
behind s t u a b (Ok x) e w = record { whole = wrote_more s t u Report a b e w.whole; part = tt }
behind s t u a b (Err y) e w = record {
  whole = tt;
  part = record {
    part = a ++ w.part.part;
    front = IsPrefix-append a w.part.part b w.part.front;
    state =
        wrote_more s t u Report a w.part.part e w.part.state;
  };
}

-- a stop within the first of two texts
pub stops_before : {S T : Type 0} (s t : DeskState) (a b : List ℕ) (y : Failed) (r : Result T Stop)
    → WritesText {T = S} s t Report a (Err y) → IsErr r
    → WritesTrace s t (a ++ b) r
stops_before s t a b y (Ok x) w e = absurd cc
stops_before s t a b y (Err z) w e =
    record { whole = tt; part = record { part = w.part.0; front = IsPrefix-front w.part.0 a b w.part.1; state = w.part.2 } }

-- a stop within the first of two texts, after some of it
pub trace_stops : {S T : Type 0} (s t : DeskState) (a b : List ℕ) (y : Stop) (r : Result T Stop)
    → WritesTrace {T = S} s t a (Err y) → IsErr r → WritesTrace s t (a ++ b) r
trace_stops s t a b y (Ok x) w e = absurd cc
trace_stops s t a b y (Err z) w e =
    record {
      whole = tt;
      part = record {
        part = w.part.part;
        front = IsPrefix-front w.part.part a b w.part.front;
        state =
            w.part.state;
      };
    }

-- a call that appends nothing and stops
pub appends_nothing : {T : Type 0} (s : DeskState) (text : List ℕ) (r : Result T Stop) → IsErr r → WritesTrace s s text r
appends_nothing s text (Ok x) e = absurd cc
appends_nothing s text (Err y) e =
    record { whole = tt; part = record { part = []; front = (text, refl); state = sym (wrote-nil s Report) } }

-- Texts of items, appended one behind another.

-- what holds of all holds of the next item
pub holds_next : {X : Type 0} (P : X → Type 0) (xs : List X) (i : ℕ) (x : X) → All P xs → i < length xs → x ≡ get_or xs i x → P x
holds_next P xs i x all h is = subst P (sym is) (All-get_or P xs i x h all)

-- a stop within the text of an item
pub part_of_item : {X S T : Type 0} (f : X → List ℕ) (xs : List X) (i : ℕ) (x : X) (s now new : DeskState) (y : Stop)
    (r : Result T Stop)
    → i < length xs → x ≡ get_or xs i x → now ≡ wrote s Report (flat_map f (take i xs))
    → WritesTrace {T = S} now new (f x) (Err y) → IsErr r
    → WritesTrace s new (flat_map f xs) r
part_of_item f xs i x s now new y r h is before item e =
    subst (λ text. WritesTrace s new text r) (sym (flat_map-split f xs i x h is))
    (behind s now new (flat_map f (take i xs)) (f x ++ flat_map f (drop (i + 1) xs)) r before
    (trace_stops now new (f x) (flat_map f (drop (i + 1) xs)) y r item e))
