-- Files within their limits that are not refused.
use Rattle.std.proofs.Common.{◌≡◌, ◌≤◌, ℕ, false, List, length, nat_lt, Ok, ap, ◌∙◌, arith}
use Rattle.std.proofs.lemmas.Bool.Decides.{nat_tests}
use Rattle.stimulus.specs.declared.sections.Section.{Section}
use Rattle.stimulus.specs.PortEntries.{NamedCells, listed}
use Rattle.stimulus.specs.Stimulus.{stimulus_of}
use Rattle.run_outcome.specs.FileSteps.{FileStop, FileAnswer, answer_where, answer_within}
use Rattle.model_files.specs.Languages.{Language}
use Rattle.model_files.specs.Limits.{model_limit, stimulus_limit}
use Rattle.model_files.specs.ModelAnswer.{long_model_stop, models_or_stop, models_in_text, model_answer}
use Rattle.model_files.specs.StimulusAnswer.{LineStop, long_stimulus_stop, sections_or_stop, sections_in_text, stimulus_answer}

-- a file within its limit is read as its bytes are
fits_within : {T : Type 0} (limit : ℕ) (long : FileStop) (read : FileAnswer T) (bytes : List ℕ) → length bytes ≤ limit
    → answer_within limit long read bytes ≡ read bytes
fits_within limit long read bytes h =
    let short : nat_lt limit (length bytes) ≡ false = grind (arith, nat_tests, h)
    in ap (λ b. answer_where long read b bytes) short

-- a file of models
pub model_whole : {M : Type 0} (l : Language M) (text : List ℕ) (models : List M) → length text ≤ model_limit
    → l.text text ≡ Ok models → model_answer l text ≡ Ok models
unfolding model_answer
model_whole l text models h e = fits_within model_limit (long_model_stop l.format) (models_in_text l) text h
    ∙ ap (models_or_stop l.format) e

-- a stimulus without a bad line
pub stimulus_whole : (at_line : LineStop) (catalog : NamedCells) (stimulus : List ℕ) (sections : List Section)
    → length stimulus ≤ stimulus_limit
    → stimulus_of (listed catalog) stimulus ≡ Ok sections → stimulus_answer at_line catalog stimulus ≡ Ok sections
stimulus_whole at_line catalog stimulus sections h e =
    fits_within stimulus_limit long_stimulus_stop (sections_in_text at_line catalog) stimulus h ∙ ap (sections_or_stop at_line) e
