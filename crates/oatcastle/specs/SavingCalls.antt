-- Saving and restoring the settings in the C interface: the number that each call returns, and what it leaves of what it is lent.
-- Assumes nothing: these are definitions.
use Rattle.std.specs.Prelude.{List, [], ◌∷◌, ℕ}
use Rattle.saving.specs.Calls
use Rattle.oatcastle.specs.Answers.{CallOutcome, call_outcome, CallReport, refused, given, answering_with}

-- ---- Save: the image's length

abbrev pub save_given : Calls.SaveReport → CallReport
save_given (Calls.written n) = given (n ∷ [])
save_given (Calls.SaveReport.refused n) = refused n

abbrev pub save_call_outcome : Calls.SaveOutcome → List ℕ → CallOutcome (List ℕ × List ℕ)
save_call_outcome o answer = answering_with o.room (save_given o.report) answer

abbrev pub save_call : List ℕ → List ℕ → List ℕ → CallOutcome (List ℕ × List ℕ)
save_call settings out answer = save_call_outcome (Calls.save_promise settings out) answer

-- ---- Restore: a fault's number, and its offset as the answer; else the answer stays

abbrev pub restore_call_outcome : Calls.RestoreReport → List ℕ → List ℕ → CallOutcome (List ℕ × List ℕ)
restore_call_outcome Calls.done settings answer = call_outcome 0 (settings, answer)
restore_call_outcome (Calls.RestoreReport.refused n) settings answer = call_outcome n (settings, answer)
restore_call_outcome (Calls.faulty n at) settings answer = call_outcome n (settings, at ∷ [])

abbrev pub restore_done : Calls.RestoreOutcome → List ℕ → CallOutcome (List ℕ × List ℕ)
restore_done o answer = restore_call_outcome o.report o.settings answer

abbrev pub restore_call : List ℕ → List ℕ → List ℕ → CallOutcome (List ℕ × List ℕ)
restore_call settings image answer = restore_done (Calls.restore_promise settings image) answer
