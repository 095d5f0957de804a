-- The probe list's call in the C interface: the number that it returns, and the list that it leaves.
-- Assumes nothing: these are definitions.
use Rattle.std.specs.Prelude.{List, ℕ}
use Rattle.probes.specs.declared.Probe.{Probe}
use Rattle.probes.specs.Probes as Probes
use Rattle.oatcastle.specs.Answers.{CallOutcome, call_outcome, call_number}

-- 0 or 15, and the list
abbrev pub probe_given : Probes.UpdateOutcome → CallOutcome (List Probe)
probe_given o = call_outcome (call_number o.refusal) o.list

abbrev pub probe_update_call : List Probe → List ℕ → List ℕ → CallOutcome (List Probe)
probe_update_call l indices results = probe_given (Probes.update_promise l indices results)
