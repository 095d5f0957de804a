-- Samples of the probe list: calls on a list of three records, and what each answers and leaves.
-- Assumes nothing: these are definitions.
use Rattle.std.specs.Prelude.{List, [], ◌∷◌, Ok, Err, ℕ}
use Rattle.probes.specs.declared.Probe.{Probe}
use Rattle.refusals.specs.declared.Refusal.TheVariants.{BadProbe}
use Rattle.probes.specs.Probes.{UpdateOutcome, update_outcome}

abbrev pub probe : ℕ → ℕ → Probe
probe a r = record { address = a; result = r }

abbrev pub three : List Probe
three = probe 80 9 ∷ probe 81 9 ∷ probe 82 9 ∷ []

-- indices, results, and what a call with them on the three records answers and leaves
pub record ProbeSample : Type 0 where
  pub indices : List ℕ
  pub results : List ℕ
  pub outcome : UpdateOutcome

abbrev pub done : List ℕ → List ℕ → List Probe → ProbeSample
done is rs l = record { indices = is; results = rs; outcome = update_outcome (Ok tt) l }

abbrev pub refused : List ℕ → List ℕ → ProbeSample
refused is rs = record { indices = is; results = rs; outcome = update_outcome (Err BadProbe) three }

abbrev pub probe_samples : List ProbeSample
probe_samples =
    -- no changes
    done [] [] three
    -- each allowed result
    ∷ done (2 ∷ 0 ∷ 1 ∷ []) (0 ∷ 2 ∷ 3 ∷ []) (probe 80 2 ∷ probe 81 3 ∷ probe 82 0 ∷ [])
    -- a part named twice
    ∷ done (1 ∷ 2 ∷ 1 ∷ []) (0 ∷ 2 ∷ 3 ∷ []) (probe 80 9 ∷ probe 81 3 ∷ probe 82 2 ∷ [])
    -- an index at the length, last
    ∷ refused (0 ∷ 3 ∷ []) (0 ∷ 0 ∷ [])
    -- results 1 and 4
    ∷ refused (0 ∷ 1 ∷ []) (0 ∷ 1 ∷ [])
    ∷ refused (0 ∷ []) (4 ∷ [])
    -- an index without a result, and a result without an index
    ∷ refused (0 ∷ 1 ∷ []) (0 ∷ [])
    ∷ refused [] (0 ∷ [])
    ∷ []
