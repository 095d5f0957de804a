-- The probe list (document 02, item 4): what a call's changes leave of each record, and when the call is refused.
-- Assumes nothing: these are definitions.
use Rattle.std.specs.Prelude.{Bool, true, cond, ◌&&◌, ◌||◌, List, [], ◌∷◌, Result, Ok, Err, ⊤, ℕ, suc, ltb, eqb, length, get_or, set}
use Rattle.std.proofs.Math.Option.{Option, none, some}
use Rattle.probes.specs.declared.Probe.{Probe}
use Rattle.refusals.specs.declared.Refusal.{Refusal}
use Rattle.refusals.specs.Refusals.{table_number}

-- ---- Changes

-- a part, named by its index in the list, and its new result
pub record ProbeChange : Type 0 where
  pub index : ℕ
  pub result : ℕ

abbrev pub probe_change : ℕ → ℕ → ProbeChange
probe_change i r = record { index = i; result = r }

-- the changes that two lists give, pair by pair
unfoldable pub probe_changes : List ℕ → List ℕ → List ProbeChange
probe_changes [] results = []
probe_changes (i ∷ indices) [] = []
probe_changes (i ∷ indices) (r ∷ results) = probe_change i r ∷ probe_changes indices results

-- a change of a list of n records: the list has the part, and the result is 0, 2 or 3
abbrev pub good_change : ℕ → ProbeChange → Bool
good_change n c = ltb c.index n && (eqb c.result 0 || (eqb c.result 2 || eqb c.result 3))

unfoldable pub all_good : ℕ → List ProbeChange → Bool
all_good n [] = true
all_good n (c ∷ cs) = good_change n c && all_good n cs

-- every index has its result, and every change is good
unfoldable pub good : ℕ → List ℕ → List ℕ → Bool
good n indices results = eqb (length indices) (length results) && all_good n (probe_changes indices results)

-- ---- What changes leave

-- a record with another result
abbrev pub with_result : Probe → ℕ → Probe
with_result p r = record { address = p.address; result = r }

-- the result of part k: that of the last change that names it, else its own
unfoldable pub latest : ℕ → List ProbeChange → ℕ → ℕ
latest k [] own = own
latest k (c ∷ cs) own = latest k cs (cond (eqb c.index k) c.result own)

-- the records from part k on, each with its result
unfoldable pub probes_from : ℕ → List Probe → List ProbeChange → List Probe
probes_from k [] cs = []
probes_from k (p ∷ ps) cs = with_result p (latest k cs p.result) ∷ probes_from (suc k) ps cs

-- ---- The call

pub record UpdateOutcome : Type 0 where
  pub refusal : Option ℕ
  pub list : List Probe

-- the number of each case
unfoldable pub update_report : Result ⊤ Refusal → Option ℕ
update_report (Ok done) = none
update_report (Err why) = some (table_number why)

abbrev pub update_outcome : Result ⊤ Refusal → List Probe → UpdateOutcome
update_outcome r l = record { refusal = update_report r; list = l }

-- each record brought up to date; 15 and the list as it was where a change is not good
unfoldable pub update_promise : List Probe → List ℕ → List ℕ → UpdateOutcome
update_promise l indices results =
    cond (good (length l) indices results)
    (record { refusal = none; list = probes_from 0 l (probe_changes indices results) })
    (record { refusal = some 15; list = l })

-- ---- One record written

abbrev pub no_probe : Probe
no_probe = record { address = 0; result = 0 }

-- the list with a result in the record at an index; a list without such a record stays
abbrev pub result_set : List Probe → ℕ → ℕ → List Probe
result_set l i r = set l i (with_result (get_or l i no_probe) r)
