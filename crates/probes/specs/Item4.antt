-- Document 02's item 4, of the probe list: when a call is refused, and what any other leaves of each record.
-- Assumes nothing: these are definitions and statements.
use Rattle.std.specs.Prelude.{◌≡◌, List, [], ◌∷◌, ◌++◌, map, ◌⊎◌, Ok, Err, ℕ, ◌<◌, length, get_or}
use Rattle.std.proofs.Math.Option.{none, some}
use Rattle.probes.specs.declared.Probe.{Probe}
use Rattle.refusals.specs.declared.Refusal.TheVariants.{BadProbe}
use Rattle.probes.specs.Probes.{ProbeChange, probe_changes, with_result, latest, probes_from, update_outcome, update_promise, no_probe}
use Rattle.probes.specs.Probes.{result_set}
use Rattle.probes.specs.Samples.{three, ProbeSample, probe_samples}

-- no change of a list names part k
abbrev pub Unnamed : ℕ → List ProbeChange → Type 0
Unnamed k [] = Unit {0}
Unnamed k (c ∷ cs) = (c.index ≡ k → ⊥) × Unnamed k cs

abbrev pub LastNamed : Type 0
LastNamed = (k : ℕ) (before : List ProbeChange) (c : ProbeChange) (behind : List ProbeChange) (own : ℕ) → c.index ≡ k → Unnamed k behind
    → latest k (before ++ c ∷ behind) own ≡ c.result

abbrev pub UnnamedStays : Type 0
UnnamedStays = (k : ℕ) (cs : List ProbeChange) (own : ℕ) → Unnamed k cs → latest k cs own ≡ own

abbrev pub RecordAt : Type 0
RecordAt = (k : ℕ) (l : List Probe) (cs : List ProbeChange) → k < length l
    → get_or (probes_from 0 l cs) k no_probe ≡ with_result (get_or l k no_probe) (latest k cs (get_or l k no_probe).result)

abbrev pub AsLong : Type 0
AsLong = (k : ℕ) (l : List Probe) (cs : List ProbeChange) → length (probes_from k l cs) ≡ length l

abbrev pub AddressesStay : Type 0
AddressesStay = (k : ℕ) (l : List Probe) (cs : List ProbeChange)
    → map (λ (p : Probe). p.address) (probes_from k l cs) ≡ map (λ (p : Probe). p.address) l

abbrev pub OthersStay : Type 0
OthersStay = (l : List Probe) (i r k : ℕ) → (k ≡ i → ⊥) → get_or (result_set l i r) k no_probe ≡ get_or l k no_probe

abbrev pub ProbeSamplesHold : Type 0
ProbeSamplesHold =
    map (λ (s : ProbeSample). update_promise three s.indices s.results) probe_samples
    ≡ map (λ (s : ProbeSample). s.outcome) probe_samples

abbrev pub EmptyList : Type 0
EmptyList = (update_promise [] [] [] ≡ update_outcome (Ok tt) []) × (update_promise [] (0 ∷ []) (0 ∷ []) ≡ update_outcome (Err BadProbe) [])

-- the list of n records has the part, and the result is 0, 2 or 3
abbrev pub GoodChange : ℕ → ProbeChange → Type 0
GoodChange n c = (c.index < n) × ((c.result ≡ 0) ⊎ (c.result ≡ 2) ⊎ (c.result ≡ 3))

abbrev pub AllGoodChanges : ℕ → List ProbeChange → Type 0
AllGoodChanges n [] = Unit {0}
AllGoodChanges n (c ∷ cs) = GoodChange n c × AllGoodChanges n cs

-- each index has its result, and each change is good
abbrev pub GoodUpdate : List Probe → List ℕ → List ℕ → Type 0
GoodUpdate l indices results = (length indices ≡ length results) × AllGoodChanges (length l) (probe_changes indices results)

abbrev pub UpdateDone : Type 0
UpdateDone = (l : List Probe) (indices results : List ℕ) → GoodUpdate l indices results
    → update_promise l indices results ≡ record { refusal = none; list = probes_from 0 l (probe_changes indices results) }

abbrev pub UpdateRefused : Type 0
UpdateRefused = (l : List Probe) (indices results : List ℕ) → (GoodUpdate l indices results → ⊥)
    → update_promise l indices results ≡ record { refusal = some 15; list = l }

pub record ProbesItem4 : Type 0 where
  -- A call is done if it has as many results as indices, indices all below the list's length, and results all 0, 2 or 3.
  -- The list's records are then these.
  pub update_done : UpdateDone
  -- any other changes nothing and is refused as 15, the call's only refusal
  pub update_refused : UpdateRefused
  -- a part has the result of the last change that names it, whatever comes before: a part named twice keeps the later result
  pub last_named : LastNamed
  -- a part that no change names keeps its result
  pub unnamed_stays : UnnamedStays
  -- record k is its own with the result that it has then
  pub record-at : RecordAt
  -- the list has as many records as before
  pub as_long : AsLong
  -- addresses never change
  pub addresses_stay : AddressesStay
  -- one record written leaves every other
  pub others_stay : OthersStay
  -- a call that is done, and one that is refused as 15, on a list of three
  pub samples_hold : ProbeSamplesHold
  -- on a list of no records, no changes at all are done, and one is refused
  pub empty_list : EmptyList
