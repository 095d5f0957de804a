-- What a call that is done leaves, in document 02's words.
-- Each part named has the result of the last change that names it, and all else stays. Assumes nothing.
use mathlib.Core.Path.{◌≡◌, refl, sym, ◌∙◌, ap}
use mathlib.Core.Bool.{Bool, cond}
use mathlib.Core.List.{List, [], ◌∷◌}
use Prim.Native.Nat.{ℕ, zero, suc, ◌+◌, ◌<◌}
use native.Mathlib.Nat.{add-zero, add-suc, suc-add, zero-add, le_of_suc-le-suc, not-suc-le-zero}
use lib.ListN.{length, get_or}
use lib.Seq.{get_or-set_other}
use borrow.Author.Tests.{eq-eqb, ne_eqb}
use Rattle.probes.specs.declared.Probe.{Probe}
use Rattle.probes.specs.Probes.{ProbeChange, with_result, latest, probes_from, no_probe}
use Rattle.probes.specs.Item4.{LastNamed, UnnamedStays, RecordAt, AsLong, AddressesStay, OthersStay}

pub unnamed_stays : UnnamedStays
unfolding latest
unnamed_stays k [] own u = refl
unnamed_stays k (c ∷ cs) own u =
    ap (λ (b : Bool). latest k cs (cond b c.result own)) (ne_eqb c.index k u.0) ∙ unnamed_stays k cs own u.1

pub last_named : LastNamed
unfolding latest
last_named k [] c behind own e u =
    ap (λ (b : Bool). latest k behind (cond b c.result own)) (eq-eqb c.index k e) ∙ unnamed_stays k behind c.result u
last_named k (b ∷ before) c behind own e u = last_named k before c behind _ e u

pub as_long : AsLong
unfolding probes_from
as_long k [] cs = refl
as_long k (p ∷ ps) cs = ap suc (as_long (suc k) ps cs)

record-from : (j k : ℕ) (l : List Probe) (cs : List ProbeChange) → k < length l
    → get_or (probes_from j l cs) k no_probe ≡ with_result (get_or l k no_probe) (latest (k + j) cs (get_or l k no_probe).result)
unfolding probes_from
record-from j k [] cs h = absurd (not-suc-le-zero h)
record-from j zero (p ∷ ps) cs h = ap (λ (m : ℕ). with_result p (latest m cs p.result)) (sym (zero-add j))
record-from j (suc k) (p ∷ ps) cs h =
    record-from (suc j) k ps cs (le_of_suc-le-suc h)
    ∙ ap (λ (m : ℕ). with_result (get_or ps k no_probe) (latest m cs (get_or ps k no_probe).result)) (add-suc k j ∙ sym (suc-add k j))

pub record-at : RecordAt
record-at k l cs h =
    record-from 0 k l cs h ∙ ap (λ (m : ℕ). with_result (get_or l k no_probe) (latest m cs (get_or l k no_probe).result)) (add-zero k)

pub addresses_stay : AddressesStay
unfolding probes_from
addresses_stay k [] cs = refl
addresses_stay k (p ∷ ps) cs = ap (λ (us : List ℕ). p.address ∷ us) (addresses_stay (suc k) ps cs)

pub others_stay : OthersStay
others_stay l i r k f = get_or-set_other l i k (with_result (get_or l i no_probe) r) no_probe f
