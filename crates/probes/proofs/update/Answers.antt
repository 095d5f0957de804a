-- `probes::update` meets its contract: what the changes leave that are made one after the other is what is promised.
-- Assumes nothing.
use Rattle.std.proofs.Common.{◌≡◌, Bool, true, false, sym, ◌∙◌, ap, subst, Ok, [], inl, inr}
use mathlib.Core.Bool.{not}
use lib.Dec.{T}
use Rattle.probes.specs.Probes.{probe_changes, update_outcome}
use Rattle.probes.proofs.Changes.{applied, none-left, update_done, update_refused}
use Rattle.probes.proofs.update.Goals as goal

holds : {b c : Bool} → b ≡ c → b ≡ true → T c
holds e t = subst T (sym t ∙ e) tt

fails : {b c : Bool} → b ≡ c → b ≡ false → T (not c)
fails e t = subst (λ (d : Bool). T (not d)) (sym t ∙ e) tt

pub returns-then-not-changes_are_good : goal.returns-then-not-changes_are_good
returns-then-not-changes_are_good c =
    update_refused c.args.list.now c.args.indices.now c.args.results.now (fails c.changes_are_good.ensures c.if-not-changes_are_good.true)

pub loop-index-init : goal.loop-index-init
loop-index-init c =
    let zip = c.zip-index-items.ensures in
    rw (c.into_iter-index-iterator.ensures.into_iter_gives, zip.first, zip.second.0, c.iter.ensures.rest)

pub loop-index-preserved : goal.loop-index-preserved
unfolding applied probe_changes
loop-index-preserved c =
    let next = c.in-Some.ensures.steps in
    rw c.set_result.ensures (rw (next.0, next.1) at c.loop-index.invariant)

pub returns : goal.returns
unfolding applied
returns c =
    let l = c.loop-index in
    let a = l.index-iterator.a.rest.now in
    let b = l.index-iterator.b.rest.now in
    let e : probe_changes a b ≡ [] =
    elim c.in-None.ensures.steps [ inl x ↦ none-left a b (inl x.1.0) | inr x ↦ none-left a b (inr x.1.0) ] in
    ap (update_outcome (Ok tt)) (rw e at l.invariant)
    ∙ update_done c.args.list.now c.args.indices.now c.args.results.now (holds c.changes_are_good.ensures c.if-not-changes_are_good.false)
