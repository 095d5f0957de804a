-- `probes::changes_are_good` meets its contract: with as many results as indices, all pairs are good.
-- Assumes nothing.
use Rattle.std.proofs.Common.{rules, sym, ◌∙◌, ne_eqb}
use Rattle.std.proofs.lemmas.Iterator.{YieldsList-from_slice, YieldsList-from_zip}
use Rattle.std.proofs.lemmas.Iterator.Search.{all_from_yields_List}
use Rattle.probes.proofs.Tests.{other-lengths, equal-lengths, good_pair, good-pairs}
use borrow.Author.Tests.{tests}
use Rattle.probes.proofs.changes_are_good.Goals as goal

pub returns-then-indices-results : goal.returns-then-indices-results
returns-then-indices-results c =
    let n = c.args.length in
    let is = c.args.indices.now in
    let rs = c.args.results.now in
    all_from_yields_List (good_pair n) c.all.new.self _ c.all.result c.all.ensures.ran
    (YieldsList-from_zip (YieldsList-from_slice is cc) (YieldsList-from_slice rs cc)) (λ x b q k. search (rules, tests))
    ∙ (good-pairs n is rs ∙ sym (equal-lengths n is rs c.if-indices-results.true))

pub returns-else-indices-results : goal.returns-else-indices-results
returns-else-indices-results c =
    let is = c.args.indices.now in
    let rs = c.args.results.now in
    let f = c.if-indices-results.false in
    ne_eqb _ _ f ∙ sym (other-lengths c.args.length is rs f)
