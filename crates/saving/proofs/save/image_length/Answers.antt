-- `saving::save::image_length` meets its contract.
-- The loop's invariant: n and the length of the records left are the image's length and the end mark's.
-- Assumes nothing.
use mathlib.Core.Path.{refl, ap}
use native.Mathlib.Omega.{arith}
use borrow.Author.Rules.{rules}
use lib.ListN.{length}
use Rattle.saving.specs.Calls.{image_bytes}
use Rattle.saving.proofs.ImageLaws.{length-on, records-end}
use Rattle.saving.proofs.save.image_length.Goals as goal

pub loop-key-init : goal.loop-key-init
unfolding image_bytes
loop-key-init c =
    (search rules, refl)

pub overflow_add-n : goal.overflow_add-n
overflow_add-n c =
    omega arith

pub loop-key-preserved : goal.loop-key-preserved
loop-key-preserved c =
    let l = length-on c.args.settings.now c.loop-key.key (omega arith) in
    (omega (arith, c.record_length-n.ensures.1), omega (arith, l, c.record_length-n.ensures.0, c.loop-key.invariant.1))

pub returns : goal.returns
returns c =
    let l = ap length (records-end c.args.settings.now c.loop-key.key (omega arith)) in
    omega (arith, l, c.loop-key.invariant.1)
