-- `saving::save::write_image` meets its contract. The loop's invariant: the records left, put at the offset, make the image whole.
-- Assumes nothing.
use mathlib.Core.Path.{refl, ◌∙◌}
use native.Mathlib.Omega.{arith}
use borrow.Author.Rules.{rules}
use Rattle.saving.specs.Calls.{image_bytes}
use Rattle.saving.proofs.ImageLaws.{length-on, records-put, end-put}
use Rattle.saving.proofs.save.write_image.Goals as goal

pub loop-key-init : goal.loop-key-init
unfolding image_bytes
loop-key-init c =
    (search rules, search rules, refl)

pub write_record-at-requires-clause-key_in_bounds : goal.write_record-at-requires-clause-key_in_bounds
write_record-at-requires-clause-key_in_bounds c =
    omega (arith, length-on c.args.settings.now c.loop-key.key (omega arith), c.loop-key.invariant.1)

pub loop-key-preserved : goal.loop-key-preserved
loop-key-preserved c =
    let put = c.write_record-at in
    let s = c.args.settings.now in
    let l = length-on s c.loop-key.key (omega arith) in (
      search rules,
      omega (arith, l, c.loop-key.invariant.1, put.ensures.value),
      records-put s c.loop-key.key (omega arith) _ _ (omega arith) put.ensures.value put.ensures.out_after ∙ c.loop-key.invariant.2,
    )

pub returns : goal.returns
returns c =
    c.copy.ensures
    ∙ end-put c.args.settings.now _ c.loop-key.key _ (omega arith) c.loop-key.invariant.1
    ∙ c.loop-key.invariant.2
