-- `form_length` meets its contract. The loop's invariant: o bytes of the form are made of the first i bytes of s.
-- Assumes nothing.
use mathlib.Core.Path.{refl}
use native.Mathlib.Omega.{arith}
use Rattle.line.proofs.Groups.{NextGroup, next-group, group-last, group-zero, group-full, zeros-next}
use Rattle.line.proofs.cobs.form_length.Goals as goal
use Rattle.line.proofs.cobs.form_length.Goals.{After-group_length-k}

pub loop-i-preserved-then-zeros-gt0 : goal.loop-i-preserved-then-zeros-gt0
loop-i-preserved-then-zeros-gt0 c =
    let l = c.loop-i in
    let zeros = c.next_alike-zeros in
    let z = zeros-next c.args.s.now c.args.n l.i l.o zeros.result zeros.ensures.0 zeros.ensures.1 l.invariant.met in
    record { inside = z.inside; most = omega arith; met = z.met }

-- the group that is next
next : (c : After-group_length-k) → NextGroup c.args.s.now c.args.n c.loop-i.i c.loop-i.o c.group_length-k.result
next c =
    let l = c.loop-i in
    next-group c.args.s.now c.args.n l.i l.o c.group_length-k.result _ c.requires.n_in_bounds l.invariant.inside l.invariant.met
    refl c.group_length-k.ensures.value

pub returns-then-i-n : goal.returns-then-i-n
returns-then-i-n c =
    group-last (next (goal.at.returns-then-i-n c).After-group_length-k) c.if-i-n.true

pub loop-i-preserved-then-k-lt-LONGEST_GROUP : goal.loop-i-preserved-then-k-lt-LONGEST_GROUP
loop-i-preserved-then-k-lt-LONGEST_GROUP c =
    let t = next (goal.at.loop-i-preserved-then-k-lt-LONGEST_GROUP c).After-group_length-k in
    record { inside = omega arith; most = omega arith; met = group-zero t (omega arith) c.if-k-lt-LONGEST_GROUP.true }

pub loop-i-preserved : goal.loop-i-preserved
loop-i-preserved c =
    let t = next (goal.at.loop-i-preserved c).After-group_length-k in
    record { inside = omega arith; most = omega arith; met = group-full t (omega arith) c.if-k-lt-LONGEST_GROUP.false }
