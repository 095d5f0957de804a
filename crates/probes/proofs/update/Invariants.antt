-- The changes that are left, made on the list as it is then, leave what all changes leave of the list at entry.
use Rattle.std.proofs.Common.{◌≡◌}
use Rattle.probes.specs.Probes.{probe_changes}
use Rattle.probes.proofs.Changes.{applied}
use Rattle.probes.proofs.update.Given as goal

abbrev pub invariant-loop-index : goal.invariant-loop-index
invariant-loop-index l =
    applied l.list (probe_changes l.index-iterator.a.rest.now l.index-iterator.b.rest.now)
    ≡ applied l.initial.list (probe_changes l.indices l.results)
