-- `digest::digest_on` meets its contract.
-- Assumes nothing.
use Rattle.std.proofs.Common.{◌≡◌, ◌+◌, ◌*◌, ◌%◌, ◌∙◌, rules}
use Rattle.std.specs.List.{fold}
use Rattle.text_lines.proofs.Laws.{digest-fold}
use Rattle.text_lines.proofs.digest.digest_on.Goals as goal

pub returns : goal.returns
returns c =
    let a = c.args in
    let e : c.fold.result ≡ fold (λ d b. (d * 31 + b + 1) % 65521) a.before a.s.now = search rules in
    e ∙ digest-fold a.before a.s.now
