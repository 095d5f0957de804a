-- `plain::next` meets its contract.
-- Assumes nothing.
use mathlib.Core.Path.{◌≡◌, refl, sym, ap, ◌∙◌}
use borrow.Author.Rules.{rules}
use Rattle.std.proofs.Common.{tests}
use Rattle.std.specs.List.{position_from}
use Rattle.std.specs.Prelude.{Option, None, Some, unwrap_or}
use Rattle.std.specs.Slice.{IsGetRangeResult}
use mathlib.Core.List.{List, []}
use Prim.Native.Nat.{ℕ}
use denote.Bor.{Bor}
use lib.ListN.{length, drop, drop_of_length-le}
use native.Mathlib.Omega.{arith}
use Rattle.std.proofs.lemmas.Grind.{common_steps}
use Rattle.std.proofs.lemmas.Iterator.{YieldsList-from_slice}
use Rattle.std.proofs.lemmas.Iterator.Adapters.{position_from-zero}
use Rattle.std.proofs.lemmas.Iterator.Search.{position_from_yields_List}
use Rattle.plain.specs.Answers.{next_report, first_piece, piece_at}
use Rattle.line.specs.Frame.{split}
use Rattle.plain.proofs.Offsets.{is_zero, found-frame, found-tail}
use Rattle.plain.proofs.next.Goals.{After-position}
use Rattle.plain.proofs.next.Goals as goal

place : (c : After-position) → c.position.result ≡ position_from is_zero 0 c.unwrap_or-rest.result.now
place c =
    position_from_yields_List is_zero _ _ c.position.result c.position.ensures.ran (YieldsList-from_slice _ c.iter.ensures.rest)
    (λ x b q k. search (rules, tests))
    ∙ position_from-zero is_zero c.unwrap_or-rest.result.now

-- a part that `get` finds is what stands from the offset on, and nothing stands where it finds none
rest-is : (w : List ℕ) (at : ℕ) (o : Option (Bor (List ℕ))) (d : Bor (List ℕ)) → IsGetRangeResult w at (length w) o → d.now ≡ []
    → (unwrap_or o d).now ≡ drop at w
rest-is w at None d h e = rw (e, drop_of_length-le w {i = at} (omega arith))
rest-is w at (Some x) d h e = grind (arith, common_steps)

rest : (c : After-position) → c.unwrap_or-rest.result.now ≡ drop c.args.at c.args.capture.now
rest c = rw c.unwrap_or-rest.ensures (rest-is _ _ c.get.result _ c.get.ensures.lookup refl)

pub returns-in-Some : goal.returns-in-Some
unfolding next_report piece_at
returns-in-Some c =
    let p = (goal.at.returns-in-Some c).After-position in
    found-frame c.unwrap_or-rest.result.now (sym c.in-Some.is ∙ place p) ∙ ap (λ v. first_piece (split v)) (rest p)

pub returns-in-None : goal.returns-in-None
unfolding next_report piece_at
returns-in-None c =
    let p = (goal.at.returns-in-None c).After-position in
    found-tail c.unwrap_or-rest.result.now (sym c.in-None.is ∙ place p) ∙ ap (λ v. first_piece (split v)) (rest p)
